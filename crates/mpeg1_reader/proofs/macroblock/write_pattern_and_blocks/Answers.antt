-- `write_pattern_and_blocks` meets its contract: it writes the blocks after the pattern. Assumes nothing.
use mathlib.Core.List.{List}
use mathlib.Core.Path.{refl}
use Prim.Native.Nat.{ℕ}
use native.Mathlib.Omega.{arith}
use Rattle.symbols.specs.MacroblockType.{is_intra}
use Rattle.symbols.specs.Block.{Block}
use Rattle.symbols.proofs.Parsed.{none, all-at, all-as}
use Rattle.format3_writer.specs.Records.{pattern_bytes, blocks_bytes}
use Rattle.format3_writer.proofs.Laws.Lengths.{pattern-short}
use Rattle.mpeg1_bits.specs.declared.BitPosition.{BitPosition}
use Rattle.mpeg1_slice.specs.Read.{Read}
use Rattle.mpeg1_slice.specs.Blocks.{blocks_from}
use Rattle.mpeg1_slice.specs.Macroblock.{PatternAndBlocks, pattern_at, pattern_and_blocks_at}
use Rattle.mpeg1_slice.proofs.Laws.Read.{step-read, step-refused, standing}
use Rattle.mpeg1_slice.proofs.Laws.Onward.{pattern-onward}
use Rattle.mpeg1_reader.specs.WriteAnswer.{pattern_and_blocks_field_bytes}
use Rattle.mpeg1_reader.specs.declared.write_answer.Written.{Written}
use Rattle.mpeg1_reader.proofs.Laws.Writing.{Part, part-done, part-refused, both-written}
use Rattle.mpeg1_reader.proofs.Laws.Lengths.{pattern-small}
use Rattle.mpeg1_reader.proofs.Laws.Few.{blocks-size}
use Rattle.mpeg1_reader.proofs.Laws.Blocks.{blocks-as}
use Rattle.mpeg1_reader.proofs.macroblock.write_pattern_and_blocks.Goals as goal

pub overflow_cast-pattern : goal.overflow_cast-pattern
overflow_cast-pattern c = omega (arith, all-at (pattern-small _ _ _) (step-read _ c.in_ok-word.ensures refl))

pub overflow_add-blocks_offset : goal.overflow_add-blocks_offset
overflow_add-blocks_offset c = omega (arith, c.write_pattern-first.ensures.value, pattern-short c.args.macroblock_type c.in_ok-word.word, c.requires.1)

pub write_blocks-requires : goal.write_blocks-requires
write_blocks-requires c =
    let inside = (all-at (pattern-onward _ _ (standing c.requires.0)) (step-read _ c.in_ok-word.ensures refl)).inside in
    (inside, omega (arith, c.write_pattern-first.ensures.value, pattern-short c.args.macroblock_type c.in_ok-word.word, c.requires.1))

pub overflow_add-result : goal.overflow_add-result
overflow_add-result c =
    omega (arith, c.write_pattern-first.ensures.value, pattern-short c.args.macroblock_type c.in_ok-word.word, blocks-size _ _ _ _ c.in_ok-second.ensures.value)

pub returns-in_err-word-clause-written_at : goal.returns-in_err-word-clause-written_at
unfolding pattern_and_blocks_at
returns-in_err-word-clause-written_at c = rw (step-refused _ c.in_err-word.ensures refl) none

pub returns-in_err-second-clause-written_at : goal.returns-in_err-second-clause-written_at
unfolding pattern_and_blocks_at
returns-in_err-second-clause-written_at c =
    let blocks-refused = part-refused _ _ c.in_err-second.ensures.value in
    rw (step-read _ c.in_ok-word.ensures refl, ← c.has_part-intra.ensures, blocks-refused) none

pub returns-clause-written_at : goal.returns-clause-written_at
unfolding pattern_and_blocks_at
returns-clause-written_at c =
    let type = c.args.macroblock_type in
    let patterned : ℕ → List ℕ = pattern_bytes type in
    let coded : List Block → List ℕ = blocks_bytes (is_intra type) in
    let pattern = pattern_at type c.args.bytes.now c.args.from in
    let blocks : ℕ → BitPosition → Read (List Block) = λ v p. blocks_from (is_intra type) v 6 0 c.args.bytes.now p in
    let join : ℕ → List Block → PatternAndBlocks = λ value some. record { pattern = value; blocks = some } in
    let first : Written = record { at = c.in_ok-word.at; size = c.write_pattern-first.result } in
    let value = step-read pattern c.in_ok-word.ensures refl in
    let front : Part patterned pattern first = record { value = c.in_ok-word.word; is = value; size = c.write_pattern-first.ensures.value } in
    let known = blocks-as _ _ _ _ _ _ _ c.has_part-intra.ensures (c.in_ok-second.ensures.value, c.in_ok-second.ensures.written_at) in
    let back = part-done coded (blocks c.in_ok-word.word c.in_ok-word.at) known.0 in
    both-written patterned coded (pattern_and_blocks_field_bytes type) pattern blocks join front back c.args.offset _ refl (all-as value c.write_pattern-first.ensures.buffer_after) known.1
