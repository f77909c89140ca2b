-- `write_vectors_and_blocks` meets its contract: it writes pattern and blocks after the vectors. Assumes nothing.
use mathlib.Core.List.{List}
use mathlib.Core.Path.{refl}
use Prim.Native.Nat.{ℕ}
use native.Mathlib.Omega.{arith}
use Rattle.symbols.specs.declared.vector_codes.Vectors.{Vectors}
use Rattle.symbols.proofs.Parsed.{none}
use Rattle.mpeg1_bits.specs.declared.BitPosition.{BitPosition}
use Rattle.mpeg1_slice.specs.Read.{Read}
use Rattle.mpeg1_slice.specs.Macroblock.{PatternAndBlocks, VectorsAndBlocks, vectors_at, pattern_and_blocks_at, vectors_and_blocks_at}
use Rattle.mpeg1_slice.proofs.Laws.Read.{standing}
use Rattle.mpeg1_slice.proofs.Laws.Onward.{vectors-onward}
use Rattle.mpeg1_reader.specs.WriteAnswer.{vectors_field_bytes, pattern_and_blocks_field_bytes, vectors_and_blocks_bytes}
use Rattle.mpeg1_reader.proofs.Laws.Writing.{part-done, part-refused, ends-inside, both-written}
use Rattle.mpeg1_reader.proofs.Laws.Lengths.{vectors-size}
use Rattle.mpeg1_reader.proofs.Laws.Few.{pattern-and-blocks-size}
use Rattle.mpeg1_reader.proofs.macroblock.write_vectors_and_blocks.Goals as goal

abbrev join : Vectors → PatternAndBlocks → VectorsAndBlocks
join v r = record { vectors = v; pattern_and_blocks = r }

pub overflow_add-offset : goal.overflow_add-offset
overflow_add-offset c = omega (arith, vectors-size c.args.macroblock_type _ c.in_ok-first.ensures.value, c.requires.3)

pub write_pattern_and_blocks-requires : goal.write_pattern_and_blocks-requires
write_pattern_and_blocks-requires c =
    let inside = ends-inside _ _ (vectors-onward _ _ _ _ (standing c.requires.0)) c.in_ok-first.ensures.value in
    (inside, omega (arith, vectors-size c.args.macroblock_type _ c.in_ok-first.ensures.value, c.requires.3))

pub overflow_add-result : goal.overflow_add-result
overflow_add-result c = omega (arith, vectors-size c.args.macroblock_type _ c.in_ok-first.ensures.value, pattern-and-blocks-size _ _ _ c.in_ok-second.ensures.value)

pub returns-in_err-first-clause-written_at : goal.returns-in_err-first-clause-written_at
unfolding vectors_and_blocks_at
returns-in_err-first-clause-written_at c = rw (part-refused _ _ c.in_err-first.ensures.value) none

pub returns-in_err-second-clause-written_at : goal.returns-in_err-second-clause-written_at
unfolding vectors_and_blocks_at
returns-in_err-second-clause-written_at c =
    let front = part-done _ _ c.in_ok-first.ensures.value in
    rw (front.is, part-refused _ _ c.in_err-second.ensures.value) none

pub returns-clause-written_at : goal.returns-clause-written_at
unfolding vectors_and_blocks_at
returns-clause-written_at c =
    let type = c.args.macroblock_type in
    let ahead : Vectors → List ℕ = vectors_field_bytes type in
    let behind : PatternAndBlocks → List ℕ = pattern_and_blocks_field_bytes type in
    let vectors = vectors_at type c.args.forward c.args.backward c.args.bytes.now c.args.from in
    let pattern_and_blocks : Vectors → BitPosition → Read PatternAndBlocks = λ v p. pattern_and_blocks_at type c.args.bytes.now p in
    let front = part-done ahead vectors c.in_ok-first.ensures.value in
    let back = part-done behind (pattern_and_blocks front.value c.in_ok-first.first.at) c.in_ok-second.ensures.value in
    both-written ahead behind (vectors_and_blocks_bytes type) vectors pattern_and_blocks join front back c.args.offset _ refl c.in_ok-first.ensures.written_at c.in_ok-second.ensures.written_at
