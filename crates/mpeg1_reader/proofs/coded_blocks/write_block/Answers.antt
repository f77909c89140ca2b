-- `write_block` meets its contract: it writes the pairs after the difference. Assumes nothing.
use mathlib.Core.List.{List}
use mathlib.Core.Path.{refl}
use Prim.Native.Nat.{ℕ}
use native.Mathlib.Omega.{arith}
use lib.IntN.{ℤ}
use Rattle.symbols.specs.declared.pair.Pair.{Pair}
use Rattle.symbols.specs.Block.{Block, coded}
use Rattle.symbols.proofs.Parsed.{none}
use Rattle.format3_writer.specs.Records.{difference_bytes, levels_bytes, block_bytes}
use Rattle.mpeg1_bits.specs.declared.BitPosition.{BitPosition}
use Rattle.mpeg1_slice.specs.Read.{Read}
use Rattle.mpeg1_slice.specs.Blocks.{given_difference_at, pairs_at, block_at}
use Rattle.mpeg1_slice.proofs.Laws.Read.{standing}
use Rattle.mpeg1_slice.proofs.Laws.Onward.{given-difference-onward}
use Rattle.mpeg1_reader.proofs.Laws.Writing.{part-done, part-refused, ends-inside, both-written}
use Rattle.mpeg1_reader.proofs.Laws.Lengths.{difference-size}
use Rattle.mpeg1_reader.proofs.Laws.Few.{pairs-size}
use Rattle.mpeg1_reader.proofs.coded_blocks.write_block.Goals as goal

abbrev join : ℤ → List Pair → Block
join difference pairs = coded difference pairs

pub overflow_add-pairs_offset : goal.overflow_add-pairs_offset
overflow_add-pairs_offset c = omega (arith, difference-size _ _ c.in_ok-first.ensures.value, c.requires.1)

pub write_pairs-requires : goal.write_pairs-requires
write_pairs-requires c =
    let inside = ends-inside _ _ (given-difference-onward _ _ _ (standing c.requires.0)) c.in_ok-first.ensures.value in
    (inside, omega (arith, difference-size _ _ c.in_ok-first.ensures.value, c.requires.1))

pub overflow_add-result : goal.overflow_add-result
overflow_add-result c = omega (arith, difference-size _ _ c.in_ok-first.ensures.value, pairs-size _ _ _ c.in_ok-second.ensures.value)

pub returns-in_err-first-clause-written_at : goal.returns-in_err-first-clause-written_at
unfolding block_at
returns-in_err-first-clause-written_at c = rw (part-refused _ _ c.in_err-first.ensures.value) none

pub returns-in_err-second-clause-written_at : goal.returns-in_err-second-clause-written_at
unfolding block_at
returns-in_err-second-clause-written_at c =
    let front = part-done _ _ c.in_ok-first.ensures.value in
    rw (front.is, part-refused _ _ c.in_err-second.ensures.value) none

pub returns-clause-written_at : goal.returns-clause-written_at
unfolding block_at block_bytes
returns-clause-written_at c =
    let dc : ℤ → List ℕ = difference_bytes c.args.intra in
    let difference = given_difference_at c.args.intra c.args.block c.args.bytes.now c.args.from in
    let pairs : ℤ → BitPosition → Read (List Pair) = λ d p. pairs_at c.args.intra c.args.bytes.now p in
    let front = part-done dc difference c.in_ok-first.ensures.value in
    let back = part-done levels_bytes (pairs front.value c.in_ok-first.first.at) c.in_ok-second.ensures.value in
    both-written dc levels_bytes (block_bytes c.args.intra) difference pairs join front back c.args.offset _ refl c.in_ok-first.ensures.written_at c.in_ok-second.ensures.written_at
