-- `write_vectors` meets its contract: it writes the backward codes after the forward ones. Assumes nothing.
use mathlib.Core.List.{List}
use mathlib.Core.Path.{refl}
use Prim.Native.Nat.{ℕ}
use native.Mathlib.Omega.{arith}
use Rattle.symbols.specs.declared.vector_codes.VectorCodes.{VectorCodes}
use Rattle.symbols.specs.declared.vector_codes.Vectors.{Vectors}
use Rattle.symbols.specs.MacroblockType.{has_forward, has_backward}
use Rattle.symbols.proofs.Parsed.{none}
use Rattle.format3_writer.specs.Records.{given_vector_codes_bytes}
use Rattle.mpeg1_bits.specs.declared.BitPosition.{BitPosition}
use Rattle.mpeg1_slice.specs.Read.{Read}
use Rattle.mpeg1_slice.specs.Vectors.{given_vector_codes_at}
use Rattle.mpeg1_slice.specs.Macroblock.{vectors_at}
use Rattle.mpeg1_slice.proofs.Laws.Read.{standing}
use Rattle.mpeg1_slice.proofs.Laws.Onward.{given-onward}
use Rattle.mpeg1_reader.specs.WriteAnswer.{vectors_field_bytes}
use Rattle.mpeg1_reader.proofs.Laws.Writing.{part-done, part-refused, ends-inside, both-written}
use Rattle.mpeg1_reader.proofs.Laws.Lengths.{given-size}
use Rattle.mpeg1_reader.proofs.vectors.write_vectors.Goals as goal

abbrev join : VectorCodes → VectorCodes → Vectors
join first second = record { forward = first; backward = second }

pub overflow_add-offset : goal.overflow_add-offset
overflow_add-offset c = omega (arith, given-size _ _ c.in_ok-first.ensures.value, c.requires.3)

pub write_given_vector_codes-requires-2 : goal.write_given_vector_codes-requires-2
write_given_vector_codes-requires-2 c =
    let inside = ends-inside _ _ (given-onward _ _ _ (standing c.requires.0)) c.in_ok-first.ensures.value in
    (inside, c.requires.2, omega (arith, given-size _ _ c.in_ok-first.ensures.value, c.requires.3), omega arith)

pub overflow_add-result : goal.overflow_add-result
overflow_add-result c = omega (arith, given-size _ _ c.in_ok-first.ensures.value, given-size _ _ c.in_ok-second.ensures.value)

pub returns-in_err-first-clause-written_at : goal.returns-in_err-first-clause-written_at
unfolding vectors_at
returns-in_err-first-clause-written_at c = rw (part-refused _ _ c.in_err-first.ensures.value) none

pub returns-in_err-second-clause-written_at : goal.returns-in_err-second-clause-written_at
unfolding vectors_at
returns-in_err-second-clause-written_at c =
    let front = part-done _ _ c.in_ok-first.ensures.value in
    rw (front.is, part-refused _ _ c.in_err-second.ensures.value) none

pub returns-clause-written_at : goal.returns-clause-written_at
unfolding vectors_at
returns-clause-written_at c =
    let ahead : VectorCodes → List ℕ = given_vector_codes_bytes (has_forward c.args.macroblock_type) in
    let behind : VectorCodes → List ℕ = given_vector_codes_bytes (has_backward c.args.macroblock_type) in
    let forward = given_vector_codes_at (has_forward c.args.macroblock_type) c.args.forward c.args.bytes.now c.args.from in
    let backward : VectorCodes → BitPosition → Read VectorCodes = λ codes p. given_vector_codes_at (has_backward c.args.macroblock_type) c.args.backward c.args.bytes.now p in
    let front = part-done ahead forward c.in_ok-first.ensures.value in
    let back = part-done behind (backward front.value c.in_ok-first.first.at) c.in_ok-second.ensures.value in
    both-written ahead behind (vectors_field_bytes c.args.macroblock_type) forward backward join front back c.args.offset _ refl c.in_ok-first.ensures.written_at c.in_ok-second.ensures.written_at
