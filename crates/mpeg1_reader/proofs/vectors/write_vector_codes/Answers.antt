-- `write_vector_codes` meets its contract: it writes the vertical component after the horizontal one. Assumes nothing.
use mathlib.Core.Path.{refl}
use native.Mathlib.Omega.{arith}
use Rattle.symbols.specs.declared.vector_codes.VectorCode.{VectorCode}
use Rattle.symbols.specs.declared.vector_codes.VectorCodes.{VectorCodes}
use Rattle.symbols.proofs.Parsed.{none}
use Rattle.format3_writer.specs.Records.{vector_codes_bytes}
use Rattle.mpeg1_bits.specs.declared.BitPosition.{BitPosition}
use Rattle.mpeg1_slice.specs.Read.{Read}
use Rattle.mpeg1_slice.specs.Vectors.{component_at, vector_codes_at}
use Rattle.mpeg1_slice.proofs.Laws.Read.{standing}
use Rattle.mpeg1_slice.proofs.Laws.Onward.{motion-onward}
use Rattle.mpeg1_reader.specs.WriteAnswer.{component_bytes}
use Rattle.mpeg1_reader.proofs.Laws.Writing.{part-done, part-refused, ends-inside, both-written}
use Rattle.mpeg1_reader.proofs.Laws.Lengths.{component-size}
use Rattle.mpeg1_reader.proofs.vectors.write_vector_codes.Goals as goal

abbrev join : VectorCode → VectorCode → VectorCodes
join horizontal vertical = record { horizontal = horizontal; vertical = vertical }

pub overflow_add-vertical_offset : goal.overflow_add-vertical_offset
overflow_add-vertical_offset c = omega (arith, component-size _ c.in_ok-first.ensures.value, c.requires.2)

pub write_component-requires-2 : goal.write_component-requires-2
write_component-requires-2 c = (ends-inside _ _ (motion-onward _ _ (standing c.requires.0)) c.in_ok-first.ensures.value, c.requires.1)

pub overflow_add-result : goal.overflow_add-result
overflow_add-result c = omega (arith, component-size _ c.in_ok-first.ensures.value, component-size _ c.in_ok-second.ensures.value)

pub returns-in_err-first-clause-written_at : goal.returns-in_err-first-clause-written_at
unfolding vector_codes_at
returns-in_err-first-clause-written_at c = rw (part-refused _ _ c.in_err-first.ensures.value) none

pub returns-in_err-second-clause-written_at : goal.returns-in_err-second-clause-written_at
unfolding vector_codes_at
returns-in_err-second-clause-written_at c =
    let front = part-done _ _ c.in_ok-first.ensures.value in
    rw (front.is, part-refused _ _ c.in_err-second.ensures.value) none

pub returns-clause-written_at : goal.returns-clause-written_at
unfolding vector_codes_at vector_codes_bytes
returns-clause-written_at c =
    let first = component_at c.args.f_code c.args.bytes.now c.args.from in
    let second : VectorCode → BitPosition → Read VectorCode = λ horizontal p. component_at c.args.f_code c.args.bytes.now p in
    let front = part-done component_bytes first c.in_ok-first.ensures.value in
    let back = part-done component_bytes (second front.value c.in_ok-first.first.at) c.in_ok-second.ensures.value in
    both-written component_bytes component_bytes vector_codes_bytes first second join front back c.args.offset _ refl c.in_ok-first.ensures.written_at c.in_ok-second.ensures.written_at
