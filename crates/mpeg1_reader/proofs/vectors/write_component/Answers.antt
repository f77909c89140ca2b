-- `write_component` meets its contract: it writes the code and residual that it reads. Assumes nothing.
use Rattle.std.proofs.Common.{rules, ◌≡◌, w8, to_z, of_z}
use mir.ValLaws.{to_z-of_z}
use Rattle.symbols.proofs.Parsed.{all-as}
use Rattle.format3_writer.specs.Records.{vector_code_bytes}
use Rattle.mpeg1_reader.proofs.Laws.Writing.{unwritten, component-read}
use Rattle.mpeg1_reader.proofs.vectors.write_component.Goals as goal

pub returns-in_err-component-clause-written_at : goal.returns-in_err-component-clause-written_at
returns-in_err-component-clause-written_at c = unwritten _ _ c.in_err-component.ensures

pub returns-clause-written_at : goal.returns-clause-written_at
unfolding vector_code_bytes
returns-clause-written_at c =
    let code = c.in_ok-component.component.code in
    let same : to_z w8 (of_z w8 code) ≡ code = to_z-of_z w8 code (search rules) in
    all-as (component-read _ c.in_ok-component.ensures) (rw (← same) c.write_vector_code.ensures)
