-- `read_slice_head` meets its contract: it reads start code and scale, and skips the extra information. Assumes nothing.
use Rattle.std.proofs.Common.{refl, arith}
use Rattle.symbols.proofs.Parsed.{all-at}
use Rattle.mpeg1_slice.proofs.Laws.Read.{step-read, standing, field-onward, field_below}
use Rattle.mpeg1_reader.proofs.Laws.Start.{start-row}
use Rattle.mpeg1_reader.proofs.slice_head.read_slice_head.Goals as goal

pub next_field-requires : goal.next_field-requires
next_field-requires c = ((all-at (start-row _ _) (step-read _ c.in_ok-row.ensures refl)).inside, omega arith)

pub skip_extra-requires : goal.skip_extra-requires
skip_extra-requires c =
    let row = all-at (start-row c.args.height c.args.bytes.now) (step-read _ c.in_ok-row.ensures refl) in
    (all-at (field-onward (standing row.inside) 5) (step-read _ c.in_ok-scale.ensures refl)).inside

pub overflow_cast-result : goal.overflow_cast-result
overflow_cast-result c = omega (arith, (all-at (start-row c.args.height c.args.bytes.now) (step-read _ c.in_ok-row.ensures refl)).most)

pub overflow_cast-result-2 : goal.overflow_cast-result-2
overflow_cast-result-2 c = omega (arith, all-at (field_below _ _ 5) (step-read _ c.in_ok-scale.ensures refl))
