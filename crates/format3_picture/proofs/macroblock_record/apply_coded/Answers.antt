-- `macroblock_record::apply_coded` meets its contract: it reads and writes the blocks, or passes on the refusal. Assumes nothing.
use mathlib.Core.Path.{◌≡◌, refl, sym, ap, ◌∙◌, subst}
use borrow.Author.Tests.{leb-true}
use lib.Dec.{leb}
use Rattle.symbols.proofs.Guard.{both}
use Rattle.decode_coefficients.specs.Macroblock.{scale_after, symbols_with_dc_left}
use Rattle.decode_macroblock.proofs.BlocksLaws.{macroblocks-none}
use Rattle.decode_state.specs.Plan.{plan_of}
use Rattle.decode_state.specs.declared.plan.Plan.{Plan}
use Rattle.format3_macroblock.proofs.Laws.Macroblock.{scale-legal-after, starting-legal}
use Rattle.format3_picture.specs.MacroblockRecord.{record_fit, fit_verdict}
use Rattle.format3_picture.specs.Requires.{PlanWritable}
use Rattle.format3_picture.proofs.ReadLaws.{given-legal, blocks-refused, blocks-read}
use Rattle.format3_picture.proofs.InvariantLaws.{makeable}
use Rattle.format3_picture.proofs.WriteLaws.{same-fit, later-pasts}
use Rattle.format3_picture.proofs.macroblock_record.apply_coded.Goals as goal

pub read_blocks_to_end-requires : goal.read_blocks_to_end-requires
read_blocks_to_end-requires c =
    let legal = scale-legal-after c.args.picture.slice.scale c.args.symbols c.requires.0.state.scale (given-legal c.requires.1).scale-legal in (
      rw c.starting-pasts.ensures (starting-legal _ c.args.symbols.increment c.requires.0.state.dc),
      rw c.scale_after-scale.ensures (leb-true _ _ (both (leb 1 (scale_after c.args.picture.slice.scale c.args.symbols)) (leb (scale_after c.args.picture.slice.scale c.args.symbols) 31) legal).1),
      refl,
      refl,
    )

pub returns-in_err-running-clause-output_after : goal.returns-in_err-running-clause-output_after
returns-in_err-running-clause-output_after c =
    let found = rw (c.scale_after-scale.ensures, c.starting-pasts.ensures) at c.in_err-running.ensures.parses_as in
    let e = blocks-refused c.args.matrices.now c.args.picture c.args.symbols c.args.rest.now found in
    rw e (macroblocks-none _ _ _ _)

pub write_coded-requires : goal.write_coded-requires
write_coded-requires c =
    let found = rw (c.scale_after-scale.ensures, c.starting-pasts.ensures) at c.in_ok-running.ensures.parses_as in
    let planned : c.with_dc-plan.result ≡ plan_of c.args.picture.header c.args.picture.next c.args.picture.slice (symbols_with_dc_left c.args.symbols c.in_ok-running.running) = rw (c.with_dc-plan.ensures, c.requires.2, c.left.ensures, c.has_part-is_intra.ensures) (later-pasts c.args.picture c.args.symbols c.in_ok-running.running) in
    let read = blocks-read c.args.matrices.now c.args.picture c.args.symbols c.args.rest.now found planned in (
      subst (λ (x : Plan). PlanWritable c.args.picture x c.args.forward.now c.args.backward.now c.args.output.now) (sym planned)
          (makeable c.args.picture _ c.requires.0.state (given-legal c.requires.1) c.requires.0.lent),
      c.requires.3 ∙ ap fit_verdict (sym (ap (record_fit c.args.picture.header.size) c.with_dc-plan.ensures ∙ same-fit c.args.picture.header.size c.args.start c.left.result)),
      record { in-range = read.in-range; marked = c.in_ok-running.ensures.blocks_marked },
    )

pub returns-clause-value : goal.returns-clause-value
returns-clause-value c =
    let found = rw (c.scale_after-scale.ensures, c.starting-pasts.ensures) at c.in_ok-running.ensures.parses_as in
    let planned : c.with_dc-plan.result ≡ plan_of c.args.picture.header c.args.picture.next c.args.picture.slice (symbols_with_dc_left c.args.symbols c.in_ok-running.running) = rw (c.with_dc-plan.ensures, c.requires.2, c.left.ensures, c.has_part-is_intra.ensures) (later-pasts c.args.picture c.args.symbols c.in_ok-running.running) in
    let read = blocks-read c.args.matrices.now c.args.picture c.args.symbols c.args.rest.now found planned in
    rw read.comes-to c.write_coded.ensures.value

pub returns-clause-output_after : goal.returns-clause-output_after
returns-clause-output_after c =
    let found = rw (c.scale_after-scale.ensures, c.starting-pasts.ensures) at c.in_ok-running.ensures.parses_as in
    let planned : c.with_dc-plan.result ≡ plan_of c.args.picture.header c.args.picture.next c.args.picture.slice (symbols_with_dc_left c.args.symbols c.in_ok-running.running) = rw (c.with_dc-plan.ensures, c.requires.2, c.left.ensures, c.has_part-is_intra.ensures) (later-pasts c.args.picture c.args.symbols c.in_ok-running.running) in
    let read = blocks-read c.args.matrices.now c.args.picture c.args.symbols c.args.rest.now found planned in
    rw read.comes-to c.write_coded.ensures.output_after
