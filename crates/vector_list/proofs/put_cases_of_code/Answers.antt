-- `put_cases_of_code` meets its contract: a line for each residual so far is written. Assumes nothing.
use mir.Syntax.{w32}
use mir.ValLaws.{to_z-of_z}
use Rattle.decode_vectors.specs.Vector.{f_of}
use Rattle.text_writer.proofs.PutLaws.{put, put-none, put-block, block-fits, put_all}
use Rattle.vector_list.proofs.BlockLaws.{residual-lines}
use Rattle.vector_list.proofs.put_cases_of_code.Goals as goal

pub loop-residual-init : goal.loop-residual-init
loop-residual-init c = put-none

pub put_case-end-requires : goal.put_case-end-requires
put_case-end-requires c =
    let whole = rw residual-lines at c.requires.code_in_bounds in
    block-fits c.loop-residual.invariant c.loop-residual-test.true
    (rw (c.residual_count-count.ensures, c.f_of_code-f.ensures, to_z-of_z w32 c.args.past c.ranges.past, to_z-of_z w32 c.args.code c.ranges.code) whole)

pub loop-residual-preserved : goal.loop-residual-preserved
loop-residual-preserved c = put-block c.loop-residual.invariant c.loop-residual-test.true (put c.put_case-end.ensures.value c.put_case-end.ensures.text_after)

pub returns : goal.returns
returns c =
    let all = rw (
      c.residual_count-count.ensures,
      c.f_of_code-f.ensures,
      to_z-of_z w32 c.args.past c.ranges.past,
      to_z-of_z w32 c.args.code c.ranges.code,
      ← residual-lines c.args.f_code (f_of c.args.f_code) c.args.past c.args.code,
    ) at (put_all c.loop-residual.invariant c.loop-residual-test.false) in
    record { value = all.ends; text_after = all.lies }
