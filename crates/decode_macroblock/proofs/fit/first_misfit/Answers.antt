-- `fit::first_misfit` meets its contract: before macroblock k, the k before it fit. Assumes nothing.
use mathlib.Core.Path.{sym, ◌∙◌}
use Rattle.std.proofs.lemmas.Result.{err_from_is_err_and}
use Rattle.decode_macroblock.proofs.RunLaws.{run-kept, run-refused}
use Rattle.decode_macroblock.proofs.fit.first_misfit.Goals as goal

pub returns-in_err-fit_of : goal.returns-in_err-fit_of
returns-in_err-fit_of c = let p = err_from_is_err_and c.from_residual.result c.from_residual.ensures.1 in
    rw (p.1, p.2) (sym (run-refused c.args.size c.args.motion c.args.first c.args.skipped c.loop-k.k c.in_err-fit_of.field-0.0 c.loop-k-test.true c.loop-k.invariant (sym c.fit_of.ensures ∙ c.in_err-fit_of.was)))

pub loop-k-preserved : goal.loop-k-preserved
loop-k-preserved c = run-kept c.args.size c.args.motion c.args.first c.loop-k.k c.loop-k.invariant (sym c.fit_of.ensures ∙ c.in_ok-fit_of.was)
