-- `coefficient_in` meets its contract: the word 1 occurs only in the first list; the other words are in both. Assumes nothing.
use mathlib.Core.Path.{◌≡◌, sym, ◌∙◌}
use mathlib.Core.Bool.{true}
use native.Mathlib.Omega.{arith}
use Rattle.mpeg1_vlc.specs.Coefficient.{is_one_alone}
use Rattle.mpeg1_vlc.proofs.Laws.Coefficient.{one-there, one-alone, words-shared}
use Rattle.mpeg1_vlc.proofs.coefficient.coefficient_in.Goals as goal

pub signed_pair-requires : goal.signed_pair-requires
signed_pair-requires c =
    let alone : is_one_alone c.args.first c.args.next ≡ true = sym c.is_one_alone.ensures ∙ c.if-is_one_alone.true in
    (omega arith, omega arith, one-there c.args.next c.args.first alone, c.requires)

pub returns-then-is_one_alone : goal.returns-then-is_one_alone
returns-then-is_one_alone c =
    let alone : is_one_alone c.args.first c.args.next ≡ true = sym c.is_one_alone.ensures ∙ c.if-is_one_alone.true in
    c.signed_pair.ensures ∙ sym (one-alone c.args.next c.requires (omega arith) c.args.first alone)

pub returns : goal.returns
returns c = c.next_coefficient.ensures ∙ sym (words-shared c.args.next c.requires (omega arith) c.args.first (sym c.is_one_alone.ensures ∙ c.if-is_one_alone.false))
