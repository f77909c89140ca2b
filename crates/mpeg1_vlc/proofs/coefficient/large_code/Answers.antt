-- `large_code` meets its contract: the bits, padded with zeros and with ones, are the ends of the numbers that begin with them. Assumes nothing.
use mathlib.Core.Path.{◌∙◌, sym}
use native.Mathlib.Nat.{min_comm}
use Prim.Native.Nat.{◌-◌}
use native.Mathlib.Omega.{arith}
use borrow.Author.Tests.{le-leb, lt-leb, lt-ltb, le-ltb}
use Rattle.mpeg1_vlc.proofs.Laws.Large.{large-padded}
use Rattle.mpeg1_vlc.proofs.coefficient.large_code.Goals as goal

pub returns-then-first-padding : goal.returns-then-first-padding
returns-then-first-padding c =
    sym (large-padded c.args.levels c.args.next (omega arith) c.requires _ _ _ c.lowest-low.ensures (c.min-known.ensures ∙ min_comm _ _) c.power_of_two-padding.ensures ∙ rw (le-leb _ _ c.if-first-padding.true))

pub returns-then-low-first : goal.returns-then-low-first
returns-then-low-first c =
    sym (large-padded c.args.levels c.args.next (omega arith) c.requires _ _ _ c.lowest-low.ensures (c.min-known.ensures ∙ min_comm _ _) c.power_of_two-padding.ensures ∙ rw (lt-leb _ _ c.if-first-padding.false, lt-ltb _ _ c.if-low-first.true))

pub returns-then-known-lt8 : goal.returns-then-known-lt8
returns-then-known-lt8 c =
    sym (large-padded c.args.levels c.args.next (omega arith) c.requires _ _ _ c.lowest-low.ensures (c.min-known.ensures ∙ min_comm _ _) c.power_of_two-padding.ensures ∙ rw (lt-leb _ _ c.if-first-padding.false, le-ltb _ _ c.if-low-first.false, lt-ltb 0 (8 - c.min-known.result) (omega (arith, c.if-known-lt8.true))))

pub returns : goal.returns
returns c =
    sym (large-padded c.args.levels c.args.next (omega arith) c.requires _ _ _ c.lowest-low.ensures (c.min-known.ensures ∙ min_comm _ _) c.power_of_two-padding.ensures ∙ rw (lt-leb _ _ c.if-first-padding.false, le-ltb _ _ c.if-low-first.false, le-ltb 0 (8 - c.min-known.result) (omega (arith, c.if-known-lt8.false))))
