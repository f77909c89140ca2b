-- `carry` meets its contract: it makes the test of `carried_from`. Assumes nothing.
use borrow.Author.Tests.{eq-eqb}
use Rattle.reel_player.proofs.PlayLaws.{nothing-kept}
use Rattle.reel_player.proofs.play.carry.Goals as goal

pub returns-in_default-clause-older_after : goal.returns-in_default-clause-older_after
returns-in_default-clause-older_after c = rw c.in_default.is (nothing-kept _ _ _ c.requires).1.0

pub returns-in_default-clause-newer_after : goal.returns-in_default-clause-newer_after
returns-in_default-clause-newer_after c = rw c.in_default.is (nothing-kept _ _ _ c.requires).1.1

pub returns-then-header-eq-B_PICTURE-clause-older_after : goal.returns-then-header-eq-B_PICTURE-clause-older_after
returns-then-header-eq-B_PICTURE-clause-older_after c = rw (c.in-Ok.is, eq-eqb _ _ c.if-header-eq-B_PICTURE.true) (nothing-kept _ _ _ c.requires).1.0

pub returns-then-header-eq-B_PICTURE-clause-newer_after : goal.returns-then-header-eq-B_PICTURE-clause-newer_after
returns-then-header-eq-B_PICTURE-clause-newer_after c = rw (c.in-Ok.is, eq-eqb _ _ c.if-header-eq-B_PICTURE.true) (nothing-kept _ _ _ c.requires).1.1
