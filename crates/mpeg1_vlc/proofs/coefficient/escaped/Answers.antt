-- `escaped` meets its contract: six bits are the run; the next eight are the level, or say where it follows. Assumes nothing.
use mathlib.Core.Path.{refl, sym, ◌∙◌}
use native.Mathlib.Omega.{arith}
use mir.Syntax.{w16}
use borrow.Author.Tests.{eq-eqb, ne_eqb}
use Rattle.math.proofs.Machine.{returned}
use Rattle.mpeg1_tables.specs.AnnexB.{large_positive, large_negative}
use Rattle.mpeg1_vlc.proofs.Laws.Coefficient.{escape-short, escape-level}
use Rattle.mpeg1_vlc.proofs.coefficient.escaped.Goals as goal

pub returns-then-next-lt20 : goal.returns-then-next-lt20
returns-then-next-lt20 c = sym (escape-short c.args.next c.requires.1 c.requires.0 c.if-next-lt20.true)

pub returns-then-byte-eq0 : goal.returns-then-byte-eq0
unfolding large_positive
returns-then-byte-eq0 c =
    c.large_level.ensures ∙ sym (escape-level c.args.next c.requires.1 (omega arith) ∙ rw (eq-eqb _ _ c.if-byte-eq0.true))

pub returns-then-byte-eq128 : goal.returns-then-byte-eq128
unfolding large_negative
returns-then-byte-eq128 c =
    c.large_level-then-byte-eq128.ensures ∙ sym (escape-level c.args.next c.requires.1 (omega arith) ∙ rw (ne_eqb _ _ c.if-byte-eq0.false, eq-eqb _ _ c.if-byte-eq128.true))

pub returns : goal.returns
returns c =
    rw (escape-level c.args.next c.requires.1 (omega arith), ne_eqb _ _ c.if-byte-eq0.false, ne_eqb _ _ c.if-byte-eq128.false, ← c.signed_level.ensures, returned w16 c.signed_level.type_inv refl)
