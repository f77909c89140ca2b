-- `signed_pair` meets its contract: the bit after the word, if it exists, is the sign. Assumes nothing.
use mathlib.Core.Path.{refl}
use Prim.Native.Nat.{◌-◌}
use native.Mathlib.Omega.{arith}
use mir.Syntax.{w16}
use Rattle.math.proofs.Machine.{returned}
use Rattle.mpeg1_vlc.specs.Coefficient.{signed_of}
use Rattle.mpeg1_vlc.proofs.Laws.Field.{field-short, field-value}
use Rattle.mpeg1_vlc.proofs.coefficient.signed_pair.Goals as goal

pub returns-then-next-word : goal.returns-then-next-word
unfolding signed_of
returns-then-next-word c = rw (field-short c.args.next c.requires.3 c.args.word.length 1 c.requires.2 (omega arith))

pub returns : goal.returns
unfolding signed_of
returns c =
    rw (
      field-value c.args.next c.requires.3 c.args.word.length 1 (31 - c.args.word.length) (omega arith) (omega arith),
      ← c.with_sign-level.ensures,
      returned w16 c.with_sign-level.type_inv refl,
    )
