-- A loop over integers that writes a block of text for each. Assumes nothing.
use mathlib.Core.Bool.{true, false}
use mathlib.Core.List.{List}
use mathlib.Core.Path.{◌≡◌, ap, ◌∙◌}
use Prim.Native.Nat.{ℕ, ◌+◌, ◌≤◌, ◌<◌}
use native.Mathlib.Omega.{arith}
use lib.IntN.{ℤ, pos, nat_abs, ◌+ℤ◌, ◌-ℤ◌}
use lib.Signed.{lt_z}
use mir.Syntax.{w32}
use mir.Val.{to_z, of_z}
use Rattle.math.specs.Bound.{Within}
use Rattle.math.proofs.Bound.{within-add}
use Rattle.math.proofs.Compare.{lt-true, lt-false}
use Rattle.math.proofs.Difference.{same_of, parts_add}
use Rattle.math.proofs.Joined.{blocks}
use Rattle.math.proofs.Machine.{Held, variable, literal, kept, ◌⊞◌}
use Rattle.math.proofs.Offset.{offset-left}
use Rattle.text_writer.proofs.PutLaws.{Put, PutBlocks, put-none, put-block, put_all}

-- few integers, all small, so that nothing overflows
pub record Short (low : ℤ) (n : ℕ) : Type 0 where
  pub small : Within 1024 low
  pub few : n ≤ 2048

-- the loop goes over n integers from `low` on; k blocks are written, and its variable, which has these bits, is low + k
pub record PutFrom (low : ℤ) (n : ℕ) (block : ℕ → List ℕ) (at : ℕ) (before : List ℕ) (bits end : ℕ) (after : List ℕ) : Type 0 where
  pub k : ℕ
  pub here : bits ≡ of_z w32 (low +ℤ pos k)
  pub done : PutBlocks block n at before k end after

pub from-none : {low : ℤ} {n : ℕ} {block : ℕ → List ℕ} {at : ℕ} {before : List ℕ} {bits : ℕ} → bits ≡ of_z w32 low → PutFrom low n block at before bits at before
from-none {low} e = record { k = 0; here = e ∙ ap (of_z w32) (same_of low (low +ℤ pos 0) (omega (arith, parts_add low (pos 0)))); done = put-none }

module _ {low : ℤ} {n : ℕ} {block : ℕ → List ℕ} {at : ℕ} {before : List ℕ} {bits end : ℕ} {between : List ℕ} (p : PutFrom low n block at before bits end between) (short : Short low n) where
  -- the variable, and its next value
  abbrev pub here-is : Held (low +ℤ pos p.k)
  here-is = variable w32 p.here (within-add {b = 2048} short.small (record { within = omega (arith, p.done.most, short.few) })) tt

  abbrev pub next-is : Held (low +ℤ pos p.k +ℤ pos 1)
  next-is = here-is ⊞ literal (pos 1)

  -- the test of the loop
  pub goes_on : {high : ℤ} → low +ℤ pos n ≡ high → lt_z (low +ℤ pos p.k) high ≡ true → p.k < n
  goes_on e below = let less = rw (← e) at below in omega (arith, lt-true (low +ℤ pos p.k) (low +ℤ pos n) less, parts_add low (pos p.k), parts_add low (pos n))

  pub ends : {high : ℤ} → low +ℤ pos n ≡ high → lt_z (low +ℤ pos p.k) high ≡ false → Put at (blocks block n) before end between
  ends e above = let most = rw (← e) at above in put_all p.done (omega (arith, lt-false (low +ℤ pos p.k) (low +ℤ pos n) most, parts_add low (pos p.k), parts_add low (pos n)))

  one_on : low +ℤ pos p.k +ℤ pos 1 ≡ low +ℤ pos (p.k + 1)
  one_on = same_of _ _ (omega (arith, parts_add low (pos p.k), parts_add (low +ℤ pos p.k) (pos 1), parts_add low (pos (p.k + 1))))

  pub from_more : {end' : ℕ} {after : List ℕ} → p.k < n → Put end (block p.k) between end' after → PutFrom low n block at before (of_z w32 next-is.raw) end' after
  from_more h q = record { k = p.k + 1; here = ap (of_z w32) (next-is.is ∙ one_on); done = put-block p.done h q }

  -- the measure falls
  pub from_less : {high : ℤ} → low +ℤ pos n ≡ high → p.k < n → nat_abs (high -ℤ to_z w32 (of_z w32 next-is.raw)) < nat_abs (high -ℤ here-is.raw)
  from_less e h = rw ((kept w32 next-is tt).is, here-is.is, ← e, one_on, offset-left low n (p.k + 1) (omega arith), offset-left low n p.k (omega arith)) (omega arith)
