-- Laws of splitting a reel: where a file lies in it, and which parts follow an offset. Assumes nothing.
use mathlib.Core.List.{List, [], ◌∷◌}
use mathlib.Core.Path.{◌≡◌, refl, sym}
use Prim.Native.Nat.{ℕ, zero, suc, ◌+◌, ◌≤◌, ◌<◌}
use native.Mathlib.Omega.{arith}
use lib.ListN.{length, take, drop}
use borrow.Author.Tests.{leb-true, le-leb, lt-leb}
use Rattle.symbols.proofs.Guard.{require-all}
use Rattle.reel_parts.specs.Part.{part_at, file_length_at, file, cut, parts_from}
use Rattle.std.specs.Prelude.{Option, Some, None}
use Rattle.reel_parts.specs.declared.part.Part.{Part}

-- ---- a file found in the reel lies within it, after its length field
pub record Inside (reel : List ℕ) (at : ℕ) (found : Option Part) : Type 0 where
  pub fits : (part : Part) → found ≡ Some part → (part.start ≡ at + 4) × (part.start + part.length ≤ length reel)

pub inside : (reel : List ℕ) (at : ℕ) → Inside reel at (part_at reel at)
unfolding part_at
inside reel at =
    require-all (Inside reel at) _ _ _ none λ whole.
    require-all (Inside reel at) _ _ _ none λ fits.
    record {
      fits = λ part e.
          let a : ◌≡◌ {A = ℕ} (at + 4) part.start = cc in
          let b : ◌≡◌ {A = ℕ} (file_length_at reel at) part.length = cc in
          (sym a, omega (arith, leb-true, whole, fits));
    }
  where
    none : Inside reel at None
    none = record { fits = λ part e. let z : ◌≡◌ {A = ℕ} 0 1 = cc in absurd (omega arith) }

-- ---- the parts from an offset on: none at the reel's end, else the part at that offset and, unless it is cut, the rest
module _ (n : ℕ) (reel : List ℕ) (at : ℕ) where
  pub no-parts : length reel ≤ at → parts_from n reel at ≡ []
  unfolding parts_from
  no-parts h = go n
    where
      go : (n : ℕ) → parts_from n reel at ≡ []
      go zero = refl
      go (suc n) = rw (le-leb (length reel) at h)

  pub one-file : {part : Part} → at < length reel → part_at reel at ≡ Some part → parts_from (suc n) reel at ≡ file (take part.length (drop part.start reel)) ∷ parts_from n reel (part.start + part.length)
  unfolding parts_from
  one-file h e = rw (lt-leb (length reel) at h, e)

  pub one-cut : at < length reel → part_at reel at ≡ None → parts_from (suc n) reel at ≡ cut at ∷ []
  unfolding parts_from
  one-cut h e = rw (lt-leb (length reel) at h, e)
