-- Laws of the fit of one macroblock and of a run: what the answer implies for each direction and macroblock. Assumes nothing.
use mathlib.Core.Path.{◌≡◌, refl, ap, ◌∙◌, sym}
use mathlib.Core.Bool.{Bool, true, false, cond}
use mathlib.Core.List.{List}
use Prim.Native.Nat.{ℕ, zero, suc, ◌+◌, ◌<◌}
use native.Mathlib.Nat.{le_refl}
use native.Mathlib.Omega.{arith}
use lib.ListN.{length}
use Rattle.std.specs.Prelude.{⊤, Result, Ok, Err}
use Rattle.std.specs.Result.{result_and}
use Rattle.symbols.specs.Size.{max_macroblocks}
use Rattle.symbols.specs.declared.size.PictureSize.{PictureSize}
use Rattle.decode_macroblock.specs.declared.location.MacroblockPosition.{MacroblockPosition}
use Rattle.decode_macroblock.specs.declared.compensation.Motion.{Motion}
use Rattle.decode_macroblock.specs.declared.fit.Direction.{Direction}
use Rattle.decode_macroblock.specs.declared.fit.Direction.TheVariants.{Forward, Backward}
use Rattle.decode_macroblock.specs.Location.{macroblock_position}
use Rattle.decode_macroblock.specs.Fit.{direction_fits, fit_of, first_misfit}
use Rattle.decode_macroblock.specs.Requires.{Lent, Writable, RunWritable, BlocksWritable}
use Rattle.decode_macroblock.proofs.LocationLaws.{position-inside}

-- ---- one macroblock
both : (a b : Bool) → cond {A = Result ⊤ Direction} a (cond b (Ok tt) (Err Backward)) (Err Forward) ≡ Ok tt → (a ≡ true) × (b ≡ true)
both true true e = (refl, refl)
both true false e = absurd (let z : ◌≡◌ {A = ℕ} 0 1 = cc in omega arith)
both false b e = absurd (let z : ◌≡◌ {A = ℕ} 0 1 = cc in omega arith)

pub both-fit : (s : PictureSize) (address : ℕ) (m : Motion) → fit_of s address m ≡ Ok tt
    → (direction_fits (macroblock_position s address) m.forward ≡ true) × (direction_fits (macroblock_position s address) m.backward ≡ true)
unfolding fit_of
both-fit s address m e = both (direction_fits (macroblock_position s address) m.forward) (direction_fits (macroblock_position s address) m.backward) e

-- any output of the same length can be written as well
pub lent_again : {s : PictureSize} {m : Motion} {forward backward output next : List ℕ} → Lent s m forward backward output → length next ≡ length output → Lent s m forward backward next
lent_again lent e = record { forward-whole = lent.forward-whole; backward-whole = lent.backward-whole; output-whole = e ∙ lent.output-whole }

pub blocks-drawable : {s : PictureSize} {address : ℕ} {m : Motion} {forward backward output : List ℕ} → Writable s address m forward backward output → BlocksWritable (macroblock_position s address) m forward backward output
blocks-drawable {s} {address} {m} d = record {
  inside = position-inside address (le_refl max_macroblocks) d.size d.inside;
  small = d.small;
  forward-fits = (both-fit s address m d.fits).0;
  backward-fits = (both-fit s address m d.fits).1;
  lent = d.lent;
}

pub blocks-again : {p : MacroblockPosition} {m : Motion} {forward backward output next : List ℕ} → BlocksWritable p m forward backward output → length next ≡ length output → BlocksWritable p m forward backward next
blocks-again d e = record { inside = d.inside; small = d.small; forward-fits = d.forward-fits; backward-fits = d.backward-fits; lent = lent_again d.lent e }

-- ---- a run
both-ok : (fit next : Result ⊤ Direction) → result_and fit next ≡ Ok tt → (fit ≡ Ok tt) × (next ≡ Ok tt)
both-ok (Ok x) next e = (refl, e)
both-ok (Err direction) next e = absurd (let z : ◌≡◌ {A = ℕ} 0 1 = cc in omega arith)

pub or-else-assoc : (a b c : Result ⊤ Direction) → result_and (result_and a b) c ≡ result_and a (result_and b c)
or-else-assoc (Ok x) b c = refl
or-else-assoc (Err direction) b c = refl

pub or-else-fits : (fit : Result ⊤ Direction) → result_and fit (Ok tt) ≡ fit
or-else-fits (Ok x) = refl
or-else-fits (Err direction) = refl

module _ (s : PictureSize) (m : Motion) where
  -- in a run that fits, each macroblock fits
  pub run_fits : (first n k : ℕ) → first_misfit s first n m ≡ Ok tt → k < n → fit_of s (first + k) m ≡ Ok tt
  unfolding first_misfit
  run_fits first zero k e h = absurd (omega arith)
  run_fits first (suc n) zero e h = ap (λ (a : ℕ). fit_of s a m) (omega arith) ∙ (both-ok (fit_of s first m) _ e).0
  run_fits first (suc n) (suc k) e h =
      ap (λ (a : ℕ). fit_of s a m) (omega arith) ∙ run_fits (first + 1) n k (both-ok (fit_of s first m) _ e).1 (omega arith)

  -- a run with one macroblock more
  pub run-last : (first n : ℕ) → first_misfit s first (suc n) m ≡ result_and (first_misfit s first n m) (fit_of s (first + n) m)
  unfolding first_misfit
  run-last first zero = or-else-fits (fit_of s first m) ∙ ap (λ (a : ℕ). fit_of s a m) (omega arith)
  run-last first (suc n) =
      ap (result_and (fit_of s first m)) (run-last (first + 1) n ∙ ap (λ (a : ℕ). result_and (first_misfit s (first + 1) n m) (fit_of s a m)) (omega arith))
      ∙ sym (or-else-assoc (fit_of s first m) (first_misfit s (first + 1) n m) (fit_of s (first + suc n) m))

  -- the run so far fits: with the next macroblock it still does, or is refused as that macroblock is
  pub run-kept : (first k : ℕ) → first_misfit s first k m ≡ Ok tt → fit_of s (first + k) m ≡ Ok tt → first_misfit s first (k + 1) m ≡ Ok tt
  run-kept first k e f = ap (λ (n : ℕ). first_misfit s first n m) (omega arith) ∙ run-last first k ∙ (λ i. result_and (e i) (f i))

  pub run-refused : (first n k : ℕ) (direction : Direction) → k < n → first_misfit s first k m ≡ Ok tt → fit_of s (first + k) m ≡ Err direction → first_misfit s first n m ≡ Err direction
  unfolding first_misfit
  run-refused first zero k direction h e f = absurd (omega arith)
  run-refused first (suc n) zero direction h e f =
      ap (λ (fit : Result ⊤ Direction). result_and fit (first_misfit s (first + 1) n m)) (ap (λ (a : ℕ). fit_of s a m) (omega arith) ∙ f)
  run-refused first (suc n) (suc k) direction h e f =
      let fits = both-ok (fit_of s first m) _ e in
      ap (λ (fit : Result ⊤ Direction). result_and fit (first_misfit s (first + 1) n m)) fits.0
      ∙ run-refused (first + 1) n k direction (omega arith) fits.1 (ap (λ (a : ℕ). fit_of s a m) (omega arith) ∙ f)

pub run-drawable : {s : PictureSize} {first skipped : ℕ} {m : Motion} {forward backward output next : List ℕ} (k : ℕ)
    → RunWritable s first skipped m forward backward output → k < skipped → length next ≡ length output → Writable s (first + k) m forward backward next
run-drawable {s} {first} {skipped} {m} k d h e = record {
  size = d.size;
  inside = omega (arith, d.inside);
  small = d.small;
  fits = run_fits s m first skipped k d.fits h;
  lent = lent_again d.lent e;
}
