-- Laws of vectors: bounds on differences and vectors; a vector stays in -16f..16f-1 if its past was. Assumes nothing.
use mathlib.Core.Path.{◌≡◌, refl, sym, ap, ◌∙◌}
use mathlib.Core.Bool.{Bool, true, false, cond}
use Prim.Native.Nat.{ℕ, zero, suc, ◌+◌, ◌-◌, ◌*◌, ◌≤◌, ◌<◌}
use native.Mathlib.Nat.{mul-le-mul_right, le_trans}
use native.Mathlib.Numerals.{add-one}
use native.Mathlib.Omega.{arith}
use borrow.Author.Tests.{eqb-true, ltb-true, leb-true}
use lib.Dec.{eqb, ltb, leb}
use lib.IntN.{ℤ, pos, negsuc, neg_ℤ, nat_abs, ◌+ℤ◌, ◌-ℤ◌, ◌*ℤ◌}
use lib.Signed.{lt_z}
use lib.Pow.{pow_mono, pow_pos}
use Rattle.math.specs.Bound.{Within}
use Rattle.math.specs.Limit.{eq_z, sign_of}
use Rattle.math.proofs.Bound.{within-add, within-mul, within-neg, within-literal, within_more, within-eq, within-cond, within_both}
use Rattle.math.proofs.Difference.{same_of, parts_add}
use Rattle.math.proofs.Limit.{range-between, between-range, sign-within, signed-none, signed-positive, signed-negative}
use Rattle.math.proofs.Machine.{quot_le}
use Rattle.math.proofs.Test.{both_true}
use Rattle.decode_vectors.specs.Vector.{f_of, vector_difference_of, lowest, highest, vector_of, code_in_range, residual_in_range, past_in_range, f_code_and_past_in_range, vector_entry_in_range, used_vector, chroma_vector}
use Rattle.decode_vectors.proofs.WrapLaws.{Inside, sum-reach, wrapped-reach, wrapped-within}

-- ---- the difference of code 0
pub difference-none : (f code residual : ℤ) → lt_z code (pos 0) ≡ false → lt_z (pos 0) code ≡ false → pos 0 ≡ vector_difference_of f code residual
unfolding vector_difference_of
difference-none f code residual e g = signed-none code ((pos (nat_abs code) -ℤ pos 1) *ℤ f +ℤ residual +ℤ pos 1) e g

-- ---- bounds
size-within : {b : ℕ} {z : ℤ} → Within b z → Within b (pos (nat_abs z))
size-within p = record { within = p.within }

pub difference-within : {b : ℕ} {f code residual : ℤ} → Within b f → Within 16 code → Within b residual → Within (17 * b + b + 1) (vector_difference_of f code residual)
unfolding vector_difference_of
difference-within {b} {f} {code} {residual} p q r = within_more
    (within-mul (sign-within code) (within-add (within-add (within-mul (within-add (size-within q) (within-neg (within-literal {b = 1} {x = pos 1} tt))) p) r) (within-literal {b = 1} {x = pos 1} tt)))
    (omega arith)

-- ---- the difference by the code's sign
-- (|code| - 1) × f + residual + 1, for a code that is not 0
size_is : (f n residual : ℕ) → (pos (suc n) -ℤ pos 1) *ℤ pos f +ℤ pos residual +ℤ pos 1 ≡ pos (suc (n * f + residual))
size_is f n residual =
    ap (λ (z : ℤ). z *ℤ pos f +ℤ pos residual +ℤ pos 1) (same_of (pos (suc n) -ℤ pos 1) (pos n) (omega (arith, parts_add (pos (suc n)) (negsuc 0))))
    ∙ ap pos (add-one (n * f + residual))

pub difference-positive : (f n residual : ℕ) → vector_difference_of (pos f) (pos (suc n)) (pos residual) ≡ pos (suc (n * f + residual))
unfolding vector_difference_of
difference-positive f n residual = signed-positive n ((pos (suc n) -ℤ pos 1) *ℤ pos f +ℤ pos residual +ℤ pos 1) ∙ size_is f n residual

pub difference-negative : (f n residual : ℕ) → vector_difference_of (pos f) (negsuc n) (pos residual) ≡ negsuc (n * f + residual)
unfolding vector_difference_of
difference-negative f n residual = ap (λ (z : ℤ). sign_of (negsuc n) *ℤ z) (size_is f n residual) ∙ signed-negative n (n * f + residual)

pub difference-zero : (f residual : ℕ) → vector_difference_of (pos f) (pos 0) (pos residual) ≡ pos 0
difference-zero f residual = sym (difference-none (pos f) (pos 0) (pos residual) refl refl)

-- a difference is at most 16 f in absolute value
few : (f n residual : ℕ) → n < 16 → residual < f → suc (n * f + residual) ≤ 16 * f
few f n residual h k = let bound : n * f ≤ 15 * f = mul-le-mul_right f (omega arith) in omega arith

pub difference-reach : (f residual : ℕ) (code : ℤ) → Within 16 code → residual < f → Within (16 * f) (vector_difference_of (pos f) code (pos residual))
difference-reach f residual (pos zero) p h = within-eq (difference-zero f residual) (record { within = omega arith })
difference-reach f residual (pos (suc n)) p h = within-eq (difference-positive f n residual) (record { within = few f n residual p.within h })
difference-reach f residual (negsuc n) p h = within-eq (difference-negative f n residual) (record { within = few f n residual p.within h })

-- ---- vectors
-- the range law: if the past is in -16f..16f-1, so is the vector
vector-between : (f residual : ℕ) (past code : ℤ) → Inside f past → Within 16 code → residual < f
    → Inside f (vector_of f past code residual)
unfolding vector_of
vector-between f residual past code range p h =
    wrapped-reach f (past +ℤ vector_difference_of (pos f) code (pos residual)) (sum-reach f past (vector_difference_of (pos f) code (pos residual)) range (difference-reach f residual code p h))

-- a past of at most 1024 gives a vector of at most 1024, in absolute value
pub vector-within : (f residual : ℕ) (past code : ℤ) → f ≤ 64 → Within 1024 past → Within 16 code → residual < f → Within 1024 (vector_of f past code residual)
unfolding vector_of
vector-within f residual past code h p q k = wrapped-within f _ h (within-add p (difference-reach f residual code q k))

pub used-within : (full_pel : Bool) (vector : ℤ) → Within 1024 vector → Within 2048 (used_vector full_pel vector)
used-within full_pel vector p = within-cond full_pel (within-mul (within-literal {b = 2} {x = pos 2} tt) p) (within_more p (omega arith))

pub chroma-within : {b : ℕ} {vector : ℤ} → Within b vector → Within b (chroma_vector vector)
chroma-within {b} {vector} p = record { within = le_trans (quot_le vector (pos 2)) p.within }

-- an f_code up to 7 gives an f from 1 to 64
pub factor-most : (f_code : ℕ) → f_code ≤ 7 → f_of f_code ≤ 64
factor-most f_code h = pow_mono {i = f_code - 1} {j = 6} (omega arith)

pub factor-least : (f_code : ℕ) → 1 ≤ f_of f_code
factor-least f_code = pow_pos (f_code - 1)

-- ---- what a range test implies if it passes
pub code-known : (code : ℤ) → code_in_range code ≡ true → Within 16 code
unfolding code_in_range
code-known code e = let range = range-between (neg_ℤ (pos 16)) (pos 16) code e in within_both range.lower range.upper

pub residual-known : (f : ℕ) (code : ℤ) (residual : ℕ) → 1 ≤ f → residual_in_range f code residual ≡ true → residual < f
unfolding residual_in_range
residual-known f code residual h e = go (eq_z code (pos 0)) e
  where
    go : (t : Bool) → cond t (eqb residual 0) (ltb residual f) ≡ true → residual < f
    go true e = omega (arith, eqb-true residual 0 e)
    go false e = ltb-true residual f e

pub past-known : (f : ℕ) (past : ℤ) → past_in_range f past ≡ true → Inside f past
unfolding past_in_range
past-known f past e = range-between (lowest (pos f)) (highest (pos f)) past e

pub record PastInRange (f_code : ℕ) (past : ℤ) : Type 0 where
  pub least : 1 ≤ f_code
  pub most : f_code ≤ 7
  pub range : Inside (f_of f_code) past

pub f-code-and-past-known : (f_code : ℕ) (past : ℤ) → f_code_and_past_in_range f_code past ≡ true → PastInRange f_code past
unfolding f_code_and_past_in_range
f-code-and-past-known f_code past e =
    let second = both_true _ (past_in_range (f_of f_code) past) e in
    let first = both_true (leb 1 f_code) (leb f_code 7) second.0 in
    record { least = leb-true 1 f_code first.0; most = leb-true f_code 7 first.1; range = past-known (f_of f_code) past second.1 }

pub record InRange (f_code : ℕ) (past code : ℤ) (residual : ℕ) : Type 0 where
  pub of-past : PastInRange f_code past
  pub code-size : Within 16 code
  pub residual-size : residual < f_of f_code

pub all_known : (f_code : ℕ) (past code : ℤ) (residual : ℕ) → vector_entry_in_range f_code past code residual ≡ true → InRange f_code past code residual
unfolding vector_entry_in_range
all_known f_code past code residual e =
    let third = both_true _ (residual_in_range (f_of f_code) code residual) e in
    let second = both_true (f_code_and_past_in_range f_code past) (code_in_range code) third.0 in
    record {
      of-past = f-code-and-past-known f_code past second.0;
      code-size = code-known code second.1;
      residual-size = residual-known (f_of f_code) code residual (factor-least f_code) third.1;
    }

pub vectors-in-range : (f_code : ℕ) (past code : ℤ) (residual : ℕ) → vector_entry_in_range f_code past code residual ≡ true
    → past_in_range (f_of f_code) (vector_of (f_of f_code) past code residual) ≡ true
unfolding past_in_range
vectors-in-range f_code past code residual e =
    let known = all_known f_code past code residual e in
    between-range (vector-between (f_of f_code) residual past code known.of-past.range known.code-size known.residual-size)
