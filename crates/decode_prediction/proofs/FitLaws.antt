-- Laws of the fit test: a vector that fits reads inside the plane, in luma and chroma. Assumes nothing.
-- Half of the coordinate that it points to is the floor of half the vector, counted from x; its odd bit is the vector's.
use mathlib.Core.Path.{◌≡◌, refl, ap}
use mathlib.Core.Bool.{Bool, true, false}
use Prim.Native.Nat.{ℕ, suc, ◌+◌, ◌*◌, ◌/◌, ◌%◌, ◌≤◌}
use native.Mathlib.Omega.{arith}
use lib.IntN.{ℤ, pos, negsuc, neg_ℤ, nat_abs, ◌+ℤ◌, ◌-ℤ◌, ◌*ℤ◌}
use lib.Signed.{lt_z, ◌≤ℤ◌}
use Rattle.math.proofs.Compare.{tests}
use Rattle.math.proofs.Difference.{up, dn, of_le, le_of, same_of, parts_add, parts-neg, parts-mul}
use Rattle.math.proofs.Limit.{range-between}
use Rattle.math.proofs.Test.{both_true}
use Rattle.decode_vectors.specs.Vector.{whole_pels, odd_bit, chroma_vector}
use Rattle.decode_prediction.specs.Fit.{signed_coordinate, half_pel_coordinate, vector_fits, macroblock_fits}

-- ---- half of the coordinate is the floor of half, counted from x, and its odd bit is the vector's
-- a number that is not negative is its own absolute value
pub size-up : (z : ℤ) → pos 0 ≤ℤ z → pos (nat_abs z) ≡ z
size-up (pos n) h = refl
size-up (negsuc n) h = absurd (omega (arith, of_le h))

pub coordinate-whole : (x : ℕ) (vector : ℤ) → pos 0 ≤ℤ signed_coordinate x vector → pos (half_pel_coordinate x vector / 2) ≡ pos x +ℤ whole_pels vector
coordinate-whole x (pos m) h = ap pos (omega arith)
coordinate-whole x (negsuc m) h = same_of _ _ (omega (arith, ap up e, ap dn e, parts_add (pos (2 * x)) (negsuc m), parts_add (pos x) (negsuc (m / 2))))
  where
    e : pos (half_pel_coordinate x (negsuc m)) ≡ signed_coordinate x (negsuc m)
    e = size-up (signed_coordinate x (negsuc m)) h

pub coordinate-odd : (x : ℕ) (vector : ℤ) → pos 0 ≤ℤ signed_coordinate x vector → half_pel_coordinate x vector % 2 ≡ odd_bit vector
coordinate-odd x (pos m) h = omega arith
coordinate-odd x (negsuc m) h = omega (arith, ap up e, ap dn e, parts_add (pos (2 * x)) (negsuc m))
  where
    e : pos (half_pel_coordinate x (negsuc m)) ≡ signed_coordinate x (negsuc m)
    e = size-up (signed_coordinate x (negsuc m)) h

-- ---- the test and what it implies
pub record Fits (side x width : ℕ) (vector : ℤ) : Type 0 where
  pub lower : pos 0 ≤ℤ signed_coordinate x vector
  pub upper : half_pel_coordinate x vector + 2 * side ≤ 2 * width

last-parts : (width side : ℕ) → let last = pos 2 *ℤ (pos width -ℤ pos side) in up last + 2 * side ≡ 2 * width + dn last
last-parts width side = omega (arith, parts-mul (pos 2) (pos width -ℤ pos side), parts_add (pos width) (neg_ℤ (pos side)), parts-neg (pos side))

pub fits-known : (side x width : ℕ) (vector : ℤ) → vector_fits side x width vector ≡ true → Fits side x width vector
unfolding vector_fits
fits-known side x width vector e =
    let range = range-between (pos 0) (pos 2 *ℤ (pos width -ℤ pos side)) (signed_coordinate x vector) e in
    let size = size-up (signed_coordinate x vector) range.lower in
    record { lower = range.lower; upper = omega (arith, ap up size, ap dn size, of_le range.upper, last-parts width side) }

not-above : (x y : ℤ) → x ≤ℤ y → lt_z y x ≡ false
not-above x y h = go (lt_z y x) refl
  where
    go : (t : Bool) → lt_z y x ≡ t → t ≡ false
    go true e = absurd (omega (arith, of_le h, tests))
    go false e = refl

pub fits-test : (side x width : ℕ) (vector : ℤ) → Fits side x width vector → vector_fits side x width vector ≡ true
unfolding vector_fits
fits-test side x width vector fit =
    let size = size-up (signed_coordinate x vector) fit.lower in
    let upper : signed_coordinate x vector ≤ℤ (pos 2 *ℤ (pos width -ℤ pos side)) = le_of _ _ (omega (arith, ap up size, ap dn size, fit.upper, last-parts width side)) in
    rw (not-above _ _ fit.lower, not-above _ _ upper)

-- ---- "chroma then fits too": at half the coordinate in a plane of half the width, with the halved vector
chroma-fit : (x width : ℕ) (vector : ℤ) → Fits 16 (2 * x) (2 * width) vector → Fits 8 x width (chroma_vector vector)
chroma-fit x width (pos m) fit = record { lower = le_of _ _ (omega arith); upper = omega (arith, fit.upper) }
chroma-fit x width (negsuc m) fit = record { lower = lower; upper = omega (arith, ap up half, ap dn half, ap up whole, ap dn whole, fit.upper, parts_add (pos (2 * (2 * x))) (negsuc m), parts) }
  where
    parts : up (signed_coordinate x (neg_ℤ (pos (suc m / 2)))) + suc m / 2 ≡ 2 * x + dn (signed_coordinate x (neg_ℤ (pos (suc m / 2))))
    parts = omega (arith, parts_add (pos (2 * x)) (neg_ℤ (pos (suc m / 2))), parts-neg (pos (suc m / 2)))

    whole : pos (half_pel_coordinate (2 * x) (negsuc m)) ≡ signed_coordinate (2 * x) (negsuc m)
    whole = size-up (signed_coordinate (2 * x) (negsuc m)) fit.lower

    lower : pos 0 ≤ℤ signed_coordinate x (neg_ℤ (pos (suc m / 2)))
    lower = le_of _ _ (omega (arith, of_le fit.lower, parts_add (pos (2 * (2 * x))) (negsuc m), parts))

    half : pos (half_pel_coordinate x (neg_ℤ (pos (suc m / 2)))) ≡ signed_coordinate x (neg_ℤ (pos (suc m / 2)))
    half = size-up (signed_coordinate x (neg_ℤ (pos (suc m / 2)))) lower

pub chroma-fits : (x width : ℕ) (vector : ℤ) → vector_fits 16 (2 * x) (2 * width) vector ≡ true → vector_fits 8 x width (chroma_vector vector) ≡ true
chroma-fits x width vector e = fits-test 8 x width (chroma_vector vector) (chroma-fit x width vector (fits-known 16 (2 * x) (2 * width) vector e))

-- ---- the macroblock in a column and a row: what its luma and its chroma blocks need of their planes
pub record MacroblockFits (side width height column row : ℕ) (right down : ℤ) : Type 0 where
  pub across : Fits side (side * column) (side * width) right
  pub below : Fits side (side * row) (side * height) down

pub luma-known : (width height column row : ℕ) (right down : ℤ) → macroblock_fits width height column row right down ≡ true → MacroblockFits 16 width height column row right down
unfolding macroblock_fits
luma-known width height column row right down e =
    let both = both_true (vector_fits 16 (16 * column) (16 * width) right) (vector_fits 16 (16 * row) (16 * height) down) e in
    record { across = fits-known 16 (16 * column) (16 * width) right both.0; below = fits-known 16 (16 * row) (16 * height) down both.1 }

halved : (n width : ℕ) (vector : ℤ) → Fits 16 (16 * n) (16 * width) vector → Fits 8 (8 * n) (8 * width) (chroma_vector vector)
halved n width vector fit = chroma-fit (8 * n) (8 * width) vector (rw (← twice n, ← twice width) fit)
  where
    twice : (k : ℕ) → 16 * k ≡ 2 * (8 * k)
    twice k = omega arith

pub chroma-known : (width height column row : ℕ) (right down : ℤ) → macroblock_fits width height column row right down ≡ true
    → MacroblockFits 8 width height column row (chroma_vector right) (chroma_vector down)
chroma-known width height column row right down e =
    let luma = luma-known width height column row right down e in
    record { across = halved column width right luma.across; below = halved row height down luma.below }
