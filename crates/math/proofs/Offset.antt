-- An integer by its offset from a lower one. Assumes nothing.
use mathlib.Core.Path.{◌≡◌, refl, sym, ap, ◌∙◌}
use Prim.Native.Nat.{ℕ, ◌-◌, ◌≤◌, ◌<◌}
use native.Mathlib.Omega.{arith}
use lib.IntN.{ℤ, pos, negsuc, neg_ℤ, nat_abs, ◌+ℤ◌, ◌-ℤ◌}
use lib.Signed.{◌≤ℤ◌, ◌<ℤ◌}
use Rattle.math.specs.Bound.{Between}
use Rattle.math.proofs.Difference.{up, dn, same_of, le_of, of_le, lt_of, parts_add, parts-neg}

abbrev pub offset : ℤ → ℤ → ℕ
offset low z = nat_abs (z -ℤ low)

pub offset-back : (low : ℤ) (k : ℕ) → offset low (low +ℤ pos k) ≡ k
offset-back low k = ap nat_abs (same_of (low +ℤ pos k -ℤ low) (pos k) (omega (arith, parts_add low (pos k), parts_add (low +ℤ pos k) (neg_ℤ low), parts-neg low)))

pub by-offset : (low z : ℤ) → low ≤ℤ z → low +ℤ pos (offset low z) ≡ z
by-offset low z h = go (z -ℤ low) refl
  where
    go : (d : ℤ) → z -ℤ low ≡ d → low +ℤ pos (nat_abs d) ≡ z
    go (pos k) e = same_of (low +ℤ pos k) z (omega (arith, parts_add low (pos k), parts_add z (neg_ℤ low), parts-neg low, ap up e, ap dn e))
    go (negsuc k) e = absurd (omega (arith, of_le h, parts_add z (neg_ℤ low), parts-neg low, ap up e, ap dn e))

pub offset-below : {n : ℕ} (low high z : ℤ) → high +ℤ pos 1 ≡ low +ℤ pos n → Between low high z → offset low z < n
offset-below {n} low high z e b =
    omega (arith, ap up e, ap dn e, of_le b.lower, of_le b.upper, parts_add high (pos 1), parts_add low (pos n), parts_add low (pos (offset low z)), ap up (by-offset low z b.lower), ap dn (by-offset low z b.lower))

pub offset-inside : {n : ℕ} (low high : ℤ) (k : ℕ) → high +ℤ pos 1 ≡ low +ℤ pos n → k < n → Between low high (low +ℤ pos k)
offset-inside {n} low high k e h = record {
  lower = le_of low (low +ℤ pos k) (omega (arith, parts_add low (pos k)));
  upper = le_of (low +ℤ pos k) high (omega (arith, ap up e, ap dn e, parts_add low (pos k), parts_add high (pos 1), parts_add low (pos n)));
}

pub offset-less : (low y z : ℤ) → low ≤ℤ y → low ≤ℤ z → offset low y < offset low z → y <ℤ z
offset-less low y z h g less =
    let by = by-offset low y h in
    let bz = by-offset low z g in
    lt_of y z (omega (arith, ap up by, ap dn by, ap up bz, ap dn bz, parts_add low (pos (offset low y)), parts_add low (pos (offset low z))))

pub offset-same : (low y z : ℤ) → low ≤ℤ y → low ≤ℤ z → offset low y ≡ offset low z → y ≡ z
offset-same low y z h g e = sym (by-offset low y h) ∙ ap (λ (k : ℕ). low +ℤ pos k) e ∙ by-offset low z g

-- how far the n-th integer from `low` on is from the k-th
pub offset-left : (low : ℤ) (n k : ℕ) → k ≤ n → low +ℤ pos n -ℤ (low +ℤ pos k) ≡ pos (n - k)
offset-left low n k h = same_of _ _ (omega (arith, parts_add low (pos n), parts_add low (pos k), parts-neg (low +ℤ pos k), parts_add (low +ℤ pos n) (neg_ℤ (low +ℤ pos k))))
