-- What a look-up in the code table finds. Assumes nothing.
use mathlib.Core.Path.{◌≡◌, ap, ◌∙◌, sym, subst}
use Prim.Native.Nat.{ℕ, zero, suc, ◌+◌, ◌*◌, ◌-◌, ◌/◌, ◌^◌, ◌<◌, ◌≤◌}
use native.Mathlib.Nat.{div-lt_iff_lt-mul, div-div-eq-div-mul, mul-le-mul_right}
use native.Mathlib.Omega.{arith}
use lib.ListN.{take}
use lib.Pow.{pow-add, pow_pos}
use lib.Seq.{take_all}
use Rattle.mpeg1_bits.specs.declared.Window.{Window}
use Rattle.mpeg1_bits.specs.Bits.{bits_of, bits_in}
use Rattle.mpeg1_bits.proofs.Rest.{window-take, window-length}
use Rattle.mpeg1_tables.specs.Code.{code_of}
use Rattle.mpeg1_tables.specs.Table.{table_row_at}
use Rattle.mpeg1_vlc.specs.Requires.{LookUpFits}
use Rattle.mpeg1_vlc.specs.LookUp.{unpadded_of}
use Rattle.mpeg1_vlc.proofs.Laws.Padding.{code-unpadded}

-- the row's zeros are in the window
pub zeros-there : (k zeros : ℕ) (next : Window) → LookUpFits k zeros next → zeros ≤ next.count
zeros-there k zero next f = omega arith
zeros-there k (suc further) next f = omega (arith, f.few, f.enough)

-- the window has all eight bits after the row's zeros, or fewer
module _ (k zeros : ℕ) (next : Window) (f : LookUpFits k zeros next) where
  -- the index is formed by the row's zeros and the eight bits after them
  pub next-index : zeros + 8 ≤ next.count → take (zeros + 8) (bits_in next) ≡ bits_of ((table_row_at k).zeros + 8) (next.bits / 2 ^ (24 - zeros))
  next-index h =
      window-take next (zeros + 8) h f.most
      ∙ ap (λ (m : ℕ). bits_of (zeros + 8) (next.bits / 2 ^ m)) same
      ∙ ap (λ (z : ℕ). bits_of (z + 8) (next.bits / 2 ^ (24 - zeros))) (sym f.begins)
    where
      same : 32 - (zeros + 8) ≡ 24 - zeros
      same = omega (arith, f.few)

  pub looked-up : zeros + 8 ≤ next.count → code_of (table_row_at k).words (bits_of ((table_row_at k).zeros + 8) (next.bits / 2 ^ (24 - zeros))) ≡ code_of (table_row_at k).words (take (zeros + 8) (bits_in next))
  looked-up h = ap (code_of (table_row_at k).words) (sym (next-index h))

  -- fewer than eight bits: v is these bits, which leave room for p more
  module _ (h : next.count < zeros + 8) where
    abbrev n : ℕ
    n = next.count - zeros

    abbrev p : ℕ
    p = zeros + 8 - next.count

    abbrev v : ℕ
    v = next.bits / 2 ^ (32 - next.count)

    full : n + p ≡ 8
    full = omega (arith, zeros-there k zeros next f, h)

    powers : 2 ^ n * 2 ^ p ≡ 256
    powers = sym (pow-add 2 n p) ∙ ap (λ (m : ℕ). 2 ^ m) full

    small : v < 2 ^ n
    small =
        subst (λ (x : ℕ). x < 2 ^ n) (div-div-eq-div-mul next.bits (2 ^ (24 - zeros)) (2 ^ p) ∙ ap (λ (x : ℕ). next.bits / x) parted)
        ((div-lt_iff_lt-mul (pow_pos p)).1 (subst (λ (x : ℕ). next.bits / 2 ^ (24 - zeros) < x) (sym powers) f.low))
      where
        both : 24 - zeros + p ≡ 32 - next.count
        both = omega (arith, f.few, h)

        parted : 2 ^ (24 - zeros) * 2 ^ p ≡ 2 ^ (32 - next.count)
        parted = sym (pow-add 2 (24 - zeros) p) ∙ ap (λ (m : ℕ). 2 ^ m) both

    -- the bits padded with ones are still in the row
    pub padded-below : next.bits / 2 ^ (32 - next.count) * 2 ^ (zeros + 8 - next.count) + (2 ^ (zeros + 8 - next.count) - 1) < 256
    padded-below = omega (arith, powers, pow_pos p, mul-le-mul_right (2 ^ p) small)

    pub looked-up-at-end : unpadded_of next.count (code_of (table_row_at k).words (bits_of ((table_row_at k).zeros + 8) (next.bits / 2 ^ (32 - next.count) * 2 ^ (zeros + 8 - next.count)))) (code_of (table_row_at k).words (bits_of ((table_row_at k).zeros + 8) (next.bits / 2 ^ (32 - next.count) * 2 ^ (zeros + 8 - next.count) + (2 ^ (zeros + 8 - next.count) - 1)))) ≡ code_of (table_row_at k).words (take (zeros + 8) (bits_in next))
    looked-up-at-end =
        ap (λ (m : ℕ). unpadded_of m (code_of (table_row_at k).words (bits_of ((table_row_at k).zeros + 8) (v * 2 ^ p))) (code_of (table_row_at k).words (bits_of ((table_row_at k).zeros + 8) (v * 2 ^ p + (2 ^ p - 1))))) (sym count)
        ∙ sym (code-unpadded k n p v f.there full (omega arith) small (rw (count, f.begins) f.enough))
        ∙ ap (code_of (table_row_at k).words) (ap (λ (m : ℕ). bits_of m v) count ∙ sym (window-take next next.count (omega arith) f.most) ∙ all ∙ sym (take_all (zeros + 8) (bits_in next) (omega (arith, h, window-length next f.most))))
      where
        count : (table_row_at k).zeros + n ≡ next.count
        count = rw f.begins (omega (arith, zeros-there k zeros next f))

        all : take next.count (bits_in next) ≡ bits_in next
        all = take_all next.count (bits_in next) (omega (arith, window-length next f.most))
