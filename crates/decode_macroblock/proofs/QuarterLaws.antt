-- Laws of 16 by 16 luma pels: put into a plane they are four blocks, and at whole pels they are four predictions. Assumes nothing.
use mathlib.Core.Path.{◌≡◌, refl, ap, ◌∙◌, sym}
use mathlib.Core.List.{List}
use Prim.Native.Nat.{ℕ, zero, suc, ◌+◌, ◌-◌, ◌*◌, ◌/◌, ◌%◌, ◌<◌, ◌≤◌}
use native.Mathlib.Nat.{mul-le-mul_right, le_trans}
use native.Mathlib.Omega.{arith}
use native.Mathlib.Decide.{ℕ_discrete, dec_lt, dec_le}
use lib.ListN.{length, get_or}
use lib.Seq.{ext_get_or}
use Rattle.math.proofs.Tab.{tab-at}
use Rattle.decode_prediction.specs.Prediction.{pel_at, prediction, copied_pels}
use Rattle.decode_prediction.proofs.MeanLaws.{predicted-whole}
use Rattle.decode_macroblock.specs.Pel.{with_pels, with_block}
use Rattle.decode_macroblock.proofs.PelLaws.{pel_in, with-pels-length, with-pels-out, with-pels-in}

-- the plane with the first n of four blocks put from column x of line y on, left to right, top to bottom
unfoldable pub with_quarters : ℕ → ℕ → ℕ → (ℕ → List ℕ) → ℕ → List ℕ → List ℕ
with_quarters stride x y blocks zero plane = plane
with_quarters stride x y blocks (suc n) plane = with_block stride (x + 8 * (n % 2)) (y + 8 * (n / 2)) (blocks n) (with_quarters stride x y blocks n plane)

pub quarters-length : (stride x y : ℕ) (blocks : ℕ → List ℕ) (n : ℕ) (plane : List ℕ) → length (with_quarters stride x y blocks n plane) ≡ length plane
unfolding with_quarters
quarters-length stride x y blocks zero plane = refl
quarters-length stride x y blocks (suc n) plane =
    with-pels-length 8 stride (x + 8 * (n % 2)) (y + 8 * (n / 2)) (blocks n) (with_quarters stride x y blocks n plane) ∙ quarters-length stride x y blocks n plane

-- the index among the luma pels of pel k of block q
abbrev pub pel_of_quarter : ℕ → ℕ → ℕ
pel_of_quarter q k = 16 * (8 * (q / 2) + k / 8) + (8 * (q % 2) + k % 8)

-- a column and a line among `side` by `side` pels at column x of line y
record Among (side x y column line : ℕ) : Type 0 where
  left : x ≤ column
  right : column < x + side
  top : y ≤ line
  bottom : line < y + side

quarter-pel : (x y column line q : ℕ) → Among 8 (x + 8 * (q % 2)) (y + 8 * (q / 2)) column line
    → 16 * (line - y) + (column - x) ≡ pel_of_quarter q (8 * (line - (y + 8 * (q / 2))) + (column - (x + 8 * (q % 2))))
quarter-pel x y column line q a = omega (arith, a)

-- the quarter of the luma pels that they are in
abbrev quarter : ℕ → ℕ → ℕ → ℕ → ℕ
quarter x y column line = 2 * ((line - y) / 8) + (column - x) / 8

in-quarter : (x y column line : ℕ) → Among 16 x y column line
    → Among 8 (x + 8 * (quarter x y column line % 2)) (y + 8 * (quarter x y column line / 2)) column line
in-quarter x y column line a =
    record { left = omega (arith, a); right = omega (arith, a); top = omega (arith, a); bottom = omega (arith, a) }

module _ (stride x y : ℕ) (across : x + 16 ≤ stride) (blocks : ℕ → List ℕ) (plane : List ℕ) where
  abbrev quarters : ℕ → List ℕ
  quarters n = with_quarters stride x y blocks n plane

  quarters-out : (i n : ℕ) → n ≤ 4 → (Among 16 x y (i % stride) (i / stride) → ⊥) → get_or (quarters n) i 0 ≡ get_or plane i 0
  unfolding with_quarters
  quarters-out i zero few out = refl
  quarters-out i (suc n) few out =
      with-pels-out 8 stride (x + 8 * (n % 2)) (y + 8 * (n / 2)) (omega arith) (omega arith) (blocks n) (quarters n) i
      (λ l r t b. out (record { left = omega arith; right = omega arith; top = omega arith; bottom = omega arith }))
      ∙ quarters-out i n (omega arith) out

  module _ (down : (y + 16) * stride ≤ length plane) where
    quarter-down : (n : ℕ) → n < 4 → (y + 8 * (n / 2) + 8) * stride ≤ length (quarters n)
    quarter-down n few = rw quarters-length (le_trans (mul-le-mul_right stride (omega arith)) down)

    -- a later block leaves an earlier one unchanged
    quarters-in : (i q n : ℕ) → q < n → n ≤ 4 → Among 8 (x + 8 * (q % 2)) (y + 8 * (q / 2)) (i % stride) (i / stride)
        → get_or (quarters n) i 0 ≡ get_or (blocks q) (pel_in 8 stride (x + 8 * (q % 2)) (y + 8 * (q / 2)) i) 0
    unfolding with_quarters
    quarters-in i q zero b few a = absurd (omega arith)
    quarters-in i q (suc n) b few a = elim (ℕ_discrete q n) [
      | yes e ↦ rw e (with-pels-in 8 stride (x + 8 * (n % 2)) (y + 8 * (n / 2)) (omega arith) (omega arith) (blocks n) (quarters n) (quarter-down n (omega arith)) i
          (omega (arith, a)) (omega (arith, a)) (omega (arith, a)) (omega (arith, a)))
      | no m ↦ with-pels-out 8 stride (x + 8 * (n % 2)) (y + 8 * (n / 2)) (omega arith) (omega arith) (blocks n) (quarters n) i (λ l r t b. m (omega (arith, a)))
          ∙ quarters-in i q n (omega arith) (omega arith) a
    ]

    module _ (square : List ℕ) (same : (q k : ℕ) → q < 4 → k < 64 → get_or (blocks q) k 0 ≡ get_or square (pel_of_quarter q k) 0) where
      luma-in : (i : ℕ) → Among 16 x y (i % stride) (i / stride) → get_or (with_pels 16 stride x y square plane) i 0 ≡ get_or (quarters 4) i 0
      luma-in i a =
          let q = quarter x y (i % stride) (i / stride) in
          let here : Among 8 (x + 8 * (q % 2)) (y + 8 * (q / 2)) (i % stride) (i / stride) = in-quarter x y (i % stride) (i / stride) a in
          with-pels-in 16 stride x y (omega arith) across square plane down i a.left a.right a.top a.bottom
          ∙ ap (λ (m : ℕ). get_or square m 0) (quarter-pel x y (i % stride) (i / stride) q here)
          ∙ sym (same q (pel_in 8 stride (x + 8 * (q % 2)) (y + 8 * (q / 2)) i) (omega (arith, a)) (omega (arith, here)))
          ∙ sym (quarters-in i q 4 (omega (arith, a)) (omega arith) here)

      luma-out : (i : ℕ) → (Among 16 x y (i % stride) (i / stride) → ⊥) → get_or (with_pels 16 stride x y square plane) i 0 ≡ get_or (quarters 4) i 0
      luma-out i out =
          with-pels-out 16 stride x y (omega arith) across square plane i (λ l r t b. out (record { left = l; right = r; top = t; bottom = b }))
          ∙ sym (quarters-out i 4 (omega arith) out)

      luma-at : (i : ℕ) → get_or (with_pels 16 stride x y square plane) i 0 ≡ get_or (quarters 4) i 0
      luma-at i = elim (dec_le x (i % stride)) [
        | no p ↦ luma-out i (λ a. p a.left)
        | yes p ↦ elim (dec_lt (i % stride) (x + 16)) [
          | no q ↦ luma-out i (λ a. q a.right)
          | yes q ↦ elim (dec_le y (i / stride)) [
            | no r ↦ luma-out i (λ a. r a.top)
            | yes r ↦ elim (dec_lt (i / stride) (y + 16)) [
              | no t ↦ luma-out i (λ a. t a.bottom)
              | yes t ↦ luma-in i (record { left = p; right = q; top = r; bottom = t })
            ]
          ]
        ]
      ]

      -- putting the luma pels is putting their four blocks
      pub luma-quarters : with_pels 16 stride x y square plane ≡ with_quarters stride x y blocks 4 plane
      luma-quarters = ext_get_or 0 _ _ (with-pels-length 16 stride x y square plane ∙ sym (quarters-length stride x y blocks 4 plane)) (λ i h. luma-at i)

column : (px q k : ℕ) → (px + 16 * (q % 2)) / 2 + k % 8 ≡ px / 2 + pel_of_quarter q k % 16
column px q k = omega arith

line : (py q k : ℕ) → (py + 16 * (q / 2)) / 2 + k / 8 ≡ py / 2 + pel_of_quarter q k / 16
line py q k = omega arith

-- at whole pels each quarter of the luma pels is a prediction
pub quarter-predicted : (plane : List ℕ) (stride px py q k : ℕ) → px % 2 + py % 2 ≡ 0 → q < 4 → k < 64
    → get_or (prediction plane stride (px + 16 * (q % 2)) (py + 16 * (q / 2))) k 0 ≡ get_or (copied_pels 16 plane stride px py) (pel_of_quarter q k) 0
quarter-predicted plane stride px py q k even few h =
    tab-at 64 _ k 0 h
    ∙ sym (predicted-whole plane stride (px + 16 * (q % 2)) (py + 16 * (q / 2)) k (omega arith))
    ∙ (λ i. pel_at plane stride (column px q k i) (line py q k i))
    ∙ sym (tab-at 256 _ (pel_of_quarter q k) 0 (omega arith))
