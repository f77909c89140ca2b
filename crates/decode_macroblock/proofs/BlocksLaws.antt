-- Laws of blocks and macroblocks written in sequence, and of macroblocks without a coded block. Assumes nothing.
use mathlib.Core.Path.{◌≡◌, refl}
use mathlib.Core.Bool.{false}
use mathlib.Core.List.{List, [], ◌∷◌, ◌++◌}
use Prim.Native.Nat.{ℕ, zero, suc, ◌+◌, ◌-◌, ◌^◌, ◌<◌}
use native.Mathlib.Nat.{zero-div}
use native.Mathlib.Numerals.{add-one}
use native.Mathlib.Omega.{arith}
use lib.IntN.{ℤ}
use Rattle.math.specs.Tab.{tab}
use Rattle.math.proofs.Tab.{tab-more}
use Rattle.symbols.specs.Pattern.{is_coded}
use Rattle.symbols.specs.declared.size.PictureSize.{PictureSize}
use Rattle.decode_macroblock.specs.declared.location.MacroblockPosition.{MacroblockPosition}
use Rattle.decode_macroblock.specs.declared.compensation.Motion.{Motion}
use Rattle.decode_macroblock.specs.Location.{block_location, put_at}
use Rattle.decode_macroblock.specs.Compensation.{References, predicted_block}
use Rattle.decode_macroblock.specs.Block.{with_residue, pels_of}
use Rattle.decode_macroblock.specs.Macroblock.{MadeMacroblock, predicted_only, predicted_only_from, with_blocks, with_macroblock, with_macroblocks}

pub blocks-none : (p : MacroblockPosition) (blocks : ℕ → List ℕ) (picture : List ℕ) → picture ≡ with_blocks p blocks 0 picture
unfolding with_blocks
blocks-none p blocks picture = refl

pub blocks_more : (p : MacroblockPosition) (blocks : ℕ → List ℕ) (n : ℕ) (picture : List ℕ)
    → put_at (block_location p n) (blocks n) (with_blocks p blocks n picture) ≡ with_blocks p blocks (n + 1) picture
unfolding with_blocks
blocks_more p blocks n picture = rw add-one

pub blocks-same : (p : MacroblockPosition) (f g : ℕ → List ℕ) (n : ℕ) (picture : List ℕ) → ((b : ℕ) → b < n → f b ≡ g b) → with_blocks p f n picture ≡ with_blocks p g n picture
unfolding with_blocks
blocks-same p f g zero picture e = refl
blocks-same p f g (suc n) picture e = λ i. put_at (block_location p n) (e n (omega arith) i) (blocks-same p f g n picture (λ b h. e b (omega arith)) i)

-- ---- with pattern 0, each block is its prediction
none-coded : (block : ℕ) → is_coded 0 block ≡ false
unfolding is_coded
none-coded block = rw (zero-div (2 ^ (5 - block)))

pub block-uncoded : (transform : List ℤ → ℕ → ℤ) (r : References) (p : MacroblockPosition) (m : Motion) (c : List (List ℤ)) (block : ℕ)
    → pels_of transform r p m 0 c block ≡ predicted_block r.forward r.backward m (block_location p block) block
unfolding pels_of with_residue
block-uncoded transform r p m c block = rw (none-coded block)

-- ---- macroblocks in sequence
module _ (transform : List ℤ → ℕ → ℤ) (r : References) (s : PictureSize) where
  pub macroblocks-none : (picture : List ℕ) → picture ≡ with_macroblocks transform r s [] picture
  unfolding with_macroblocks
  macroblocks-none picture = refl

  pub macroblocks-both : (a b : List MadeMacroblock) (picture : List ℕ) → with_macroblocks transform r s (a ++ b) picture ≡ with_macroblocks transform r s b (with_macroblocks transform r s a picture)
  unfolding with_macroblocks
  macroblocks-both [] b picture = refl
  macroblocks-both (m ∷ a) b picture = macroblocks-both a b _

  pub macroblocks-last : (a : List MadeMacroblock) (m : MadeMacroblock) (picture : List ℕ) → with_macroblocks transform r s (a ++ (m ∷ [])) picture ≡ with_macroblock transform r s m (with_macroblocks transform r s a picture)
  unfolding with_macroblocks
  macroblocks-last a m picture = macroblocks-both a (m ∷ []) picture

  pub run_none : (first : ℕ) (m : Motion) (picture : List ℕ) → picture ≡ with_macroblocks transform r s (predicted_only_from first 0 m) picture
  unfolding with_macroblocks tab
  run_none first m picture = refl

  pub run_more : (first : ℕ) (m : Motion) (n : ℕ) (picture : List ℕ)
      → with_macroblock transform r s (predicted_only (first + n) m) (with_macroblocks transform r s (predicted_only_from first n m) picture) ≡ with_macroblocks transform r s (predicted_only_from first (n + 1) m) picture
  run_more first m n picture = rw (tab-more n) (rw (macroblocks-last (predicted_only_from first n m)))
