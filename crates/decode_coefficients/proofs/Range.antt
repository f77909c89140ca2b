-- The coefficients of a block are within the limits, whatever its pairs, scale and matrix. Assumes nothing.
use mathlib.Core.List.{List, [], ◌∷◌}
use Prim.Native.Nat.{ℕ}
use lib.IntN.{ℤ, pos, negsuc}
use lib.ListN.{replicate}
use Rattle.math.specs.Bound.{Between, AllBetween}
use Rattle.math.proofs.Bound.{zeros-at}
use Rattle.math.proofs.Limit.{set-between}
use Rattle.symbols.specs.declared.pair.Pair.{Pair}
use Rattle.decode_coefficients.proofs.Ranges.{coefficient-between}
use Rattle.decode_coefficients.specs.declared.block.BlockCoding.{BlockCoding}
use Rattle.decode_coefficients.specs.Block.{PositionedLevel, block_levels, with_levels, dc_block, block_coefficients}

pub zeros-between : (n : ℕ) → AllBetween (negsuc 2047) (pos 2047) (replicate n (pos 0))
zeros-between n = record { all = λ k. rw (zeros-at n k) (record { lower = record { le = tt }; upper = record { le = tt } }) }

module _ (c : BlockCoding) (matrix : List ℕ) where
  with-levels-between : (levels : List PositionedLevel) {block : List ℤ} → AllBetween (negsuc 2047) (pos 2047) block → AllBetween (negsuc 2047) (pos 2047) (with_levels c matrix levels block)
  unfolding with_levels
  with-levels-between [] r = r
  with-levels-between (p ∷ levels) r = with-levels-between levels (set-between _ r (coefficient-between c.intra p.level _ _))

  pub block-between : {dc : ℤ} (pairs : List Pair) → Between (negsuc 2047) (pos 2047) dc → AllBetween (negsuc 2047) (pos 2047) (block_coefficients c matrix dc pairs)
  unfolding block_coefficients dc_block
  block-between pairs b = with-levels-between (block_levels c pairs) (set-between 0 (zeros-between 64) b)
