-- How the reader tells the transform which rows of a block to work, so that nothing scans the block: marks, a number of sixty-four bits.
use Rattle.std.specs.Prelude.{Bool, not, cond, List, ◌≡◌, ℕ, ◌*◌, ◌/◌, ◌%◌, ◌^◌, ◌<◌, eqb, ltb, ℤ, pos, length, get_or}
use Rattle.std.specs.Int.Bits.{bit_or}
use Rattle.math.specs.Bound.{at}
use Rattle.math.specs.Limit.{eq_z}
use Rattle.decode_coefficients.specs.BlockArray.{block_in}

-- whether bit k of the marks is set
unfoldable pub has_mark : ℕ → ℕ → Bool
has_mark marks k = eqb (marks / 2 ^ k % 2) 1

-- the marks of a block: bit k is set exactly when the coefficient at raster index k is not 0
pub record Marked (c : List ℤ) (marks : ℕ) : Type 0 where
  pub small : marks < 2 ^ 64
  pub each : (k : ℕ) → k < 64 → has_mark marks k ≡ not (eq_z (at c k) (pos 0))

-- whether row v is marked: one of its bits, 8v to 8v + 7, is set
unfoldable pub has_row : ℕ → ℕ → Bool
has_row marks v = not (eqb (marks / 2 ^ (8 * v) % 2 ^ 8) 0)

-- whether a coefficient after the first (an AC coefficient) is marked: a bit above that of the DC is set
abbrev pub has_ac : ℕ → Bool
has_ac marks = ltb 1 marks

-- the marks after a coefficient is stored: they change only if it is not 0
unfoldable pub with_coefficient : ℕ → ℕ → ℤ → ℕ
with_coefficient marks raster coefficient = cond (eq_z coefficient (pos 0)) marks (bit_or marks (2 ^ raster))

-- the array of six blocks, and the marks of each
pub record BlocksMarked (store : List ℤ) (marks : List ℕ) : Type 0 where
  pub coefficients : length store ≡ 6 * 64
  pub blocks : length marks ≡ 6
  pub each : (block : ℕ) → block < 6 → Marked (block_in store block) (get_or marks block 0)
