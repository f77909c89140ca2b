-- Request No. 3, one pass over the block: "However it is done now, scale each level as it lands, in one pass. Show that after each pair the block
-- holds the scaled coefficients read so far, in their places, and 0 elsewhere. No answer, byte or refusal changes."
--
-- The pairs of a block are read by the loop of `read_pairs` (crates/format3_macroblock/src/pairs.rt), which calls `store_level` for each pair as it
-- comes. The contract of `store_level` is `with_level`: the block with one coefficient set. The invariant of the loop is `HoldsSoFar`, for the pairs
-- read so far (`BetweenPairs`, crates/format3_macroblock/proofs/Laws/Landing.antt). The contract of `read_pairs` has the block that it returns, for any
-- count of pairs and also if one is refused (`block_read`). A contract cannot say how often the code passes over a block; the code shows that.
-- A picture's definition uses only the finished block (`coefficients_of`), so when a level is scaled affects no answer, byte or refusal.
use Rattle.std.specs.Prelude.{true, false, List, [], ◌∷◌, ◌++◌, ◌≡◌, ℕ, ◌≤◌, ℤ, pos, negsuc, replicate, take}
use Rattle.math.specs.Each.{Each}
use Rattle.symbols.specs.Parsed.{parsed}
use Rattle.symbols.specs.declared.pair.Pair.{Pair}
use Rattle.symbols.specs.Pair.{first_position}
use Rattle.symbols.specs.Block.{coded}
use Rattle.decode_coefficients.specs.declared.block.BlockCoding.{BlockCoding}
use Rattle.decode_coefficients.specs.Block.{block_levels, next_level, raster_index, with_level, dc_block, coefficients_of}
use Rattle.decode_coefficients.specs.Dc.{dc_of}
use Rattle.decode_coefficients.specs.Matrices.{default_matrices}
use Rattle.decode_coefficients.specs.SoFar.{HoldsSoFar, PairsInside}
use Rattle.format3_macroblock.specs.Pairs.{pairs_of, pairs_before_refusal}
use Rattle.format3_macroblock.specs.Landing.{block_read}

-- "after each pair the block holds the scaled coefficients read so far, in their places, and 0 elsewhere": for every block, intra or not, after its
-- first k pairs; a k above their number means all of them
abbrev pub AfterEachPair : Type 0
AfterEachPair =
    (c : BlockCoding) (matrix : List ℕ) (past difference : ℤ) (pairs : List Pair) → PairsInside c pairs
    → (k : ℕ) → HoldsSoFar c matrix (dc_of c.intra past difference) (take k pairs) (coefficients_of c matrix past (coded difference (take k pairs)))

-- "scale each level as it lands": one more pair sets one coefficient, to the scaled level, and leaves the others
abbrev pub ScaledAsItLands : Type 0
ScaledAsItLands =
    (c : BlockCoding) (matrix : List ℕ) (past difference : ℤ) (pairs : List Pair) (pair : Pair)
    → coefficients_of c matrix past (coded difference (pairs ++ (pair ∷ []))) ≡ with_level c matrix (next_level c pairs pair) (coefficients_of c matrix past (coded difference pairs))

-- That coefficient is no other pair's, and it is not the DC
pub record FreeForTheNext (c : BlockCoding) (pairs : List Pair) (pair : Pair) : Type 0 where
  pub no-other-pair : Each (λ p. ¬ (raster_index p.position ≡ raster_index (next_level c pairs pair).position)) (block_levels c pairs)
  pub not-the-dc : c.intra ≡ true → ¬ (raster_index (next_level c pairs pair).position ≡ 0)

abbrev pub NoCollision : Type 0
NoCollision = (c : BlockCoding) (pairs : List Pair) (pair : Pair) → PairsInside c (pairs ++ (pair ∷ [])) → FreeForTheNext c pairs pair

-- The same for the bytes of a block, whatever they are: the reader takes the pairs before the first one that is refused
pub record HoldsWhileReading (c : BlockCoding) (matrix : List ℕ) (past difference : ℤ) (bytes : List ℕ) : Type 0 where
  -- a reader that takes at most k pairs returns a block that holds them
  pub holds : (k : ℕ) → HoldsSoFar c matrix (dc_of c.intra past difference) (pairs_before_refusal k (first_position c.intra) bytes) (block_read c matrix k bytes (dc_block (dc_of c.intra past difference)))
  -- they are the first k of those that it takes with a larger count
  pub first-ones : (k count : ℕ) → k ≤ count → pairs_before_refusal k (first_position c.intra) bytes ≡ take k (pairs_before_refusal count (first_position c.intra) bytes)
  -- if none is refused, the block is the one that goes into the transform
  pub whole :
      (count : ℕ) (pairs : List Pair) (rest : List ℕ) → pairs_of count (first_position c.intra) bytes ≡ parsed pairs rest
      → block_read c matrix count bytes (dc_block (dc_of c.intra past difference)) ≡ coefficients_of c matrix past (coded difference pairs)

abbrev pub WhileReading : Type 0
WhileReading = (c : BlockCoding) (matrix : List ℕ) (past difference : ℤ) (bytes : List ℕ) → HoldsWhileReading c matrix past difference bytes

-- ---- two blocks worked
-- a block that is 0 except for the first two coefficients of its first three rows
abbrev row : ℤ → ℤ → List ℤ
row a b = a ∷ b ∷ replicate 6 (pos 0)

abbrev rows : ℤ → ℤ → ℤ → ℤ → ℤ → ℤ → List ℤ
rows a b c d e f = row a b ++ row c d ++ row e f ++ replicate 40 (pos 0)

abbrev pair : ℕ → ℤ → Pair
pair run level = record { run = run; level = level }

-- An intra block of scale 2 with the default matrix, past DC 1024 and difference -3. Levels 5, -7 and 1 land at positions 1, 3 and 8; these have raster
-- indices 1, 16 and 17, and weights 16, 19 and 22
abbrev pub intra_coding : BlockCoding
intra_coding = record { intra = true; scale = 2 }

abbrev pub intra_pairs : List Pair
intra_pairs = pair 0 (pos 5) ∷ pair 1 (negsuc 6) ∷ pair 4 (pos 1) ∷ []

abbrev pub intra_after : ℕ → List ℤ
intra_after k = coefficients_of intra_coding default_matrices.intra (pos 1024) (coded (negsuc 2) (take k intra_pairs))

-- the first of these pairs as bytes, and a second that lands past the last position
abbrev pub second_refused : List ℕ
second_refused = 0 ∷ 0 ∷ 5 ∷ 62 ∷ 0 ∷ 1 ∷ []

-- A non-intra block of scale 1 with a matrix of weights 4. Level 1 lands at position 0 and is scaled to 0; -100 and 2 land at positions 3 and 4, which
-- have raster indices 16 and 9
abbrev pub non_intra_coding : BlockCoding
non_intra_coding = record { intra = false; scale = 1 }

abbrev pub non_intra_pairs : List Pair
non_intra_pairs = pair 0 (pos 1) ∷ pair 2 (negsuc 99) ∷ pair 0 (pos 2) ∷ []

abbrev pub non_intra_after : ℕ → List ℤ
non_intra_after k = coefficients_of non_intra_coding (replicate 64 4) (pos 1024) (coded (pos 0) (take k non_intra_pairs))

pub record WorkedBlocks : Type 0 where
  pub intra-inside : PairsInside intra_coding intra_pairs
  pub intra-0 : intra_after 0 ≡ rows (pos 1000) (pos 0) (pos 0) (pos 0) (pos 0) (pos 0)
  pub intra-1 : intra_after 1 ≡ rows (pos 1000) (pos 19) (pos 0) (pos 0) (pos 0) (pos 0)
  pub intra-2 : intra_after 2 ≡ rows (pos 1000) (pos 19) (pos 0) (pos 0) (negsuc 32) (pos 0)
  pub intra-3 : intra_after 3 ≡ rows (pos 1000) (pos 19) (pos 0) (pos 0) (negsuc 32) (pos 5)
  pub non-intra-inside : PairsInside non_intra_coding non_intra_pairs
  pub non-intra-0 : non_intra_after 0 ≡ rows (pos 0) (pos 0) (pos 0) (pos 0) (pos 0) (pos 0)
  pub non-intra-1 : non_intra_after 1 ≡ rows (pos 0) (pos 0) (pos 0) (pos 0) (pos 0) (pos 0)
  pub non-intra-2 : non_intra_after 2 ≡ rows (pos 0) (pos 0) (pos 0) (pos 0) (negsuc 48) (pos 0)
  pub non-intra-3 : non_intra_after 3 ≡ rows (pos 0) (pos 0) (pos 0) (pos 1) (negsuc 48) (pos 0)
  pub second-refused : block_read intra_coding default_matrices.intra 2 second_refused (dc_block (pos 1000)) ≡ intra_after 1
