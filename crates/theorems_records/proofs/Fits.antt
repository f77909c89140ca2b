-- What is read from bits fits the fields of a record. Assumes nothing.
use mathlib.Core.Bool.{Bool, true, false, not}
use mathlib.Core.List.{List}
use mathlib.Core.Path.{refl, subst}
use Prim.Native.Nat.{ℕ, zero, suc, ◌+◌, ◌-◌, ◌*◌, ◌^◌, ◌<◌, ◌≤◌}
use native.Mathlib.Omega.{arith}
use borrow.Author.Tests.{eqb-true, leb-true}
use lib.Dec.{ltb, eqb, leb}
use lib.IntN.{pos}
use lib.ListN.{length}
use lib.Pow.{pow_mono}
use mir.Syntax.{w8, w16}
use mir.Val.{Fits, SFits}
use Rattle.symbols.specs.Size.{max_macroblocks}
use Rattle.std.specs.Prelude.{Option, Some, None, Ok, Err}
use Rattle.math.proofs.Bound.{within-fits, within-cond}
use Rattle.symbols.specs.Parsed.{optional◌default◌read◌}
use Rattle.symbols.specs.Requires.{HeaderWithin}
use Rattle.symbols.specs.declared.header.Header.{Header}
use Rattle.symbols.specs.MacroblockType.{has_scale, has_forward, has_backward, is_intra}
use Rattle.symbols.specs.declared.pair.Pair.{Pair}
use Rattle.symbols.specs.Pair.{first_position}
use Rattle.symbols.specs.Pattern.{is_coded}
use Rattle.symbols.specs.declared.vector_codes.Vectors.{Vectors}
use Rattle.symbols.specs.VectorCodes.{no_codes}
use Rattle.symbols.proofs.Guard.{require-all}
use Rattle.symbols.proofs.Parsed.{All, here, none, all_then, all-require, all-cond, all_any}
use Rattle.symbols.proofs.Laws.Size.{rows-within}
use Rattle.mpeg1_bits.specs.Bits.{bits_from}
use Rattle.mpeg1_bits.specs.declared.BitPosition.{BitPosition}
use Rattle.mpeg1_tables.specs.AnnexB.{increments, increments_after_escape, stuffing, increment_escape, types_of, motion_codes}
use Rattle.mpeg1_vlc.specs.Difference.{dc_difference_of}
use Rattle.mpeg1_vlc.proofs.Laws.Range.{increment-read, increment-after-escape-read, motion-code-read}
use Rattle.mpeg1_vlc.specs.Coefficient.{CoefficientRead, words_of, coefficient_code_of}
use Rattle.mpeg1_vlc.specs.declared.coefficient.Coefficient.TheVariants as Coefficient
use Rattle.mpeg1_vlc.proofs.Laws.CoefficientRange.{WellRead, less-within}
use Rattle.mpeg1_slice.specs.Read.{Reader, word_at, field_at}
use Rattle.mpeg1_slice.specs.Increment.{after_stuffing, amount_of, after_escape, increment_at}
use Rattle.mpeg1_slice.specs.Vectors.{residual_at, component_at, vector_codes_at, given_vector_codes_at}
use Rattle.mpeg1_slice.specs.Blocks.{size_words, difference_at, next_pair_of, pairs_from, pairs_at, given_difference_at, block_at, given_block_at, blocks_from}
use Rattle.mpeg1_slice.specs.Macroblock.{scale_at, head_at, vectors_at, pattern_at, pattern_and_blocks_at, vectors_and_blocks_at, macroblock_at}
use Rattle.mpeg1_slice.specs.Slice.{start_address}
use Rattle.mpeg1_slice.proofs.Laws.Read.{field_below, word-between}
use Rattle.mpeg1_slice.proofs.Laws.Increment.{escape-amount}
use Rattle.mpeg1_slice.proofs.Laws.Coefficient.{coefficient-well-read, all-until}
use Rattle.mpeg1_slice.proofs.Laws.Words.{size-read}
use Rattle.theorems_records.specs.FieldFit.{WhereGiven, CodesFitFields, PairsFitFields, BlockFitsFields, BlocksFitFields, MacroblockFitsFields}

-- a field that is read only where it is given
given-fits : {A : Type 0} {Fit : A → Type 0} (present : Bool) (absent : A) (r : Reader A) (at : BitPosition) → All (λ a p. Fit a) (r at) → All (λ a p. WhereGiven present (Fit a) absent a) ((optional present default absent read r) at)
given-fits true absent r at all = all
given-fits false absent r at all = here refl

module _ (bytes : List ℕ) where
  -- ---- the increment: at most 396 plus the value of one code
  first_small : (n : ℕ) (at : BitPosition) → All (λ v p. v ≤ 35) (after_stuffing n bytes at)
  unfolding after_stuffing
  first_small zero at = none
  first_small (suc n) at =
      all_then (word-between bytes at increments increment-read) λ v p k.
      all-cond (eqb v stuffing) _ _ _ (λ t. first_small n p) (λ t. here k.1)

  escape-small : (n sum : ℕ) (at : BitPosition) → sum ≤ max_macroblocks → All (λ v p. v ≤ 431) (after_escape n sum bytes at)
  unfolding after_escape
  escape-small zero sum at h = none
  escape-small (suc n) sum at h =
      all_then (word-between bytes at increments_after_escape increment-after-escape-read) λ v p k.
      all-require (leb (sum + amount_of v) max_macroblocks) _ _ p λ t.
      all-cond (eqb v increment_escape) _ _ _
      (λ u. escape-small n (sum + 33) p (omega (arith, leb-true (sum + amount_of v) max_macroblocks t, escape-amount v (eqb-true v increment_escape u))))
      (λ u. here (omega (arith, k.1)))

  pub increment-small : (at : BitPosition) → All (λ v p. v ≤ 431) (increment_at bytes at)
  unfolding increment_at
  increment-small at =
      all_then (first_small (1 + length (bits_from bytes at)) at) λ v p k.
      all-cond (eqb v increment_escape) _ _ _ (λ t. escape-small 12 33 p (omega arith)) (λ t. here (omega arith))

  -- ---- vectors
  module _ (f_code : ℕ) where
    motion-fits : (at : BitPosition) → All (λ code p. SFits w8 code.code) (component_at f_code bytes at)
    unfolding component_at
    motion-fits at =
        all_then (word-between bytes at motion_codes motion-code-read) λ value p k.
        all_then (all_any (residual_at f_code value bytes p)) λ residual q u.
        here (within-fits {b = 32} (less-within value 16 k.1 (omega arith)) tt)

    vector-fits : (at : BitPosition) → All (λ codes p. CodesFitFields codes) (vector_codes_at f_code bytes at)
    unfolding vector_codes_at
    vector-fits at =
        all_then (motion-fits at) λ horizontal p k.
        all_then (motion-fits p) λ vertical q l.
        here (record { across = k; down = l })

    given-vector-fits : (present : Bool) (at : BitPosition) → All (λ codes p. WhereGiven present (CodesFitFields codes) no_codes codes) (given_vector_codes_at present f_code bytes at)
    unfolding given_vector_codes_at
    given-vector-fits present at = given-fits present no_codes (vector_codes_at f_code bytes) at (vector-fits at)

  -- ---- blocks
  dc-fits : (size v : ℕ) → size ≤ 8 → v < 2 ^ size → SFits w16 (dc_difference_of size v)
  unfolding dc_difference_of
  dc-fits size v h k =
      let most : 2 ^ size ≤ 256 = pow_mono {i = size} {j = 8} h in
      within-fits {b = 256} (within-cond (ltb (2 * v) (2 ^ size)) (less-within (v + 1) (2 ^ size) (omega arith) most) (record { within = omega arith })) tt

  difference-fits : (block : ℕ) (at : BitPosition) → All (λ z p. SFits w16 z) (difference_at block bytes at)
  unfolding difference_at
  difference-fits block at =
      all_then (word-between bytes at (size_words block) (size-read block)) λ size p k.
      all-cond (eqb size 0) _ _ _ (λ t. here (record { sfits = omega arith })) (λ t. all_then (field_below bytes p size) λ v q l. here (dc-fits size v k.1 l))

  data SmallLevel : Option Pair → Type 0 where
    level : {pair : Pair} → SFits w16 pair.level → SmallLevel (Some pair)
    ends : SmallLevel None

  level-of : {pair : Pair} → SmallLevel (Some pair) → SFits w16 pair.level
  level-of (level fits) = fits

  coefficient-small : (next : ℕ) (at : BitPosition) (m : ℕ) (c : CoefficientRead) → WellRead m c → All (λ found p. SmallLevel found) (next_pair_of next c at)
  unfolding next_pair_of
  coefficient-small next at m (Ok (Coefficient.Pair run z n)) k = require-all (All (λ found p. SmallLevel found)) (leb (next + run) 63) _ _ none λ t. here (level (within-fits k.small tt))
  coefficient-small next at m (Ok (Coefficient.EndOfBlock n)) k = here ends
  coefficient-small next at m (Err error) k = none

  pairs-fit : (n : ℕ) (first : Bool) (next : ℕ) (at : BitPosition) → All (λ pairs p. PairsFitFields pairs) (pairs_from n first next bytes at)
  unfolding pairs_from
  pairs-fit zero first next at = none
  pairs-fit (suc n) first next at =
      all_then (coefficient-small next at _ (coefficient_code_of (words_of first) (bits_from bytes at)) (coefficient-well-read first bytes at)) λ found p k.
      all-until found _ p tt λ pair e.
      all_then (pairs-fit n false (next + pair.run + 1) p) λ pairs q l.
      here (level-of (subst SmallLevel e k), l)

  block-fits : (present intra : Bool) (block : ℕ) (at : BitPosition) → All (λ b p. BlockFitsFields intra b) (given_block_at present intra block bytes at)
  unfolding given_block_at block_at given_difference_at pairs_at
  block-fits true intra block at =
      all_then (given-fits intra (pos 0) (difference_at block bytes) at (difference-fits block at)) λ z p k.
      all_then (pairs-fit 65 (not intra) (first_position intra) p) λ pairs q l.
      here (k, l)
  block-fits false intra block at = here tt

  blocks-fit : (intra : Bool) (pattern n block : ℕ) (at : BitPosition) → All (λ blocks p. BlocksFitFields intra blocks) (blocks_from intra pattern n block bytes at)
  unfolding blocks_from
  blocks-fit intra pattern zero block at = here tt
  blocks-fit intra pattern (suc n) block at =
      all_then (block-fits (is_coded pattern block) intra block at) λ b p k.
      all_then (blocks-fit intra pattern n (block + 1) p) λ blocks q l.
      here (k, l)

  -- ---- the macroblock
  head-fits : (coding_type : ℕ) (at : BitPosition) → All (λ head p. WhereGiven (has_scale head.macroblock_type) (Unit {0}) 0 head.scale) (head_at coding_type bytes at)
  unfolding head_at scale_at
  head-fits coding_type at =
      all_then (all_any (word_at (types_of coding_type) bytes at)) λ type p u.
      all_then (given-fits (has_scale type) 0 (field_at 5 bytes) p (all_any (field_at 5 bytes p))) λ scale q k.
      here k

  record FittingVectors (type : ℕ) (vectors : Vectors) : Type 0 where
    first : WhereGiven (has_forward type) (CodesFitFields vectors.forward) no_codes vectors.forward
    second : WhereGiven (has_backward type) (CodesFitFields vectors.backward) no_codes vectors.backward

  vectors-fit : (type forward_code backward_code : ℕ) (at : BitPosition) → All (λ vectors p. FittingVectors type vectors) (vectors_at type forward_code backward_code bytes at)
  unfolding vectors_at
  vectors-fit type forward_code backward_code at =
      all_then (given-vector-fits forward_code (has_forward type) at) λ forward p k.
      all_then (given-vector-fits backward_code (has_backward type) p) λ backward q l.
      here (record { first = k; second = l })

  pattern-and-blocks-fit : (type : ℕ) (at : BitPosition) → All (λ pattern_and_blocks p. BlocksFitFields (is_intra type) pattern_and_blocks.blocks) (pattern_and_blocks_at type bytes at)
  unfolding pattern_and_blocks_at
  pattern-and-blocks-fit type at =
      all_then (all_any (pattern_at type bytes at)) λ pattern p u.
      all_then (blocks-fit (is_intra type) pattern 6 0 p) λ blocks q k.
      here k

  rest-fits : (type forward_code backward_code : ℕ) (at : BitPosition)
      → All (λ rest p. FittingVectors type rest.vectors × BlocksFitFields (is_intra type) rest.pattern_and_blocks.blocks) (vectors_and_blocks_at type forward_code backward_code bytes at)
  unfolding vectors_and_blocks_at
  rest-fits type forward_code backward_code at =
      all_then (vectors-fit type forward_code backward_code at) λ vectors p k.
      all_then (pattern-and-blocks-fit type p) λ pattern_and_blocks q l.
      here (k, l)

  pub macroblock-fits : (h : Header) (increment : ℕ) (at : BitPosition) → Fits w16 increment → All (λ m p. MacroblockFitsFields m) (macroblock_at h increment bytes at)
  unfolding macroblock_at
  macroblock-fits h increment at fits =
      all_then (head-fits h.coding_type at) λ head p scale.
      all_then (rest-fits head.macroblock_type h.forward.f_code h.backward.f_code p) λ rest q k.
      here (record { symbols = record { increment = fits; scale = scale; forward = k.0.first; backward = k.0.second }; blocks = k.1 })

-- ---- the start address
pub start_fits : (h : Header) (row increment : ℕ) → HeaderWithin h → row ≤ h.size.height → increment ≤ 431 → Fits w16 (start_address h row increment)
unfolding start_address
start_fits h row increment within rows small =
    let above : row - 1 ≤ h.size.height = omega arith in
    let few = rows-within within.size (row - 1) above in
    record { fits = omega arith }
