-- The body of a record whose symbols are within their ranges consists of bytes. Assumes nothing.
use mathlib.Core.Bool.{Bool, true, false, cond}
use mathlib.Core.List.{List, [], ◌∷◌, ◌++◌}
use mathlib.Core.Path.{◌≡◌, refl, ◌∙◌}
use Prim.Native.Nat.{ℕ, ◌+◌, ◌/◌, ◌%◌, ◌<◌, ◌≤◌}
use native.Mathlib.Decide.{dec_le}
use native.Mathlib.Omega.{arith}
use borrow.Author.Tests.{eqb-true, leb-true, ltb-true}
use lib.Dec.{leb, ltb, eqb}
use lib.IntN.{ℤ, pos}
use lib.ListN.{length}
use mir.Syntax.{w8}
use prog.Model.{AllFit}
use Rattle.decode_coefficients.specs.Dc.{dc_pasts_after}
use Rattle.math.proofs.Test.{clash}
use Rattle.math.specs.Joined.{joined}
use Rattle.math.specs.Limit.{eq_z}
use Rattle.symbols.specs.declared.slice.SliceHeader.{SliceHeader}
use Rattle.symbols.specs.declared.vector_codes.VectorCode.{VectorCode}
use Rattle.symbols.specs.declared.vector_codes.VectorCodes.{VectorCodes}
use Rattle.symbols.specs.MacroblockType.{has_scale, has_forward, has_backward, has_pattern, is_intra, legal_type}
use Rattle.symbols.specs.Pattern.{coded_pattern}
use Rattle.symbols.specs.declared.pair.Pair.{Pair}
use Rattle.symbols.specs.Pair.{after_pair, first_position}
use Rattle.symbols.specs.Block.{Block, uncoded, coded}
use Rattle.symbols.specs.declared.macroblock.MacroblockSymbols.{MacroblockSymbols}
use Rattle.symbols.specs.VectorCodes.{no_codes}
use Rattle.symbols.specs.Macroblock.{Macroblock}
use Rattle.symbols.proofs.Guard.{both}
use Rattle.symbols.proofs.Laws.MacroblockType.{types-above}
use Rattle.decode_coefficients.specs.declared.dc.DcPasts.{DcPasts}
use Rattle.decode_vectors.specs.Vector.{residual_in_range}
use Rattle.format3_macroblock.specs.Blocks.{legal_count}
use Rattle.format3_macroblock.specs.Slice.{legal_scale}
use Rattle.format3_macroblock.specs.declared.macroblock.MacroblockContext.{MacroblockContext}
use Rattle.format3_macroblock.specs.Macroblock.{legal_pattern}
use Rattle.format3_writer.specs.Bytes.{big_endian_bytes}
use Rattle.format3_writer.proofs.Laws.Bytes.{complement-below}
use Rattle.format3_writer.specs.Records.{slice_body, pair_bytes, pairs_bytes, levels_bytes, difference_bytes, block_bytes, blocks_bytes, head_bytes, vector_code_bytes, vector_codes_bytes, given_vector_codes_bytes, pattern_bytes, macroblock_body}
use Rattle.theorems_records.specs.FieldFit.{WhereGiven}
use Rattle.theorems_records.specs.Legal.{LegalSlice, LegalCode, LegalCodes, LegalSymbols, LegalPairs, LegalBlock, LegalBlocks, LegalMacroblock}
use Rattle.theorems_records.proofs.Legal.{code_fits}

-- ---- one part after the other
data Bytes : List ℕ → Type 0 where
  none : Bytes []
  more : {b : ℕ} {bytes : List ℕ} → b < 256 → Bytes bytes → Bytes (b ∷ bytes)

all_fit : {bytes : List ℕ} → Bytes bytes → AllFit w8 bytes
all_fit none = tt
all_fit (more small bytes) = (record { fits = small }, all_fit bytes)

both_bytes : {first second : List ℕ} → Bytes first → Bytes second → Bytes (first ++ second)
both_bytes none after = after
both_bytes (more small bytes) after = more small (both_bytes bytes after)

given-bytes : {A : Type 0} {Legal : Type 0} (present : Bool) (absent field : A) (bytes : List ℕ) → (Legal → Bytes bytes) → WhereGiven present Legal absent field → Bytes (cond present bytes [])
given-bytes true absent field bytes fit legal = fit legal
given-bytes false absent field bytes fit same = none

-- ---- fields
word_bytes : (n : ℕ) → Bytes (big_endian_bytes n)
unfolding big_endian_bytes
word_bytes n =
    let high : n / 256 % 256 < 256 = omega arith in
    let low : n % 256 < 256 = omega arith in
    more high (more low none)

scale_small : (scale : ℕ) → legal_scale scale ≡ true → scale < 256
scale_small scale legal = omega (arith, leb-true scale 31 (both (leb 1 scale) (leb scale 31) legal).1)

type-small : (coding type : ℕ) → legal_type coding type ≡ true → type < 256
type-small coding type legal = go (dec_le type 31)
  where
    go : Dec (type ≤ 31) → type < 256
    go (yes h) = omega arith
    go (no h) = clash (types-above coding type (omega arith) ∙ legal) refl

-- ---- codes
module _ (f : ℕ) (most : f ≤ 256) where
  residual-small : (code : ℤ) (residual : ℕ) → residual_in_range f code residual ≡ true → residual < 256
  unfolding residual_in_range
  residual-small code residual = go (eq_z code (pos 0))
    where
      go : (zero : Bool) → cond zero (eqb residual 0) (ltb residual f) ≡ true → residual < 256
      go true e = omega (arith, eqb-true residual 0 e)
      go false e = omega (arith, ltb-true residual f e)

  code-bytes : (v : VectorCode) → LegalCode f v → Bytes (vector_code_bytes v.code v.residual)
  unfolding vector_code_bytes
  code-bytes v legal = more (complement-below 128 v.code (code_fits v.code legal.code).sfits) (more (residual-small v.code v.residual legal.residual) none)

  codes-bytes : (codes : VectorCodes) → LegalCodes f codes → Bytes (vector_codes_bytes codes)
  unfolding vector_codes_bytes
  codes-bytes codes legal = both_bytes (code-bytes codes.horizontal legal.horizontal) (code-bytes codes.vertical legal.vertical)

pattern-bytes : (type pattern : ℕ) → coded_pattern type (λ known. eqb pattern known) (legal_pattern pattern) ≡ true → Bytes (pattern_bytes type pattern)
unfolding pattern_bytes
pattern-bytes type pattern = go (is_intra type) (has_pattern type)
  where
    go : (intra given : Bool) → cond intra (eqb pattern 63) (cond given (legal_pattern pattern) (eqb pattern 0)) ≡ true → Bytes (cond {A = List ℕ} intra [] (cond {A = List ℕ} given (pattern ∷ []) []))
    go true given e = none
    go false true e = let small : pattern < 256 = omega (arith, leb-true pattern 63 (both (leb 1 pattern) (leb pattern 63) e).1) in more small none
    go false false e = none

-- ---- blocks
pairs-bytes : (next : ℕ) (pairs : List Pair) → LegalPairs next pairs → Bytes (pairs_bytes pairs)
unfolding joined pair_bytes
pairs-bytes next [] legal = none
pairs-bytes next (pair ∷ pairs) legal =
    let near : pair.run < 256 = omega (arith, leb-true (next + pair.run) 63 legal.0.position) in
    more near (both_bytes (word_bytes _) (pairs-bytes (after_pair next pair) pairs legal.1))

count_small : (intra : Bool) (count : ℕ) → legal_count intra count ≡ true → count < 256
unfolding legal_count
count_small true count e = omega (arith, leb-true count 63 e)
count_small false count e = omega (arith, leb-true count 64 (both (leb 1 count) (leb count 64) e).1)

difference-bytes : (intra : Bool) (difference : ℤ) → Bytes (difference_bytes intra difference)
difference-bytes true difference = word_bytes _
difference-bytes false difference = none

block-bytes : (intra : Bool) (past : ℤ) (b : Block) → LegalBlock intra past b → Bytes (block_bytes intra b)
unfolding block_bytes levels_bytes
block-bytes intra past uncoded legal = none
block-bytes intra past (coded difference pairs) legal =
    both_bytes (difference-bytes intra difference) (more (count_small intra (length pairs) legal.count) (pairs-bytes (first_position intra) pairs legal.pairs))

blocks-bytes : (intra : Bool) (pasts : DcPasts) (block : ℕ) (blocks : List Block) → LegalBlocks intra pasts block blocks → Bytes (blocks_bytes intra blocks)
unfolding joined
blocks-bytes intra pasts block [] legal = none
blocks-bytes intra pasts block (b ∷ blocks) legal = both_bytes (block-bytes intra _ b legal.0) (blocks-bytes intra (dc_pasts_after intra pasts block b) (block + 1) blocks legal.1)

-- ---- the whole
pub macroblock-bytes : (c : MacroblockContext) (m : Macroblock) → c.forward_f ≤ 256 → c.backward_f ≤ 256 → LegalMacroblock c m → AllFit w8 (macroblock_body m)
unfolding macroblock_body head_bytes
macroblock-bytes c m forward backward legal = all_fit (both_bytes (more (type-small c.head.coding_type s.macroblock_type l.type) (both_bytes (word_bytes s.increment) scale)) (both_bytes (both_bytes first second) (both_bytes (pattern-bytes s.macroblock_type s.pattern l.pattern) (blocks-bytes (is_intra s.macroblock_type) _ 0 m.blocks legal.blocks))))
  where
    s : MacroblockSymbols
    s = m.symbols

    l : LegalSymbols c s
    l = legal.symbols

    scale : Bytes (cond (has_scale s.macroblock_type) (s.scale ∷ []) [])
    scale = given-bytes (has_scale s.macroblock_type) 0 s.scale (s.scale ∷ []) (λ e. more (scale_small s.scale e) none) l.scale

    first : Bytes (given_vector_codes_bytes (has_forward s.macroblock_type) s.forward)
    first = given-bytes (has_forward s.macroblock_type) no_codes s.forward _ (codes-bytes c.forward_f forward s.forward) l.forward

    second : Bytes (given_vector_codes_bytes (has_backward s.macroblock_type) s.backward)
    second = given-bytes (has_backward s.macroblock_type) no_codes s.backward _ (codes-bytes c.backward_f backward s.backward) l.backward

pub slice-bytes : (s : SliceHeader) → LegalSlice s → AllFit w8 (slice_body s.scale s.start)
unfolding slice_body
slice-bytes s legal = all_fit (more (scale_small s.scale legal.scale) (word_bytes s.start))
