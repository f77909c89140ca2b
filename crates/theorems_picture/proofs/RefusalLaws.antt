-- Reading a record causes only the refusals 3 to 6 and 9 to 17, whatever its bytes. Assumes nothing.
use mathlib.Core.Bool.{Bool, true, false, cond}
use mathlib.Core.List.{List, [], ◌∷◌}
use Prim.Native.Nat.{ℕ, zero, suc, ◌+◌}
use lib.Dec.{T}
use lib.IntN.{ℤ, pos}
use Rattle.std.specs.Prelude.{Result, Ok, Err, ⊤}
use Rattle.refusals.specs.declared.Refusal.{Refusal}
use Rattle.refusals.specs.declared.Refusal.TheVariants as R
use Rattle.refusals.proofs.Laws.{of_reading}
use Rattle.symbols.specs.Parsed.{give, optional◌default◌read◌}
use Rattle.symbols.specs.MacroblockType.{has_scale, has_forward, has_backward, has_pattern, is_intra}
use Rattle.symbols.specs.Pair.{first_position, after_pair}
use Rattle.symbols.specs.Pattern.{is_coded}
use Rattle.symbols.proofs.Guard.{require-all}
use Rattle.symbols.proofs.Refusals.{OfReading, legal, refused-by, of-then, of-need, of-given}
use Rattle.decode_coefficients.specs.Dc.{dc_past_of, dc_pasts_after, starting_dc_pasts}
use Rattle.decode_coefficients.specs.declared.dc.DcPasts.{DcPasts}
use Rattle.format3_records.specs.Field.{byte, two_bytes, signed_byte, signed_two_bytes}
use Rattle.format3_records.specs.Record.{record_of}
use Rattle.format3_records.specs.declared.record.Record.{Record}
use Rattle.format3_matrices.specs.Matrix.{matrix_verdict}
use Rattle.format3_matrices.specs.declared.Loaded.{Loaded}
use Rattle.format3_macroblock.specs.Pairs.{pair_of, pairs_of}
use Rattle.format3_macroblock.specs.Blocks.{difference_of, count_of, levels_of, block_of, blocks_of}
use Rattle.format3_macroblock.specs.Slice.{scale_of, slice_fields_of, slice_of}
use Rattle.format3_macroblock.specs.MacroblockHead.{head_of}
use Rattle.format3_macroblock.specs.VectorCodes.{vector_code_of, vector_codes_of}
use Rattle.format3_macroblock.specs.declared.macroblock_head.HeadContext.{HeadContext}
use Rattle.format3_macroblock.specs.Vectors.{vectors_of}
use Rattle.format3_macroblock.specs.Macroblock.{pattern_of, coded_pattern_of, macroblock_symbols_of, at_end, blocks_to_end_of, macroblock_of}
use Rattle.format3_macroblock.specs.declared.macroblock.MacroblockContext.{MacroblockContext}

-- ---- fields
of-byte : (bytes : List ℕ) → OfReading (byte bytes)
unfolding byte
of-byte [] = refused-by tt
of-byte (b ∷ rest) = legal

of_word : (bytes : List ℕ) → OfReading (two_bytes bytes)
unfolding two_bytes
of_word [] = refused-by tt
of_word (a ∷ []) = refused-by tt
of_word (a ∷ b ∷ rest) = legal

of-signed-byte : (bytes : List ℕ) → OfReading (signed_byte bytes)
unfolding signed_byte
of-signed-byte bytes = of-then (of-byte bytes) λ n rest. legal

of-signed-word : (bytes : List ℕ) → OfReading (signed_two_bytes bytes)
unfolding signed_two_bytes
of-signed-word bytes = of-then (of_word bytes) λ n rest. legal

-- ---- a slice
of-scale : (bytes : List ℕ) → OfReading (scale_of bytes)
unfolding scale_of
of-scale bytes =
    of-then (of-byte bytes) λ scale rest.
    of-need _ R.QuantizerScale _ rest tt
    legal

pub of-slice : (body : List ℕ) → OfReading (slice_of body)
unfolding slice_of slice_fields_of
of-slice body =
    require-all OfReading _ _ _ (refused-by tt) λ long.
    of-then (of-scale body) λ scale rest.
    of-then (of_word rest) λ start end.
    legal

-- ---- a macroblock's symbols before its blocks
of-head : (c : HeadContext) (bytes : List ℕ) → OfReading (head_of c bytes)
unfolding head_of
of-head c bytes =
    of-then (of-byte bytes) λ type rest.
    of-need _ R.MacroblockType _ rest tt
    (of-then (of_word rest) λ increment left.
    of-need _ R.AddressIncrement _ left tt
    (of-then (of-given (has_scale type) 0 scale_of left (of-scale left)) λ scale end.
    legal))

of_code : (f : ℕ) (bytes : List ℕ) → OfReading (vector_code_of f bytes)
unfolding vector_code_of
of_code f bytes =
    of-then (of-signed-byte bytes) λ code rest.
    of-need _ R.VectorCode _ rest tt
    (of-then (of-byte rest) λ residual end.
    of-need _ R.VectorCode _ end tt
    legal)

of-codes : (f : ℕ) (bytes : List ℕ) → OfReading (vector_codes_of f bytes)
unfolding vector_codes_of
of-codes f bytes =
    of-then (of_code f bytes) λ horizontal rest.
    of-then (of_code f rest) λ vertical end.
    legal

of-vectors : (type f b : ℕ) (bytes : List ℕ) → OfReading (vectors_of type f b bytes)
unfolding vectors_of
of-vectors type f b bytes =
    of-then (of-given (has_forward type) _ (vector_codes_of f) bytes (of-codes f bytes)) λ forward rest.
    of-then (of-given (has_backward type) _ (vector_codes_of b) rest (of-codes b rest)) λ backward end.
    legal

of-pattern : (bytes : List ℕ) → OfReading (pattern_of bytes)
unfolding pattern_of
of-pattern bytes =
    of-then (of-byte bytes) λ pattern rest.
    of-need _ R.Pattern _ rest tt
    legal

of-coded-pattern : (type : ℕ) (bytes : List ℕ) → OfReading (coded_pattern_of type bytes)
of-coded-pattern type bytes = go (is_intra type)
  where
    go : (intra : Bool) → OfReading (cond intra (give 63) (optional has_pattern type default 0 read pattern_of) bytes)
    go true = legal
    go false = of-given (has_pattern type) 0 pattern_of bytes (of-pattern bytes)

of-symbols : (c : MacroblockContext) (bytes : List ℕ) → OfReading (macroblock_symbols_of c bytes)
unfolding macroblock_symbols_of
of-symbols c bytes =
    of-then (of-head c.head bytes) λ head rest.
    of-then (of-vectors head.macroblock_type c.forward_f c.backward_f rest) λ vectors left.
    of-then (of-coded-pattern head.macroblock_type left) λ pattern end.
    legal

-- ---- its blocks
of_pair : (next : ℕ) (bytes : List ℕ) → OfReading (pair_of next bytes)
unfolding pair_of
of_pair next bytes =
    of-then (of-byte bytes) λ run rest.
    of-need _ R.Coefficient _ rest tt
    (of-then (of-signed-word rest) λ level end.
    of-need _ R.Coefficient _ end tt
    legal)

of-pairs : (n next : ℕ) (bytes : List ℕ) → OfReading (pairs_of n next bytes)
unfolding pairs_of
of-pairs zero next bytes = legal
of-pairs (suc n) next bytes =
    of-then (of_pair next bytes) λ pair rest.
    of-then (of-pairs n (after_pair next pair) rest) λ pairs end.
    legal

of-levels : (intra : Bool) (bytes : List ℕ) → OfReading (levels_of intra bytes)
unfolding levels_of count_of
of-levels intra bytes =
    of-then (of-then (of-byte bytes) λ count rest. of-need _ R.Coefficient _ rest tt legal) λ count rest.
    of-pairs count (first_position intra) rest

of-difference : (past : ℤ) (bytes : List ℕ) → OfReading (difference_of past bytes)
unfolding difference_of
of-difference past bytes =
    of-then (of-signed-word bytes) λ difference rest.
    of-need _ R.DcCoefficient _ rest tt
    (of-need _ R.DcCoefficient _ rest tt
    legal)

of-block : (intra : Bool) (past : ℤ) (bytes : List ℕ) → OfReading (block_of intra past bytes)
unfolding block_of
of-block intra past bytes =
    of-then (of-given intra (pos 0) (difference_of past) bytes (of-difference past bytes)) λ difference rest.
    of-then (of-levels intra rest) λ pairs end.
    legal

of_blocks : (intra : Bool) (pattern n : ℕ) (pasts : DcPasts) (block : ℕ) (bytes : List ℕ) → OfReading (blocks_of intra pattern n pasts block bytes)
unfolding blocks_of
of_blocks intra pattern zero pasts block bytes = legal
of_blocks intra pattern (suc n) pasts block bytes =
    of-then (of-given (is_coded pattern block) _ (block_of intra (dc_past_of pasts block)) bytes (of-block intra (dc_past_of pasts block) bytes)) λ b rest.
    of-then (of_blocks intra pattern n (dc_pasts_after intra pasts block b) (block + 1) rest) λ blocks end.
    legal

of_end : {A : Type 0} (a : A) (bytes : List ℕ) → OfReading (at_end a bytes)
of_end a [] = legal
of_end a (b ∷ rest) = refused-by tt

pub of-macroblock : (c : MacroblockContext) (body : List ℕ) → OfReading (macroblock_of c body)
unfolding macroblock_of blocks_to_end_of
of-macroblock c body =
    of-then (of-symbols c body) λ m rest.
    of-then (of-then (of_blocks (is_intra m.macroblock_type) m.pattern 6 (starting_dc_pasts c.dc m.increment) 0 rest) of_end) λ blocks end.
    legal

-- ---- a matrix, and the record itself
abbrev pub VerdictOf : Result ⊤ Refusal → Type 0
VerdictOf (Ok passed) = T true
VerdictOf (Err refusal) = T (of_reading refusal)

pub of-matrix : (body : List ℕ) (loaded : Loaded) → VerdictOf (matrix_verdict body loaded)
unfolding matrix_verdict
of-matrix body loaded =
    require-all VerdictOf _ _ _ tt λ long.
    require-all VerdictOf _ _ _ tt λ which.
    require-all VerdictOf _ _ _ tt λ once.
    require-all VerdictOf _ _ _ tt λ weights.
    require-all VerdictOf _ _ _ tt λ first.
    tt

abbrev pub FoundOf : Result Record Refusal → Type 0
FoundOf (Ok found) = T true
FoundOf (Err refusal) = T (of_reading refusal)

pub of-found : (file : List ℕ) (at : ℕ) → FoundOf (record_of file at)
unfolding record_of
of-found file at =
    require-all FoundOf _ _ _ tt λ head.
    require-all FoundOf _ _ _ tt λ some.
    require-all FoundOf _ _ _ tt λ fits.
    require-all FoundOf _ _ _ tt λ kind.
    tt
