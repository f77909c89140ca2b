-- The bytes of a slice's and a macroblock's records, from their symbols (document 01, "The Format 3 file").
use Rattle.std.specs.Prelude.{Bool, cond, List, [], ◌∷◌, ◌++◌, ℕ, ◌+◌, ℤ, length}
use Rattle.math.specs.Joined.{joined}
use Rattle.symbols.specs.MacroblockType.{has_scale, has_forward, has_backward, is_intra}
use Rattle.symbols.specs.Pattern.{coded_pattern}
use Rattle.symbols.specs.declared.vector_codes.VectorCodes.{VectorCodes}
use Rattle.symbols.specs.declared.pair.Pair.{Pair}
use Rattle.symbols.specs.Block.{Block, uncoded, coded}
use Rattle.symbols.specs.Macroblock.{Macroblock}
use Rattle.symbols.specs.Slice.{Slice}
use Rattle.format3_records.specs.Record.{slice_kind, macroblock_kind}
use Rattle.format3_writer.specs.Bytes.{complement_byte, big_endian_bytes, signed_big_endian_bytes}

-- "Each is a 2-byte length (of what comes after it), a kind byte and a body"
unfoldable pub record_head : ℕ → ℕ → List ℕ
record_head size kind = big_endian_bytes size ++ kind ∷ []

unfoldable pub record_bytes : ℕ → List ℕ → List ℕ
record_bytes kind body = record_head (1 + length body) kind ++ body

-- "Kind 3, slice, 3 bytes: quantizer scale 1..31, 2-byte start address"
unfoldable pub slice_body : ℕ → ℕ → List ℕ
slice_body scale start = scale ∷ big_endian_bytes start

abbrev pub slice_record : ℕ → ℕ → List ℕ
slice_record scale start = record_bytes slice_kind (slice_body scale start)

-- "the pairs, each a run byte and a 2-byte level"
unfoldable pub pair_bytes : ℕ → ℤ → List ℕ
pair_bytes run level = run ∷ signed_big_endian_bytes level

abbrev pub pairs_bytes : List Pair → List ℕ
pairs_bytes pairs = joined (λ pair. pair_bytes pair.run pair.level) pairs

-- "a count of pairs ..; the pairs"
unfoldable pub levels_bytes : List Pair → List ℕ
levels_bytes pairs = length pairs ∷ pairs_bytes pairs

-- "A block is: intra only, a 2-byte DC difference; a count of pairs ..; the pairs". An uncoded block has no bytes
abbrev pub difference_bytes : Bool → ℤ → List ℕ
difference_bytes intra difference = cond intra (signed_big_endian_bytes difference) []

unfoldable pub block_bytes : Bool → Block → List ℕ
block_bytes intra uncoded = []
block_bytes intra (coded difference pairs) = difference_bytes intra difference ++ levels_bytes pairs

-- the blocks in order
abbrev pub blocks_bytes : Bool → List Block → List ℕ
blocks_bytes intra blocks = joined (block_bytes intra) blocks

-- "type byte, 2-byte address increment, then as the type says: scale"
unfoldable pub head_bytes : ℕ → ℕ → ℕ → List ℕ
head_bytes type increment scale = type ∷ big_endian_bytes increment ++ cond (has_scale type) (scale ∷ []) []

-- "horizontal code, residual, vertical code, residual, a byte each"
unfoldable pub vector_code_bytes : ℤ → ℕ → List ℕ
vector_code_bytes code residual = complement_byte code ∷ residual ∷ []

unfoldable pub vector_codes_bytes : VectorCodes → List ℕ
vector_codes_bytes codes =
    vector_code_bytes codes.horizontal.code codes.horizontal.residual ++ vector_code_bytes codes.vertical.code codes.vertical.residual

-- the codes of one direction, if the type has them
abbrev pub given_vector_codes_bytes : Bool → VectorCodes → List ℕ
given_vector_codes_bytes given codes = cond given (vector_codes_bytes codes) []

-- "forward codes ..; backward codes"
abbrev pub vectors_bytes : ℕ → VectorCodes → VectorCodes → List ℕ
vectors_bytes type forward backward = given_vector_codes_bytes (has_forward type) forward ++ given_vector_codes_bytes (has_backward type) backward

-- "pattern byte; blocks". An intra macroblock has no pattern byte, nor does one whose type has no pattern
unfoldable pub pattern_bytes : ℕ → ℕ → List ℕ
pattern_bytes type pattern = coded_pattern type (λ known. []) (pattern ∷ [])

abbrev pub pattern_and_blocks_bytes : ℕ → ℕ → List Block → List ℕ
pattern_and_blocks_bytes type pattern blocks = pattern_bytes type pattern ++ blocks_bytes (is_intra type) blocks

-- a field that the type lacks has no bytes
unfoldable pub macroblock_body : Macroblock → List ℕ
macroblock_body m =
    head_bytes m.symbols.macroblock_type m.symbols.increment m.symbols.scale
    ++ (vectors_bytes m.symbols.macroblock_type m.symbols.forward m.symbols.backward ++ pattern_and_blocks_bytes m.symbols.macroblock_type m.symbols.pattern m.blocks)

abbrev pub macroblock_record : Macroblock → List ℕ
macroblock_record m = record_bytes macroblock_kind (macroblock_body m)

-- a slice's record, then those of its macroblocks
unfoldable pub slice_records : ℕ → ℕ → List Macroblock → List ℕ
slice_records scale start macroblocks = slice_record scale start ++ joined macroblock_record macroblocks

-- the records of a slice, from its symbols
abbrev pub slice_bytes : Slice → List ℕ
slice_bytes symbols = slice_records symbols.scale symbols.start symbols.macroblocks
