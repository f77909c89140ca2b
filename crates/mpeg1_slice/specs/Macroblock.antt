-- Reads a macroblock after its increment: "type by table B.2 of the picture's type; scale; motion codes ..; pattern; blocks".
use Rattle.std.specs.Prelude.{List, ℕ}
use Rattle.symbols.specs.Parsed.{◌then◌, give, optional◌default◌read◌}
use Rattle.symbols.specs.declared.header.Header.{Header}
use Rattle.symbols.specs.MacroblockType.{has_scale, has_forward, has_backward, is_intra}
use Rattle.symbols.specs.Pattern.{coded_pattern}
use Rattle.symbols.specs.Block.{Block}
use Rattle.symbols.specs.declared.vector_codes.Vectors.{Vectors}
use Rattle.symbols.specs.Macroblock.{Macroblock, symbols_with}
use Rattle.mpeg1_tables.specs.AnnexB.{types_of, patterns}
use Rattle.mpeg1_slice.specs.Read.{Reader, word_at, field_at}
use Rattle.mpeg1_slice.specs.Vectors.{given_vector_codes_at}
use Rattle.mpeg1_slice.specs.Blocks.{blocks_from}

-- quantizer_scale, 5 bits, if the type has it. "Values that the tables can carry and Format 3 refuses are written as read (scale 0, ..)"
unfoldable pub scale_at : ℕ → List ℕ → Reader ℕ
scale_at type bytes = optional has_scale type default 0 read field_at 5 bytes

-- a macroblock's type, "by table B.2 of the picture's type", and its scale
pub record HeadFields : Type 0 where
  pub macroblock_type : ℕ
  pub scale : ℕ

unfoldable pub head_at : ℕ → List ℕ → Reader HeadFields
head_at coding_type bytes =
    word_at (types_of coding_type) bytes then λ type.
    scale_at type bytes then λ scale.
    give (record { macroblock_type = type; scale = scale })

-- its motion codes: forward, then backward
unfoldable pub vectors_at : ℕ → ℕ → ℕ → List ℕ → Reader Vectors
vectors_at type forward_code backward_code bytes =
    given_vector_codes_at (has_forward type) forward_code bytes then λ forward.
    given_vector_codes_at (has_backward type) backward_code bytes then λ backward.
    give (record { forward = forward; backward = backward })

-- the pattern, and all six blocks
pub record PatternAndBlocks : Type 0 where
  pub pattern : ℕ
  pub blocks : List Block

unfoldable pub pattern_at : ℕ → List ℕ → Reader ℕ
pattern_at type bytes = coded_pattern type give (word_at patterns bytes)

unfoldable pub pattern_and_blocks_at : ℕ → List ℕ → Reader PatternAndBlocks
pattern_and_blocks_at type bytes =
    pattern_at type bytes then λ pattern.
    blocks_from (is_intra type) pattern 6 0 bytes then λ blocks.
    give (record { pattern = pattern; blocks = blocks })

-- what follows the head: vectors, pattern and blocks
pub record VectorsAndBlocks : Type 0 where
  pub vectors : Vectors
  pub pattern_and_blocks : PatternAndBlocks

unfoldable pub vectors_and_blocks_at : ℕ → ℕ → ℕ → List ℕ → Reader VectorsAndBlocks
vectors_and_blocks_at type forward_code backward_code bytes =
    vectors_at type forward_code backward_code bytes then λ vectors.
    pattern_and_blocks_at type bytes then λ pattern_and_blocks.
    give (record { vectors = vectors; pattern_and_blocks = pattern_and_blocks })

abbrev pub macroblock_of_fields : ℕ → HeadFields → VectorsAndBlocks → Macroblock
macroblock_of_fields increment head rest = record {
  symbols = symbols_with (record { macroblock_type = head.macroblock_type; increment = increment; scale = head.scale }) rest.vectors rest.pattern_and_blocks.pattern;
  blocks = rest.pattern_and_blocks.blocks;
}

unfoldable pub macroblock_at : Header → ℕ → List ℕ → Reader Macroblock
macroblock_at h increment bytes =
    head_at h.coding_type bytes then λ head.
    vectors_and_blocks_at head.macroblock_type h.forward.f_code h.backward.f_code bytes then λ rest.
    give (macroblock_of_fields increment head rest)
