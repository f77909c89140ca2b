-- What a function returns, and leaves in the buffer, when it reads a part of a slice and writes the part's bytes.
use Rattle.std.specs.Prelude.{List, ◌++◌, ◌≡◌, ℕ, ◌+◌, ◌*◌, length, Result}
use Rattle.symbols.specs.Parsed.{All}
use Rattle.symbols.specs.declared.vector_codes.VectorCode.{VectorCode}
use Rattle.symbols.specs.declared.vector_codes.Vectors.{Vectors}
use Rattle.format3_writer.specs.Written.{written, max_offset}
use Rattle.format3_writer.specs.Records.{vector_code_bytes, vectors_bytes, pattern_and_blocks_bytes}
use Rattle.mpeg1_slice.specs.declared.refused.RefusedAt.{RefusedAt}
use Rattle.mpeg1_slice.specs.Read.{Read}
use Rattle.mpeg1_slice.specs.Answers.{answer_with}
use Rattle.mpeg1_slice.specs.Macroblock.{HeadFields, PatternAndBlocks, VectorsAndBlocks}
use Rattle.mpeg1_reader.specs.declared.write_answer.Written.{Written}
use Rattle.mpeg1_reader.specs.declared.head.MacroblockHead.{MacroblockHead}

-- the position after the part and how many bytes it takes, or the refusal and where it happened
abbrev pub write_answer : {A : Type 0} → (A → List ℕ) → Read A → Result Written RefusedAt
write_answer bytes = answer_with λ a p. record { at = p; size = length (bytes a) }

-- if the part is read, its bytes are in the buffer from `offset` on. If it is refused, this says nothing about the buffer
abbrev pub WrittenAt : {A : Type 0} → (A → List ℕ) → ℕ → List ℕ → List ℕ → Read A → Type 0
WrittenAt bytes offset before after = All (λ a p. after ≡ written offset (bytes a) before)

-- The largest offset that each part of a record can have, given that the record starts at `max_offset` or before.
-- 7 bytes come before the rest of the body: length, kind, type, increment, scale
abbrev pub max_vectors_offset : ℕ
max_vectors_offset = max_offset + 7

-- before the backward codes: also the forward ones, 4 bytes
abbrev pub max_backward_offset : ℕ
max_backward_offset = max_offset + 11

-- before the pattern: the codes of both directions
abbrev pub max_pattern_offset : ℕ
max_pattern_offset = max_offset + 15

-- before the blocks: also the pattern
abbrev pub max_blocks_offset : ℕ
max_blocks_offset = max_offset + 16

-- the most bytes of a block: difference, count, 64 pairs
abbrev pub max_block_bytes : ℕ
max_block_bytes = 2 + 1 + 3 * 64

-- before the last block: also five blocks
abbrev pub max_last_block_offset : ℕ
max_last_block_offset = max_offset + 16 + 5 * max_block_bytes

-- before its pairs: also its difference
abbrev pub max_pairs_offset : ℕ
max_pairs_offset = max_offset + 16 + 5 * max_block_bytes + 2

-- the bytes of each part, from the fields that were read
abbrev pub component_bytes : VectorCode → List ℕ
component_bytes component = vector_code_bytes component.code component.residual

abbrev pub vectors_field_bytes : ℕ → Vectors → List ℕ
vectors_field_bytes type vectors = vectors_bytes type vectors.forward vectors.backward

abbrev pub pattern_and_blocks_field_bytes : ℕ → PatternAndBlocks → List ℕ
pattern_and_blocks_field_bytes type pattern_and_blocks = pattern_and_blocks_bytes type pattern_and_blocks.pattern pattern_and_blocks.blocks

abbrev pub vectors_and_blocks_bytes : ℕ → VectorsAndBlocks → List ℕ
vectors_and_blocks_bytes type rest = vectors_field_bytes type rest.vectors ++ pattern_and_blocks_field_bytes type rest.pattern_and_blocks

abbrev pub macroblock_head_answer : Read HeadFields → Result MacroblockHead RefusedAt
macroblock_head_answer = answer_with λ head p. record { macroblock_type = head.macroblock_type; scale = head.scale; at = p }
