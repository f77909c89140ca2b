-- The records that document 01 prints in its sample reel, built from their fields. Assumes nothing.
use mathlib.Core.List.{[], ◌∷◌, ◌++◌}
use mathlib.Core.Path.{◌≡◌, refl}
use Prim.Native.Nat.{ℕ}
use lib.IntN.{pos}
use lib.ListN.{replicate}
use Rattle.math.specs.Joined.{joined}
use Rattle.symbols.specs.Block.{Block, uncoded, coded}
use Rattle.symbols.specs.VectorCodes.{no_codes}
use Rattle.symbols.specs.Macroblock.{Macroblock}
use Rattle.format3_writer.specs.Bytes.{complement, big_endian_bytes}
use Rattle.format3_writer.specs.Records.{record_head, record_bytes, slice_body, slice_record, levels_bytes, block_bytes, head_bytes, vector_code_bytes, vector_codes_bytes, pattern_bytes, macroblock_body, macroblock_record}

-- `0004 03 080000`
slice-printed : slice_record 8 0 ≡ 0 ∷ 4 ∷ 3 ∷ 8 ∷ 0 ∷ 0 ∷ []
unfolding record_bytes record_head slice_body big_endian_bytes
slice-printed = refl

-- a macroblock of this type at the next address, with scale 0 and vector codes 0, which the record leaves out unless the type has them
abbrev plain : ℕ → ℕ → Block → Macroblock
plain type pattern block =
    record { symbols = record { macroblock_type = type; increment = 1; scale = 0; forward = no_codes; backward = no_codes; pattern = pattern }; blocks = replicate 6 block }

abbrev pub printed_intra : Macroblock
printed_intra = plain 16 63 (coded (pos 0) [])

abbrev pub printed_forward : Macroblock
printed_forward = plain 2 0 uncoded

-- `0016 04 100001` and 18 bytes 00
intra-printed : macroblock_record printed_intra ≡ (0 ∷ 22 ∷ 4 ∷ 16 ∷ 0 ∷ 1 ∷ []) ++ replicate 18 0
unfolding record_bytes record_head macroblock_body head_bytes pattern_bytes block_bytes levels_bytes joined big_endian_bytes complement
intra-printed = refl

-- `0008 04 02000100000000`
forward-printed : macroblock_record printed_forward ≡ 0 ∷ 8 ∷ 4 ∷ 2 ∷ 0 ∷ 1 ∷ 0 ∷ 0 ∷ 0 ∷ 0 ∷ []
unfolding record_bytes record_head macroblock_body head_bytes pattern_bytes block_bytes vector_codes_bytes vector_code_bytes joined big_endian_bytes complement
forward-printed = refl
