-- Reads a slice, from its start code to its end.
use Rattle.std.specs.Prelude.{cond, List, [], ◌∷◌, ℕ, zero, suc, ◌+◌, ◌-◌, ◌*◌, eqb, length}
use Rattle.refusals.specs.declared.Refusal.TheVariants.{SliceCut}
use Rattle.symbols.specs.Parsed.{◌then◌, give}
use Rattle.symbols.specs.declared.header.Header.{Header}
use Rattle.symbols.specs.Macroblock.{Macroblock}
use Rattle.symbols.specs.Slice.{Slice}
use Rattle.mpeg1_bits.specs.Bits.{all_zeros, bits_from}
use Rattle.mpeg1_bits.specs.declared.BitPosition.{BitPosition}
use Rattle.mpeg1_vlc.specs.SliceStart.{slice_start_of}
use Rattle.mpeg1_slice.specs.Read.{Read, Reader, refuse_here, read_code, field_at}
use Rattle.mpeg1_slice.specs.Increment.{increment_at}
use Rattle.mpeg1_slice.specs.Macroblock.{macroblock_at}

-- "The start code 00 00 01 rr is one code"; its value is the row
abbrev pub slice_start_at : ℕ → List ℕ → Reader ℕ
slice_start_at height bytes at = read_code (slice_start_of height (bits_from bytes at)) at

-- "extra information dropped": a 1 and eight bits, repeated, then a 0. n bounds the recursion: with n above the bits left it never reaches zero
unfoldable pub after_extra : ℕ → List ℕ → Reader (Unit {0})
after_extra zero bytes = refuse_here SliceCut
after_extra (suc n) bytes =
    field_at 1 bytes then λ more.
    cond (eqb more 0) (give tt)
    (field_at 8 bytes then λ information.
    after_extra n bytes)

-- the same, with a bound that is always enough
abbrev pub extra_at : List ℕ → Reader (Unit {0})
extra_at bytes at = after_extra (1 + length (bits_from bytes at)) bytes at

-- "The start code ..; quantizer scale 5 bits; extra information dropped"
pub record SliceHead : Type 0 where
  pub row : ℕ
  pub scale : ℕ

unfoldable pub slice_head_at : ℕ → List ℕ → Reader SliceHead
slice_head_at height bytes =
    slice_start_at height bytes then λ row.
    field_at 5 bytes then λ scale.
    extra_at bytes then λ dropped.
    give (record { row = row; scale = scale })

-- an increment and its macroblock
unfoldable pub next_macroblock_at : Header → List ℕ → Reader Macroblock
next_macroblock_at h bytes =
    increment_at bytes then λ increment.
    macroblock_at h increment bytes

-- "It ends after a macroblock where only zero bits are left, or none": the macroblocks up to there. n bounds the recursion: each macroblock
-- takes a bit, so with n above the bits left it never reaches zero
unfoldable pub macroblocks_from : ℕ → Header → List ℕ → Reader (List Macroblock)
macroblocks_from zero h bytes at = give [] at
macroblocks_from (suc n) h bytes at =
    cond (all_zeros (bits_from bytes at)) (give [])
    (next_macroblock_at h bytes then λ first.
    macroblocks_from n h bytes then λ rest.
    give (first ∷ rest))
    at

-- the same, with a bound that is always enough
abbrev pub macroblocks_at : Header → List ℕ → Reader (List Macroblock)
macroblocks_at h bytes at = macroblocks_from (1 + length (bits_from bytes at)) h bytes at

-- "The first increment goes into the start address, (row - 1) × width + increment - 1"
unfoldable pub start_address : Header → ℕ → ℕ → ℕ
start_address h row increment = (row - 1) * h.size.width + increment - 1

-- "then macroblocks"; the first one's "record carries 1" as its increment
unfoldable pub after_head_at : Header → ℕ → ℕ → List ℕ → Reader Slice
after_head_at h row scale bytes =
    increment_at bytes then λ increment.
    macroblock_at h 1 bytes then λ first.
    macroblocks_at h bytes then λ rest.
    give (record { scale = scale; start = start_address h row increment; macroblocks = first ∷ rest })

abbrev pub first_bit : BitPosition
first_bit = record { byte = 0; bit = 0 }

-- the whole slice, read from the first bit
unfoldable pub raw_slice_of : Header → List ℕ → Read Slice
raw_slice_of h bytes =
    (slice_head_at h.size.height bytes then λ head.
    after_head_at h head.row head.scale bytes)
    first_bit
