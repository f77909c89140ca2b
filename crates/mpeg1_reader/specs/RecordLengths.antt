-- How many bytes the records of a slice take, for a caller who lends a buffer.
use Rattle.std.specs.Prelude.{ℕ}

-- "Kind 3, slice, 3 bytes", after a length of 2 bytes and the kind
abbrev pub slice_record_bytes : ℕ
slice_record_bytes = 6

-- the most bytes of a macroblock's record that is read from a slice: length and kind 3, type and increment 3, scale 1, the codes of both
-- directions 8, pattern 1, and six blocks of a count and 64 pairs, 193 each. An intra block has a difference too, but at most 63 pairs
abbrev pub max_macroblock_record_bytes : ℕ
max_macroblock_record_bytes = 1174
