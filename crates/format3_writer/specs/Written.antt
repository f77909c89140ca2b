-- Writing bytes into a buffer that may be too short for them.
use Rattle.std.specs.Prelude.{List, [], ◌∷◌, ℕ, ◌+◌, ◌^◌, min, set}

-- `written at bytes buffer` is the buffer with these bytes written from offset `at` on. Bytes past its end are dropped (`set` ignores an index
-- out of range), and its length stays
unfoldable pub written : ℕ → List ℕ → List ℕ → List ℕ
written at [] buffer = buffer
written at (byte ∷ bytes) buffer = written (at + 1) bytes (set buffer at byte)

-- an offset past the end of every buffer: a buffer has fewer than 2 ^ 63 bytes
abbrev pub max_offset : ℕ
max_offset = 2 ^ 63

-- the offset n bytes on, at most `max_offset`; nothing can be written from there on (`written-at-max-offset`)
unfoldable pub saturating_add : ℕ → ℕ → ℕ
saturating_add at bytes = min (at + bytes) max_offset
