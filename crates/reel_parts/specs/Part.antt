-- A reel (a sequence of coded pictures), split into its files (document 01, "The program `panel` reads a reel").
use Rattle.std.specs.Prelude.{Bool, cond, List, [], ◌∷◌, ℕ, zero, suc, ◌+◌, ◌*◌, ltb, leb, length, get_or, take, drop, Option, Some, None}
use Rattle.symbols.specs.Guard.{require◌else◌then◌}
use Rattle.reel_parts.specs.declared.part.Part.{Part}

-- "A whole reel above 16,384 bytes prints only `long`"
abbrev pub is_long : ℕ → Bool
is_long bytes = ltb 16384 bytes

-- the 4-byte length at an offset, big-endian
abbrev pub file_length_at : List ℕ → ℕ → ℕ
file_length_at reel at = ((get_or reel at 0 * 256 + get_or reel (at + 1) 0) * 256 + get_or reel (at + 2) 0) * 256 + get_or reel (at + 3) 0

-- "per picture a 4-byte length and a file"; "A cut length or file"
unfoldable pub part_at : List ℕ → ℕ → Option Part
part_at reel at =
    require leb (at + 4) (length reel) else None then
    require leb (at + 4 + file_length_at reel at) (length reel) else None then
    Some (record { start = at + 4; length = file_length_at reel at })

-- a file of a reel, or the offset of the length field where the reel is cut
pub data ReelPart : Type 0 where
  file : List ℕ → ReelPart
  cut : ℕ → ReelPart

-- the parts from an offset on; n bounds how many there are
unfoldable pub parts_from : ℕ → List ℕ → ℕ → List ReelPart
parts_from zero reel at = []
parts_from (suc n) reel at = cond (leb (length reel) at) [] (go (part_at reel at) (parts_from n reel))
  where
    go : Option Part → (ℕ → List ReelPart) → List ReelPart
    go (Some part) after = file (take part.length (drop part.start reel)) ∷ after (part.start + part.length)
    go None after = cut at ∷ []

-- "per picture a 4-byte length and a file. .. A cut length or file .. ends it"
abbrev pub parts_of : List ℕ → List ReelPart
parts_of reel = parts_from (length reel) reel 0
