-- The items of a reel: its pictures in order, and where it is cut (document 01, "The program `panel` reads a reel").
use Rattle.std.specs.Prelude.{cond, List, [], ◌∷◌, ℕ, ◌+◌, ◌*◌, eqb, leb, replicate, Result, Ok, Err}
use Rattle.refusals.specs.Refusal.{accepted}
use Rattle.symbols.specs.Header.{type_b}
use Rattle.symbols.specs.Size.{macroblock_count, picture_bytes}
use Rattle.decode_idct.specs.Transform.{inverse_transform}
use Rattle.format3_header.specs.FileStart.{first_header}
use Rattle.format3_header.specs.declared.file_start.FileStart.{FileStart}
use Rattle.format3_header.specs.declared.file_start.RefusedAt.{RefusedAt}
use Rattle.format3_picture.specs.Picture.{Picture, answer_of, picture_of}
use Rattle.reel_parts.specs.Part.{ReelPart, parts_of}
use Rattle.reel_parts.specs.Part as Part
use Rattle.reel_parts.specs.References.{forward_for, backward_for}
use Rattle.reel_player.specs.declared.play.Played.{Played}

-- a picture with its bytes (none if it is refused), or the offset where the reel is cut
pub data Item : Type 0 where
  picture : Played → List ℕ → Item
  cut : ℕ → Item

-- the reference pictures carried from picture to picture: the last two accepted I or P, empty if there is none
pub record Carried : Type 0 where
  pub older : List ℕ
  pub newer : List ℕ

-- the picture that a file gives, with these references, when it is written into this output
unfoldable pub picture_into : Result FileStart RefusedAt → List ℕ → Carried → List ℕ → Picture
picture_into start file carried output =
    picture_of inverse_transform file (forward_for start carried.older carried.newer) (backward_for start carried.newer) output

-- "Above 40 macroblocks the output is lent empty"
abbrev pub max_lent_macroblocks : ℕ
max_lent_macroblocks = 40

-- the bytes of a picture of that size
abbrev pub max_lent_bytes : ℕ
max_lent_bytes = 384 * max_lent_macroblocks

abbrev pub lent_bytes : Result FileStart RefusedAt → ℕ
lent_bytes (Ok start) = cond (leb (macroblock_count start.header.size) max_lent_macroblocks) (picture_bytes start.header.size) 0
lent_bytes (Err refused) = 0

-- the picture that a file gives. Neither its answer nor its accepted bytes depend on what the output held (`picture-alone`), so zeros will do
abbrev pub picture_from : List ℕ → Carried → Picture
picture_from file carried = let start = first_header file in picture_into start file carried (replicate (lent_bytes start) 0)

-- the bytes of an accepted picture; none if it is refused
abbrev pub bytes_of : Picture → List ℕ
bytes_of made = cond (eqb made.number accepted) made.output []

-- "the last accepted I or P": the references after an accepted picture
abbrev pub carried_from : Result FileStart RefusedAt → List ℕ → Carried → Carried
carried_from (Ok start) latest carried = cond (eqb start.header.coding_type type_b) carried (record { older = carried.newer; newer = latest })
carried_from (Err refused) latest carried = carried

-- the references after any picture: a refused one leaves them as they are
abbrev pub carried_after : Result FileStart RefusedAt → Picture → Carried → Carried
carried_after start made carried = cond (eqb made.number accepted) (carried_from start made.output carried) carried

-- the items of these parts of a reel, counting pictures from this number
unfoldable pub items_from : ℕ → Carried → List ReelPart → List Item
items_from number carried [] = []
items_from number carried (Part.cut at ∷ parts) = cut at ∷ []
items_from number carried (Part.file picture_bytes ∷ parts) =
    let start = first_header picture_bytes in
    let made = picture_from picture_bytes carried in
    picture (record { number = number; start = start; answer = answer_of made }) (bytes_of made) ∷ items_from (number + 1) (carried_after start made carried) parts

-- "picture number from 1"; the first picture has no references
abbrev pub items_of : List ℕ → List Item
items_of reel = items_from 1 (record { older = []; newer = [] }) (parts_of reel)
