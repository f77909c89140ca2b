-- The line printed for each item, in ASCII (document 01, "The program `panel` reads a reel").
use Rattle.std.specs.Prelude.{cond, List, [], ◌∷◌, ◌++◌, ℕ, ◌+◌, ◌*◌, eqb, Result, Ok, Err}
use Rattle.refusals.specs.declared.Refusal.{Refusal}
use Rattle.refusals.specs.Refusal.{number_in}
use Rattle.symbols.specs.Header.{type_i, type_p}
use Rattle.format3_header.specs.declared.file_start.FileStart.{FileStart}
use Rattle.format3_header.specs.declared.file_start.RefusedAt.{RefusedAt}
use Rattle.format3_picture.specs.declared.reader.Answer.{Answer}
use Rattle.reel_player.specs.Items.{Item, picture, cut}
use Rattle.text_writer.specs.Number.{space, line_end, field, field_bytes}
use Rattle.reel_report.specs.Planes.{sums_of}
use Rattle.reel_report.specs.declared.planes.Sums.{Sums}

-- "letter (`?` if there is no kind 1 header or it was refused by 8 or sooner)"; in ASCII, I is 73, P 80, B 66 and ? 63
abbrev pub letter_of : Result FileStart RefusedAt → ℕ
letter_of (Ok start) = cond (eqb start.header.coding_type type_i) 73 (cond (eqb start.header.coding_type type_p) 80 66)
letter_of (Err refused) = 63

-- "answer, place, made"
abbrev pub answer_text : Answer → List ℕ
answer_text answer = field (number_in answer.verdict) space ++ (field answer.place space ++ field answer.made space)

-- "sums of Y, Cb, Cr (`-` each if refused)", then a line feed
abbrev pub sums_text : Sums → List ℕ
sums_text sums = field sums.y space ++ (field sums.cb space ++ field sums.cr line_end)

abbrev pub dashes : List ℕ
dashes = 45 ∷ space ∷ 45 ∷ space ∷ 45 ∷ line_end ∷ []

abbrev pub planes_text : Answer → List ℕ → List ℕ
planes_text answer bytes = planes answer.verdict
  where
    planes : Result (Unit {0}) Refusal → List ℕ
    planes (Ok done) = sums_text (sums_of bytes)
    planes (Err refusal) = dashes

-- "A line: picture number from 1, letter .., answer, place, made, sums .."; "A cut length or file prints `cut` and the offset of that length"
unfoldable pub line_text : Item → List ℕ
line_text (picture played bytes) =
    field played.number space ++ ((letter_of played.start ∷ space ∷ []) ++ (answer_text played.answer ++ planes_text played.answer bytes))
line_text (cut at) = (99 ∷ 117 ∷ 116 ∷ space ∷ []) ++ field at line_end

-- "prints only `long`"
abbrev pub long_text : List ℕ
long_text = 108 ∷ 111 ∷ 110 ∷ 103 ∷ line_end ∷ []

-- the most bytes of three fields; of a picture's line, which has a field, a letter and a space, and twice three fields; and of a line with `cut`
abbrev pub three_fields_bytes : ℕ
three_fields_bytes = 3 * field_bytes

abbrev pub line_bytes : ℕ
line_bytes = field_bytes + 2 + 2 * three_fields_bytes

abbrev pub cut_bytes : ℕ
cut_bytes = 4 + field_bytes
