-- The answer and the picture for a file and its references (document 01, "Refusals by who can cause them").
use Rattle.std.specs.Prelude.{Bool, true, false, cond, List, ℕ, zero, suc, leb, ℤ, length, Result, Ok, Err, ⊤}
use Rattle.refusals.specs.Refusal.{number_in}
use Rattle.refusals.specs.declared.Refusal.{Refusal}
use Rattle.refusals.specs.declared.Refusal.TheVariants.{FileEnds, BackwardVectorOutside}
use Rattle.symbols.specs.Size.{max_macroblocks}
use Rattle.symbols.specs.declared.header.Header.{Header}
use Rattle.decode_coefficients.specs.Matrices.{default_matrices}
use Rattle.decode_coefficients.specs.declared.matrices.Matrices.{Matrices}
use Rattle.decode_macroblock.specs.Compensation.{references}
use Rattle.format3_records.specs.declared.turn.Turn.{Turn}
use Rattle.format3_header.specs.FileStart.{file_start_of}
use Rattle.format3_header.specs.declared.file_start.FileStart.{FileStart}
use Rattle.format3_header.specs.declared.file_start.RefusedAt.{RefusedAt}
use Rattle.format3_picture.specs.State.{start_state}
use Rattle.format3_picture.specs.declared.state.PictureState.{PictureState}
use Rattle.format3_picture.specs.Reconstruction.{Symbols, reconstruction}
use Rattle.format3_picture.specs.Step.{step_at_refusing}
use Rattle.format3_picture.specs.Symbols.{Symbol, symbol_at, Gathered, none_gathered, put_in_front}
use Rattle.format3_picture.specs.declared.reader.Answer.{Answer}

-- "The answer is number, place, made": place is a byte offset in the file, made the count of macroblocks written.
-- Request No. 6: "On a refused picture it is the total over the macroblocks made": rows
abbrev pub refused_at : Refusal → ℕ → ℕ → ℕ → Answer
refused_at refusal place made rows = record { verdict = Err refusal; place = place; made = made; rows = rows }

-- whether every macroblock has been made
abbrev pub is_complete : Turn → Bool
is_complete Turn.Start = false
is_complete Turn.Header = false
is_complete Turn.Slice = false
is_complete Turn.Macroblock = false
is_complete Turn.Complete = true

-- the file's end: "7 file ends with macroblocks or the header missing"; "Accepted is 0, file length, N"; a missing header is in `file_start_of`
abbrev pub end_verdict : Bool → Result ⊤ Refusal
end_verdict complete = cond complete (Ok tt) (Err FileEnds)

abbrev pub end_answer : ℕ → PictureState → Answer
end_answer file_length s = record { verdict = end_verdict (is_complete s.turn); place = file_length; made = s.made; rows = s.rows }

-- the answer to some records, and the symbols of those that pass
pub record Answered : Type 0 where
  pub answer : Answer
  pub gathered : Gathered

-- the end: no record is left, or the next one is refused. It adds no symbol, and the matrices stay
abbrev pub answered_by : Answer → Matrices → Answered
answered_by a q = record { answer = a; gathered = none_gathered q }

-- a refused record ends the picture; a record that passes is followed by those after it
abbrev pub followed : Result ⊤ Refusal → (Refusal → Answered) → Symbol → Answered → Answered
followed (Err refusal) stop symbol rest = stop refusal
followed (Ok passed) stop symbol rest = record { answer = rest.answer; gathered = put_in_front symbol rest.gathered }

-- the symbols that are gathered: of all records if the file is accepted, otherwise of those before the refused one.
-- "a macroblock needs a slice" (5), so none is left over in `further`
abbrev pub symbols_in : Answered → Symbols
symbols_in a = record { matrices = a.gathered.matrices; slices = a.gathered.slices }

-- the answer and its number, with the output
pub record Picture : Type 0 where
  pub verdict : Result ⊤ Refusal
  pub number : ℕ
  pub place : ℕ
  pub made : ℕ
  pub rows : ℕ
  pub output : List ℕ

abbrev pub with_output : Answer → List ℕ → Picture
with_output a output = record { verdict = a.verdict; number = number_in a.verdict; place = a.place; made = a.made; rows = a.rows; output = output }

-- ---- `Refusing`: with any refusal for a backward misfit. The reader's own follow, with 23
module _ (backward_refusal : Refusal) where
  -- the records from an offset on, in sequence; n is at least their number. The first refusal decides
  unfoldable pub records_from_refusing : List ℕ → ℕ → ℕ → PictureState → Matrices → Answered
  records_from_refusing file zero at s q = answered_by (end_answer (length file) s) q
  records_from_refusing file (suc n) at s q =
      cond (leb (length file) at) (answered_by (end_answer (length file) s) q)
      (let t = step_at_refusing backward_refusal file at s q in
      followed t.applied.verdict (λ refusal. answered_by (refused_at refusal at s.made s.rows) q) (symbol_at file at s)
      (records_from_refusing file n t.end t.applied.state t.matrices))

  -- all records after a header that ends at this offset
  abbrev pub records_after_refusing : List ℕ → Header → ℕ → Answered
  records_after_refusing file h end = records_from_refusing file (length file) end (start_state h) default_matrices

  -- the whole definition, for a reader of pictures within any limit and for any inverse transform: the answer, and what 2.4.4 makes of the symbols
  -- in the lent output
  unfoldable pub picture_refusing : ℕ → (List ℤ → ℕ → ℤ) → List ℕ → List ℕ → List ℕ → List ℕ → Picture
  picture_refusing limit transform file forward backward output = go (file_start_of limit file (length output) (length forward) (length backward))
    where
      go : Result FileStart RefusedAt → Picture
      go (Err stop) = with_output (refused_at stop.refusal stop.place 0 0) output
      go (Ok start) =
          let a = records_after_refusing file start.header start.end in
          with_output a.answer (reconstruction transform (references forward backward) start.header (symbols_in a) output)

abbrev pub records_from : List ℕ → ℕ → ℕ → PictureState → Matrices → Answered
records_from = records_from_refusing BackwardVectorOutside

abbrev pub records_after : List ℕ → Header → ℕ → Answered
records_after = records_after_refusing BackwardVectorOutside

abbrev pub symbols_of : List ℕ → Header → ℕ → Symbols
symbols_of file h end = symbols_in (records_after file h end)

-- request No. 4: "Both limits hold, each for its caller". The picture as given by a reader that takes at most `limit` macroblocks
abbrev pub picture_within : ℕ → (List ℤ → ℕ → ℤ) → List ℕ → List ℕ → List ℕ → List ℕ → Picture
picture_within = picture_refusing BackwardVectorOutside

-- "The other panels keep 396": the picture as given by the reader with that limit
abbrev pub picture_of : (List ℤ → ℕ → ℤ) → List ℕ → List ℕ → List ℕ → List ℕ → Picture
picture_of = picture_within max_macroblocks

-- the answer without the output, as the code gives it
abbrev pub answer_of : Picture → Answer
answer_of p = record { verdict = p.verdict; place = p.place; made = p.made; rows = p.rows }
