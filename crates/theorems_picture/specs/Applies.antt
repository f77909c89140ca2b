-- The records of a file that pass, and the refusals that apply to it (document 01, "Refusals by who can cause them"; requests No. 1 and No. 4).
use Rattle.std.specs.Prelude.{List, [], ◌++◌, ◌≡◌, ℕ, ◌≤◌, ◌<◌, length, Result, Ok, Err, ⊤}
use Rattle.refusals.specs.declared.Refusal.{Refusal}
use Rattle.refusals.specs.declared.Refusal.TheVariants.{FileEnds}
use Rattle.symbols.specs.Size.{macroblock_count}
use Rattle.symbols.specs.declared.header.Header.{Header}
use Rattle.decode_coefficients.specs.Matrices.{default_matrices}
use Rattle.decode_coefficients.specs.declared.matrices.Matrices.{Matrices}
use Rattle.decode_macroblock.specs.Macroblock.{MadeMacroblock}
use Rattle.format3_header.specs.FileStart.{file_start_of}
use Rattle.format3_header.specs.declared.file_start.FileStart.{FileStart}
use Rattle.format3_header.specs.declared.file_start.RefusedAt.{RefusedAt}
use Rattle.format3_picture.specs.State.{start_state}
use Rattle.format3_picture.specs.declared.state.PictureState.{PictureState}
use Rattle.format3_picture.specs.Step.{RecordStep, step_at}

-- what holds after some records: where the next one starts, the state, the matrices in effect, and the macroblocks that the records made
pub record Reached : Type 0 where
  pub offset : ℕ
  pub state : PictureState
  pub matrices : Matrices
  pub macroblocks : List MadeMacroblock

-- after the header, which ends at an offset: the default matrices, and no macroblock
abbrev pub after_header : Header → ℕ → Reached
after_header h end = record { offset = end; state = start_state h; matrices = default_matrices; macroblocks = [] }

-- the next record, and what holds after it if it passes
abbrev pub next_record : List ℕ → Reached → RecordStep
next_record file r = step_at file r.offset r.state r.matrices

abbrev pub verdict_at : List ℕ → Reached → Result ⊤ Refusal
verdict_at file r = (next_record file r).applied.verdict

abbrev pub after_record : List ℕ → Reached → Reached
after_record file r =
    let t = next_record file r in
    record { offset = t.end; state = t.applied.state; matrices = t.matrices; macroblocks = r.macroblocks ++ t.applied.macroblocks }

-- the header, then records that pass: none yet, or one more
pub data Passing (file : List ℕ) (h : Header) (end : ℕ) : Reached → Type 0 where
  none : Passing file h end (after_header h end)
  one_more : {r : Reached} → Passing file h end r → verdict_at file r ≡ Ok tt → Passing file h end (after_record file r)

-- the file's start, with the reader's limit and the lengths of the lent buffers
abbrev pub file_start : ℕ → List ℕ → List ℕ → List ℕ → List ℕ → Result FileStart RefusedAt
file_start limit file forward backward output = file_start_of limit file (length output) (length forward) (length backward)

-- a refusal applies: which one, at which place, and the macroblocks that the records before it made
pub data Applies (limit : ℕ) (file forward backward output : List ℕ) : Refusal → ℕ → List MadeMacroblock → Type 0 where
  -- to the file's start: 1, 2, and those of the first record, which "ends with 19, 20, 21"; 27 comes before these
  to_start : (refusal : Refusal) (place : ℕ) → file_start limit file forward backward output ≡ Err (record { refusal = refusal; place = place })
      → Applies limit file forward backward output refusal place []
  -- to a record: all before it pass, and it is refused. "Place is the offset of the refused record's length"
  to-record : (h : Header) (end : ℕ) → file_start limit file forward backward output ≡ Ok (record { header = h; end = end })
      → (r : Reached) → Passing file h end r → r.offset < length file
      → (refusal : Refusal) → verdict_at file r ≡ Err refusal
      → Applies limit file forward backward output refusal r.offset r.macroblocks
  -- "7 file ends with macroblocks .. missing": all records pass. Its place is "file length for 7, where all records count as before it"
  to_end : (h : Header) (end : ℕ) → file_start limit file forward backward output ≡ Ok (record { header = h; end = end })
      → (r : Reached) → Passing file h end r → length file ≤ r.offset
      → r.state.made < macroblock_count h.size
      → Applies limit file forward backward output FileEnds (length file) r.macroblocks

-- some refusal applies
pub record AppliesTo (limit : ℕ) (file forward backward output : List ℕ) : Type 0 where
  pub refusal : Refusal
  pub place : ℕ
  pub before : List MadeMacroblock
  pub applies : Applies limit file forward backward output refusal place before
