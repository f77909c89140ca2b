-- Demand 1: "The lent memory is in a known state after every call. Every public entry takes every input, ends, and either does its work or gives one
-- of the numbered refusals; a refused picture holds exactly the macroblocks of the records before the refused one, and every other byte is what it
-- was at entry."
--
-- The contracts of `reconstruct` and `reconstruct_small` say for every input that the answer and the output at exit are those of `picture_within`
-- (crates/format3_picture/specs/Picture.antt) with the reader's limit, 396 or 99 macroblocks, and document 01's inverse transform. The theorems here
-- are about `picture_within` with any limit and any inverse transform. Two parts of the demand need no theorem: no entry has a `requires`, so each
-- takes every input, and the checker accepts no function that may not return.
--
-- `Applies` (crates/theorems_picture/specs/Applies.antt) says which refusal applies to a file, at which place (a byte
-- offset), and which macroblocks the records before it made. `owner_of` is the address of the macroblock that a byte belongs to, and
-- `byte_of` is the macroblock's value for the byte (crates/decode_macroblock/specs).
use Rattle.std.specs.Prelude.{List, ◌⊎◌, ◌≡◌, ℕ, ◌≤◌, ◌<◌, ℤ, length, get_or, Ok}
use Rattle.math.specs.Each.{Each}
use Rattle.refusals.specs.Refusal.{accepted, number_of}
use Rattle.refusals.specs.declared.Refusal.{Refusal}
use Rattle.refusals.specs.declared.Refusal.TheVariants.{FileEnds, BackwardVectorOutside, MacroblockLimit}
use Rattle.symbols.specs.Size.{max_macroblocks, macroblock_count}
use Rattle.symbols.specs.declared.header.Header.{Header}
use Rattle.decode_macroblock.specs.Byte.{byte_of}
use Rattle.decode_macroblock.specs.Compensation.{references}
use Rattle.decode_macroblock.specs.Macroblock.{MadeMacroblock, InOrder}
use Rattle.decode_macroblock.specs.Owner.{owner_of}
use Rattle.decode_macroblock.specs.Rows.{rows_of}
use Rattle.format3_picture.specs.Picture.{refused_at, picture_within, answer_of}
use Rattle.theorems_picture.specs.Applies.{file_start, Applies, AppliesTo}
use Rattle.theorems_picture.specs.Worked.{cases, answers, expectations}

-- "The lent memory is in a known state": the output is as long as it was. The theorems below and demand 2 say what its bytes are
abbrev pub KeepsLength : Type 0
KeepsLength =
    (limit : ℕ) (transform : List ℤ → ℕ → ℤ) (file forward backward output : List ℕ)
    → length (picture_within limit transform file forward backward output).output ≡ length output

-- "either does its work or gives one of the numbered refusals": the picture is accepted, or a refusal applies
abbrev pub WorkOrRefusal : Type 0
WorkOrRefusal =
    (limit : ℕ) (transform : List ℤ → ℕ → ℤ) (file forward backward output : List ℕ)
    → ((picture_within limit transform file forward backward output).number ≡ accepted) ⊎ AppliesTo limit file forward backward output

-- the refusal that applies is given. "The answer is number, place, made. .. Made is the count of macroblocks written" (document 01), and rows
-- the total over these (document 02, No. 6)
abbrev pub RefusalGiven : Type 0
RefusalGiven =
    (limit : ℕ) (transform : List ℤ → ℕ → ℤ) (file forward backward output : List ℕ) (refusal : Refusal) (place : ℕ) (before : List MadeMacroblock)
    → Applies limit file forward backward output refusal place before
    → (answer_of (picture_within limit transform file forward backward output) ≡ refused_at refusal place (length before) (rows_of before))
    × ((picture_within limit transform file forward backward output).number ≡ number_of refusal)

-- a reader's numbers are 0, document 01's refusals 1 to 21, 23, and 27 if its limit is below 396; two refusals never share a number, and none has
-- that of acceptance
abbrev pub NumberListed : Type 0
NumberListed =
    (limit : ℕ) (transform : List ℤ → ℕ → ℤ) (file forward backward output : List ℕ)
    → ((picture_within limit transform file forward backward output).number ≤ 21)
    ⊎ ((picture_within limit transform file forward backward output).number ≡ number_of BackwardVectorOutside)
    ⊎ (((picture_within limit transform file forward backward output).number ≡ number_of MacroblockLimit) × (limit < max_macroblocks))

abbrev pub NumbersDiffer : Type 0
NumbersDiffer = (a b : Refusal) → number_of a ≡ number_of b → a ≡ b

abbrev pub NeverAccepted : Type 0
NeverAccepted = (refusal : Refusal) → ¬ (number_of refusal ≡ accepted)

-- "a refused picture holds exactly the macroblocks of the records before the refused one, and every other byte is what it was at entry"
pub record RefusedPicture (limit : ℕ) (transform : List ℤ → ℕ → ℤ) (file forward backward output : List ℕ) (before : List MadeMacroblock) : Type 0 where
  -- the macroblocks have the addresses 0, 1, 2 and so on, each once
  pub order : InOrder 0 before (length before)
  -- each byte of one of them is that macroblock's: prediction plus residue, limited
  pub held :
      (h : Header) (end : ℕ) → file_start limit file forward backward output ≡ Ok (record { header = h; end = end })
      → Each (λ m. (i : ℕ) → i < length output → owner_of h.size i ≡ m.address
      → get_or (picture_within limit transform file forward backward output).output i 0 ≡ byte_of transform (references forward backward) h.size m i) before
  -- a byte that belongs to none of them is unchanged; if the file's start is refused, there is no header, and every byte is unchanged
  pub others :
      (i : ℕ) → i < length output
      → ((h : Header) (end : ℕ) → file_start limit file forward backward output ≡ Ok (record { header = h; end = end }) → length before ≤ owner_of h.size i)
      → get_or (picture_within limit transform file forward backward output).output i 0 ≡ get_or output i 0

abbrev pub RefusedHolds : Type 0
RefusedHolds =
    (limit : ℕ) (transform : List ℤ → ℕ → ℤ) (file forward backward output : List ℕ) (refusal : Refusal) (place : ℕ) (before : List MadeMacroblock)
    → Applies limit file forward backward output refusal place before
    → RefusedPicture limit transform file forward backward output before

-- "7 said at the start: barred, as 7 needs the file's end reached with macroblocks missing" (document 01, "Reviewer's checklist")
pub record Missing (limit : ℕ) (transform : List ℤ → ℕ → ℤ) (file forward backward output : List ℕ) : Type 0 where
  pub at-end : (picture_within limit transform file forward backward output).place ≡ length file
  pub fewer :
      (h : Header) (end : ℕ) → file_start limit file forward backward output ≡ Ok (record { header = h; end = end })
      → (picture_within limit transform file forward backward output).made < macroblock_count h.size

abbrev pub SevenMissing : Type 0
SevenMissing =
    (limit : ℕ) (transform : List ℤ → ℕ → ℤ) (file forward backward output : List ℕ)
    → (picture_within limit transform file forward backward output).number ≡ number_of FileEnds
    → Missing limit transform file forward backward output

-- Thirty-six files and their answers: each refusal 1 to 21 and 23 applies to at least one of them, and two are accepted. Request4.antt has files that
-- are refused by 27
abbrev pub Worked : Type 0
Worked = answers cases ≡ expectations cases
