-- Request No. 1, which direction left the picture: "From now on 18 speaks of the forward vector alone. A skipped B macroblock counts by the direction
-- that doesn't fit. Place and order stay." "23 when the backward vector doesn't fit, tested just after the same macroblock's forward one."
--
-- The theorems are about `picture_within`, like those of demands 1 and 2. `VectorRefused` (crates/theorems_picture/specs/Misfit.antt) says that a
-- record is refused for a vector: its macroblocks are tested one by one, the skipped ones in address order and then its own, each forward and then
-- backward, and the first that doesn't fit decides. `picture_refusing` is the definition of `picture_within` with any refusal for a backward misfit
-- (crates/format3_picture/specs/Picture.antt): with 18, it is the reader as document 01 has it.
use Rattle.std.specs.Prelude.{List, ◌↔◌, ◌≡◌, ℕ, ℤ, Ok}
use Rattle.refusals.specs.Refusal.{accepted, number_of}
use Rattle.refusals.specs.declared.Refusal.{Refusal}
use Rattle.refusals.specs.declared.Refusal.TheVariants.{ForwardVectorOutside, BackwardVectorOutside}
use Rattle.symbols.specs.Header.{type_b}
use Rattle.symbols.specs.Size.{max_macroblocks}
use Rattle.symbols.specs.declared.header.Header.{Header}
use Rattle.format3_picture.specs.Picture.{picture_within, picture_refusing}
use Rattle.theorems_picture.specs.Applies.{file_start}
use Rattle.theorems_picture.specs.Misfit.{VectorRefused}
use Rattle.theorems_picture.specs.Worked.{vector_cases, answers_refusing, answers, expectations, expectations_as18}

-- 18 is given exactly when the first vector that doesn't fit is a forward one
abbrev pub ForwardIs18 : Type 0
ForwardIs18 =
    (limit : ℕ) (transform : List ℤ → ℕ → ℤ) (file forward backward output : List ℕ)
    → ((picture_within limit transform file forward backward output).number ≡ number_of ForwardVectorOutside) ↔ VectorRefused limit file forward backward output ForwardVectorOutside

-- 23 is given exactly when it is a backward one
abbrev pub BackwardIs23 : Type 0
BackwardIs23 =
    (limit : ℕ) (transform : List ℤ → ℕ → ℤ) (file forward backward output : List ℕ)
    → ((picture_within limit transform file forward backward output).number ≡ number_of BackwardVectorOutside) ↔ VectorRefused limit file forward backward output BackwardVectorOutside

-- 23 is never given for an I or P picture
abbrev pub BackwardOnlyInB : Type 0
BackwardOnlyInB =
    (limit : ℕ) (transform : List ℤ → ℕ → ℤ) (file forward backward output : List ℕ) (h : Header) (end : ℕ) → file_start limit file forward backward output ≡ Ok (record { header = h; end = end })
    → (picture_within limit transform file forward backward output).number ≡ number_of BackwardVectorOutside
    → h.coding_type ≡ type_b

-- "Place and order stay": with any refusal for a backward misfit, only the number differs, and only where it is 23
pub record SameButNumber (backward_refusal : Refusal) (limit : ℕ) (transform : List ℤ → ℕ → ℤ) (file forward backward output : List ℕ) : Type 0 where
  pub place : (picture_refusing backward_refusal limit transform file forward backward output).place ≡ (picture_within limit transform file forward backward output).place
  pub made : (picture_refusing backward_refusal limit transform file forward backward output).made ≡ (picture_within limit transform file forward backward output).made
  pub rows : (picture_refusing backward_refusal limit transform file forward backward output).rows ≡ (picture_within limit transform file forward backward output).rows
  pub same-output : (picture_refusing backward_refusal limit transform file forward backward output).output ≡ (picture_within limit transform file forward backward output).output
  -- the same files are accepted, and so the same are refused
  pub same-accepted :
      ((picture_refusing backward_refusal limit transform file forward backward output).number ≡ accepted)
      ↔ ((picture_within limit transform file forward backward output).number ≡ accepted)
  -- 23 is counted as that refusal; any other number is the same
  pub counted :
      (picture_within limit transform file forward backward output).number ≡ number_of BackwardVectorOutside
      → (picture_refusing backward_refusal limit transform file forward backward output).number ≡ number_of backward_refusal
  pub other-number :
      ¬ ((picture_within limit transform file forward backward output).number ≡ number_of BackwardVectorOutside)
      → (picture_refusing backward_refusal limit transform file forward backward output).number ≡ (picture_within limit transform file forward backward output).number

abbrev pub OnlyTheNumber : Type 0
OnlyTheNumber =
    (backward_refusal : Refusal) (limit : ℕ) (transform : List ℤ → ℕ → ℤ) (file forward backward output : List ℕ)
    → SameButNumber backward_refusal limit transform file forward backward output

-- Six files of a B picture, with 18, 23, and a vector that goes just up to the edge; and their answers if a backward misfit is 18 too
pub record WorkedMisfits : Type 0 where
  pub given : answers vector_cases ≡ expectations vector_cases
  pub as-18 : answers_refusing ForwardVectorOutside max_macroblocks vector_cases ≡ expectations_as18 vector_cases
