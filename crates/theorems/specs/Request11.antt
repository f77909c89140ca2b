-- Request No. 11, every small vector: "The recorder's makers ask for all legal vector inputs to try on their bench. A program prints them for
-- f_code 1, then 2: past rising over its range, then code rising, then residual rising. A line has f_code, past, code, residual and the vector. That
-- is 1,056 and 4,160 lines, each case once and none left out."
--
-- The contract of `list_vectors` says that the text is `vector_list` (crates/vector_list/specs/List.antt). A case is an input of the vector entry
-- without its f_code. `cases_of f` lists the legal ones, as is shown here; `case_line` is the line of one, with the vector that the entry gives
-- (`vector_value`).
use Rattle.std.specs.Prelude.{true, List, [], ◌∷◌, ◌++◌, ◌≡◌, ℕ, ◌+◌, ◌*◌, ◌≤◌, ◌<◌, ℤ, pos, negsuc, length, get_or}
use Rattle.math.specs.Enumerates.{Enumerates}
use Rattle.refusals.specs.Refusal.{accepted}
use Rattle.decode_vectors.specs.Vector.{f_of, vector_number}
use Rattle.text_writer.specs.Occurrences.{line_count}
use Rattle.vector_list.specs.Cases.{cases_of}
use Rattle.vector_list.specs.Index.{legal_case, Before, index_of}
use Rattle.vector_list.specs.List.{case_line, case_lines, vector_list}
use Rattle.vector_list.specs.declared.VectorCase.{VectorCase}

-- "A program prints them for f_code 1, then 2": the text is a line for each case of f_code 1, and then one for each case of f_code 2
abbrev pub OneThenTwo : Type 0
OneThenTwo = vector_list ≡ case_lines 1 (cases_of (f_of 1)) ++ case_lines 2 (cases_of (f_of 2))

-- "all legal vector inputs .., each case once and none left out": the cases of an f_code are exactly the inputs that the vector entry accepts with
-- it. Between them and the indices of the list there is a bijection
abbrev pub EveryAcceptedCase : Type 0
EveryAcceptedCase =
    (f_code : ℕ) → 1 ≤ f_code → f_code ≤ 7
    → Enumerates (λ c. vector_number f_code c.past c.code c.residual ≡ accepted) (index_of (f_of f_code)) (cases_of (f_of f_code))

-- the same for every f, a power of 2 or not, by the ranges of past, code and residual
abbrev pub EveryLegalCase : Type 0
EveryLegalCase = (f : ℕ) → Enumerates (λ c. legal_case f c ≡ true) (index_of f) (cases_of f)

-- "each case once": no two cases have the same line
abbrev pub DifferentLines : Type 0
DifferentLines = (f_code other : ℕ) (a b : VectorCase) → case_line f_code a ≡ case_line other b → (f_code ≡ other) × (a ≡ b)

-- "past rising over its range, then code rising, then residual rising": of two cases in the list, the one with the smaller index has the smaller past,
-- or the same past and the smaller code, or both the same and the smaller residual
abbrev pub RisingOrder : Type 0
RisingOrder = (f i j : ℕ) (d : VectorCase) → i < j → j < length (cases_of f) → Before (get_or (cases_of f) i d) (get_or (cases_of f) j d)

-- how many cases there are, for every f: 32f pasts with 32f + 1 cases each
abbrev pub CaseCount : Type 0
CaseCount = (f : ℕ) → length (cases_of f) ≡ 32 * f * (32 * f + 1)

-- "That is 1,056 and 4,160 lines": each case has one line
pub record LineCounts : Type 0 where
  pub one_each : (f_code : ℕ) (c : VectorCase) → line_count (case_line f_code c) ≡ 1
  pub f-code-1 : line_count (case_lines 1 (cases_of (f_of 1))) ≡ 1056
  pub f-code-2 : line_count (case_lines 2 (cases_of (f_of 2))) ≡ 4160
  pub all : line_count vector_list ≡ 1056 + 4160

-- ---- worked: the case at an index, from 0, among the cases of its f_code; and its line in ASCII
pub record Line (f_code index : ℕ) (past code : ℤ) (residual : ℕ) (line : List ℕ) : Type 0 where
  pub case-is : (d : VectorCase) → get_or (cases_of (f_of f_code)) index d ≡ record { past = past; code = code; residual = residual }
  pub line-is : case_line f_code (record { past = past; code = code; residual = residual }) ≡ line

pub record WorkedLines : Type 0 where
  -- the first line, `1 -16 -16 0 0`: the sum -32 is below the range, and moves by 32 back inside, to 0
  pub first : Line 1 0 (negsuc 15) (negsuc 15) 0 (49 ∷ 32 ∷ 45 ∷ 49 ∷ 54 ∷ 32 ∷ 45 ∷ 49 ∷ 54 ∷ 32 ∷ 48 ∷ 32 ∷ 48 ∷ 10 ∷ [])
  -- the last line of f_code 1 and the first of f_code 2, `1 15 16 0 -1` and `2 -32 -16 0 1`
  pub last-of-1 : Line 1 1055 (pos 15) (pos 16) 0 (49 ∷ 32 ∷ 49 ∷ 53 ∷ 32 ∷ 49 ∷ 54 ∷ 32 ∷ 48 ∷ 32 ∷ 45 ∷ 49 ∷ 10 ∷ [])
  pub first-of-2 : Line 2 0 (negsuc 31) (negsuc 15) 0 (50 ∷ 32 ∷ 45 ∷ 51 ∷ 50 ∷ 32 ∷ 45 ∷ 49 ∷ 54 ∷ 32 ∷ 48 ∷ 32 ∷ 49 ∷ 10 ∷ [])
  -- the lines around code 0, which has residual 0 alone: `2 -32 -1 1 30`, `2 -32 0 0 -32`, `2 -32 1 0 -31`
  pub before-code-0 : Line 2 31 (negsuc 31) (negsuc 0) 1 (50 ∷ 32 ∷ 45 ∷ 51 ∷ 50 ∷ 32 ∷ 45 ∷ 49 ∷ 32 ∷ 49 ∷ 32 ∷ 51 ∷ 48 ∷ 10 ∷ [])
  pub at-code-0 : Line 2 32 (negsuc 31) (pos 0) 0 (50 ∷ 32 ∷ 45 ∷ 51 ∷ 50 ∷ 32 ∷ 48 ∷ 32 ∷ 48 ∷ 32 ∷ 45 ∷ 51 ∷ 50 ∷ 10 ∷ [])
  pub after-code-0 : Line 2 33 (negsuc 31) (pos 1) 0 (50 ∷ 32 ∷ 45 ∷ 51 ∷ 50 ∷ 32 ∷ 49 ∷ 32 ∷ 48 ∷ 32 ∷ 45 ∷ 51 ∷ 49 ∷ 10 ∷ [])
  -- the last two lines, `2 31 16 0 -2` and `2 31 16 1 -1`
  pub last-but-one : Line 2 4158 (pos 31) (pos 16) 0 (50 ∷ 32 ∷ 51 ∷ 49 ∷ 32 ∷ 49 ∷ 54 ∷ 32 ∷ 48 ∷ 32 ∷ 45 ∷ 50 ∷ 10 ∷ [])
  pub last : Line 2 4159 (pos 31) (pos 16) 1 (50 ∷ 32 ∷ 51 ∷ 49 ∷ 32 ∷ 49 ∷ 54 ∷ 32 ∷ 49 ∷ 32 ∷ 45 ∷ 49 ∷ 10 ∷ [])
