-- The lines of an f_code, past by past; those of a past, code by code; those of a code, residual by residual. Assumes nothing.
use mathlib.Core.List.{List}
use mathlib.Core.Path.{◌≡◌, ◌∙◌}
use Prim.Native.Nat.{ℕ}
use lib.IntN.{ℤ, pos, negsuc, ◌+ℤ◌}
use Rattle.math.proofs.Joined.{joined-joined, blocks, joined-tab}
use Rattle.decode_vectors.specs.Vector.{lowest}
use Rattle.vector_list.specs.Cases.{past_count, code_count, residual_count, pasts, codes, cases_of_code, cases_of_past, cases_of}
use Rattle.vector_list.specs.List.{case_line, case_lines}

abbrev pub residual_line : ℕ → ℤ → ℤ → ℕ → List ℕ
residual_line f_code past code residual = case_line f_code (record { past = past; code = code; residual = residual })

module _ (f_code f : ℕ) where
  pub residual-lines : (past code : ℤ) → case_lines f_code (cases_of_code f past code) ≡ blocks (residual_line f_code past code) (residual_count f code)
  unfolding cases_of_code
  residual-lines past code = joined-tab (case_line f_code) (residual_count f code) (λ residual. record { past = past; code = code; residual = residual })

  abbrev pub code_lines : ℤ → ℕ → List ℕ
  code_lines past k = case_lines f_code (cases_of_code f past (negsuc 15 +ℤ pos k))

  pub code_lines_lem : (past : ℤ) → case_lines f_code (cases_of_past f past) ≡ blocks (code_lines past) code_count
  unfolding cases_of_past
  code_lines_lem past =
      joined-joined (case_line f_code) (cases_of_code f past) codes
      ∙ joined-tab (λ code. case_lines f_code (cases_of_code f past code)) code_count (λ k. negsuc 15 +ℤ pos k)

  abbrev pub past_lines : ℕ → List ℕ
  past_lines k = case_lines f_code (cases_of_past f (lowest (pos f) +ℤ pos k))

  pub past-lines : case_lines f_code (cases_of f) ≡ blocks past_lines (past_count f)
  unfolding cases_of
  past-lines =
      joined-joined (case_line f_code) (cases_of_past f) (pasts f)
      ∙ joined-tab (λ past. case_lines f_code (cases_of_past f past)) (past_count f) (λ k. lowest (pos f) +ℤ pos k)
