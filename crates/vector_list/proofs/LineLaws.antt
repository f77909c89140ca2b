-- How long a line and the whole list are at most, and that each case has one line. Assumes nothing.
use mathlib.Core.Bool.{true}
use mathlib.Core.List.{List, [], ◌∷◌, ◌++◌}
use mathlib.Core.Path.{◌≡◌}
use Prim.Native.Nat.{ℕ, ◌+◌, ◌*◌, ◌≤◌, ◌<◌}
use native.Mathlib.Omega.{arith}
use lib.IntN.{ℤ, pos}
use lib.ListN.{length, get_or, length-append}
use Rattle.math.specs.Bound.{Within}
use Rattle.math.specs.Limit.{eq_z}
use Rattle.math.proofs.Bound.{within_both}
use Rattle.math.proofs.Joined.{joined-most}
use Rattle.math.proofs.Test.{by-test}
use Rattle.decode_vectors.specs.Vector.{f_of, vector_of, vector_entry_in_range, vector_value}
use Rattle.decode_vectors.proofs.VectorLaws.{past-known, vectors-in-range}
use Rattle.decode_vectors.proofs.WrapLaws.{inside-most}
use Rattle.text_writer.specs.Number.{space, line_end, field, signed_field}
use Rattle.text_writer.specs.Occurrences.{occurrences, line_count}
use Rattle.text_writer.proofs.NumberLaws.{decimal-most, signed-most, field-length}
use Rattle.text_writer.proofs.OccurrenceLaws.{occurs-append, field-occurs}
use Rattle.vector_list.specs.Cases.{residual_count, cases_of}
use Rattle.vector_list.specs.Index.{legal_case}
use Rattle.vector_list.specs.List.{case_line, case_lines, vector_list}
use Rattle.vector_list.proofs.CaseLaws.{legal-known, cases-long, enumerated}
use Rattle.vector_list.specs.declared.VectorCase.{VectorCase}

-- what adds up over the parts of a text, such as its length, adds up over the fields of a line
module _ (measure : List ℕ → ℕ) (add : (l m : List ℕ) → measure (l ++ m) ≡ measure l + measure m) where
  line-parts : (f_code : ℕ) (case : VectorCase) → measure (case_line f_code case)
      ≡ measure (field f_code space) + measure (signed_field case.past space) + measure (signed_field case.code space) + measure (field case.residual space)
      + measure (signed_field (vector_value f_code case.past case.code case.residual) line_end)
  unfolding case_line
  line-parts f_code case = simp add (omega arith)

pub line-long : (f_code : ℕ) (case : VectorCase) → length (case_line f_code case)
    ≡ length (field f_code space) + length (signed_field case.past space) + length (signed_field case.code space) + length (field case.residual space)
    + length (signed_field (vector_value f_code case.past case.code case.residual) line_end)
line-long = line-parts length length-append

-- ---- each case has one line
pub one_line : (f_code : ℕ) (case : VectorCase) → line_count (case_line f_code case) ≡ 1
unfolding occurrences
one_line f_code case =
    omega (
      arith,
      line-parts line_count (occurs-append line_end) f_code case,
      line-feeds (pos f_code) space,
      line-feeds case.past space,
      line-feeds case.code space,
      line-feeds (pos case.residual) space,
      line-feeds (vector_value f_code case.past case.code case.residual) line_end,
    )
  where
    line-feeds : (number : ℤ) (after : ℕ) → line_count (signed_field number after) ≡ line_count (after ∷ [])
    line-feeds = field-occurs line_end (omega arith) (λ e. omega arith)

-- ---- an f_code of one digit and a small f give a short line
vector-most : (f_code : ℕ) (past code : ℤ) (residual : ℕ) → Within (16 * f_of f_code) (vector_value f_code past code residual)
vector-most f_code past code residual =
    by-test (Within (16 * f_of f_code)) (vector_entry_in_range f_code past code residual) (vector_of (f_of f_code) past code residual) (pos 0)
    (λ e. inside-most (f_of f_code) _ (past-known (f_of f_code) _ (vectors-in-range f_code past code residual e)))
    (λ e. record { within = omega arith })

-- a residual is below f, or 0
residual-most : (f residual : ℕ) (code : ℤ) → f ≤ 2 → residual < residual_count f code → residual < 10
unfolding residual_count
residual-most f residual code few = by-test (λ (n : ℕ). residual < n → residual < 10) (eq_z code (pos 0)) 1 f (λ e h. omega arith) (λ e h. omega arith)

line-most : (f_code : ℕ) (case : VectorCase) → f_code < 10 → f_of f_code ≤ 2 → legal_case (f_of f_code) case ≡ true → length (case_line f_code case) ≤ 16
line-most f_code case digit few m =
    let f = f_of f_code in
    let legal = legal-known f case m in
    let vector = vector_value f_code case.past case.code case.residual in
    omega (
      arith,
      line-long f_code case,
      field-length (pos f_code) space,
      field-length case.past space,
      field-length case.code space,
      field-length (pos case.residual) space,
      field-length vector line_end,
      decimal-most 0 f_code (omega arith),
      signed-most 1 case.past (omega (arith, (inside-most f case.past legal.past-inside).within)),
      signed-most 1 case.code (omega (arith, (within_both legal.code_inside.lower legal.code_inside.upper).within)),
      decimal-most 0 case.residual (omega (arith, residual-most f case.residual case.code few legal.residual-inside)),
      signed-most 1 vector (omega (arith, (vector-most f_code case.past case.code case.residual).within)),
    )

lines-most : (f_code : ℕ) → f_code < 10 → f_of f_code ≤ 2 → length (case_lines f_code (cases_of (f_of f_code))) ≤ 16 * length (cases_of (f_of f_code))
lines-most f_code digit few =
    let f = f_of f_code in
    joined-most (case_line f_code) (cases_of f) 16 (λ k d h. line-most f_code (get_or (cases_of f) k d) digit few ((enumerated f).member k d h))

-- the list fits a buffer with 16 bytes for each line
pub list-fits : length vector_list ≤ 16 * (1056 + 4160)
unfolding vector_list
list-fits = simp length-append (omega (arith, lines-most 1 (omega arith) (omega arith), lines-most 2 (omega arith) (omega arith), cases-long 1, cases-long 2))
