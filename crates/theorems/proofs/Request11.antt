-- Request No. 11: the vector entry's test is that of a legal case; the worked lines are computed, their cases by their indices. Assumes nothing.
use mathlib.Core.Bool.{Bool, true, false, cond}
use mathlib.Core.List.{List, ◌++◌}
use mathlib.Core.Path.{◌≡◌, refl, sym, ap, ◌∙◌}
use Prim.Native.Nat.{ℕ, ◌*◌, ◌≤◌, ◌<◌}
use native.Mathlib.Omega.{arith}
use borrow.Author.Tests.{le-leb}
use lib.IntN.{ℤ, pos, negsuc, nat_abs}
use lib.ListN.{length, get_or}
use Rattle.refusals.specs.Refusal.{accepted, number_of}
use Rattle.refusals.specs.declared.Refusal.TheVariants.{NumberOutOfRange}
use Rattle.math.proofs.Enumerates.{enumerates-as}
use Rattle.decode_vectors.specs.Vector.{f_of, wrapped, vector_difference_of, vector_of, code_in_range, residual_in_range, past_in_range, f_code_and_past_in_range, vector_entry_in_range}
use Rattle.text_writer.specs.Number.{space, line_end, digit_count_within, signed_field}
use Rattle.text_writer.specs.Occurrences.{line_count}
use Rattle.text_writer.proofs.DistinctLaws.{fields-apart}
use Rattle.text_writer.proofs.OccurrenceLaws.{occurs-append, occurs-joined}
use Rattle.vector_list.specs.Cases.{cases_of}
use Rattle.vector_list.specs.Index.{legal_case, cases_below_code, index_of}
use Rattle.vector_list.specs.List.{case_line, case_lines, vector_list}
use Rattle.vector_list.specs.declared.VectorCase.{VectorCase}
use Rattle.vector_list.proofs.CaseLaws as Case
use Rattle.vector_list.proofs.LineLaws.{one_line}
use Rattle.theorems.specs.Request11.{OneThenTwo, EveryAcceptedCase, EveryLegalCase, DifferentLines, RisingOrder, CaseCount, LineCounts, Line, WorkedLines}

pub one-then-two : OneThenTwo
unfolding vector_list
one-then-two = refl

pub every-legal-case : EveryLegalCase
every-legal-case f = Case.enumerated f

-- the vector entry's test
entry-test : (f_code : ℕ) (c : VectorCase) → 1 ≤ f_code → f_code ≤ 7 → vector_entry_in_range f_code c.past c.code c.residual ≡ legal_case (f_of f_code) c
unfolding vector_entry_in_range f_code_and_past_in_range legal_case
entry-test f_code c least most = rw (le-leb 1 f_code least, le-leb f_code 7 most)

accepts : (t : Bool) → cond t accepted (number_of NumberOutOfRange) ≡ accepted → t ≡ true
accepts true e = refl
accepts false e = absurd (omega arith)

pub every-accepted-case : EveryAcceptedCase
every-accepted-case f_code least most =
    enumerates-as (λ c m. ap (λ (t : Bool). cond t accepted (number_of NumberOutOfRange)) (entry-test f_code c least most ∙ m)) (λ c m. sym (entry-test f_code c least most) ∙ accepts _ m) (every-legal-case (f_of f_code))

-- ---- a line tells its f_code and its case, field by field
space-apart : (m n : ℤ) (r q : List ℕ) → signed_field m space ++ r ≡ signed_field n space ++ q → (m ≡ n) × (r ≡ q)
space-apart m n r q = fields-apart m n space r q (omega arith) (λ e. omega arith)

pub different-lines : DifferentLines
unfolding case_line
different-lines f g a b e =
    let f-codes = space-apart (pos f) (pos g) _ _ e in
    let pasts = space-apart a.past b.past _ _ f-codes.1 in
    let codes = space-apart a.code b.code _ _ pasts.1 in
    let residuals = space-apart (pos a.residual) (pos b.residual) _ _ codes.1 in
    (ap nat_abs f-codes.0, λ i. record { past = pasts.0 i; code = codes.0 i; residual = nat_abs (residuals.0 i) })

pub rising-order : RisingOrder
rising-order f i j d h g =
    let e = every-legal-case f in
    let first : i < length (cases_of f) = omega arith in
    Case.in_order f (get_or (cases_of f) i d) (get_or (cases_of f) j d) (e.member i d first) (e.member j d g) (rw (e.index_back i d first, e.index_back j d g) h)

pub case_count : CaseCount
case_count f = Case.cases-long f

-- as many lines as cases
lines : (f_code : ℕ) → line_count (case_lines f_code (cases_of (f_of f_code))) ≡ length (cases_of (f_of f_code)) * 1
lines f_code = occurs-joined line_end (case_line f_code) 1 (one_line f_code) (cases_of (f_of f_code))

pub line-counts : LineCounts
line-counts = record {
  one_each = one_line;
  f-code-1 = omega (arith, lines 1, case_count 1);
  f-code-2 = omega (arith, lines 2, case_count 2);
  all =
      ap line_count one-then-two
      ∙ occurs-append line_end (case_lines 1 (cases_of (f_of 1))) (case_lines 2 (cases_of (f_of 2)))
      ∙ omega (arith, lines 1, case_count 1, lines 2, case_count 2);
}

-- a legal case is at its index
worked : (f_code : ℕ) (past code : ℤ) (residual : ℕ) → let c : VectorCase = record { past = past; code = code; residual = residual } in
    legal_case (f_of f_code) c ≡ true → Line f_code (index_of (f_of f_code) c) past code residual (case_line f_code c)
worked f_code past code residual m = record { case-is = λ d. (every-legal-case (f_of f_code)).member_back _ d m; line-is = refl }

pub worked-lines : WorkedLines
unfolding index_of cases_below_code legal_case past_in_range code_in_range residual_in_range case_line digit_count_within vector_entry_in_range f_code_and_past_in_range vector_of vector_difference_of wrapped
worked-lines = record {
  first = worked 1 (negsuc 15) (negsuc 15) 0 refl;
  last-of-1 = worked 1 (pos 15) (pos 16) 0 refl;
  first-of-2 = worked 2 (negsuc 31) (negsuc 15) 0 refl;
  before-code-0 = worked 2 (negsuc 31) (negsuc 0) 1 refl;
  at-code-0 = worked 2 (negsuc 31) (pos 0) 0 refl;
  after-code-0 = worked 2 (negsuc 31) (pos 1) 0 refl;
  last-but-one = worked 2 (pos 31) (pos 16) 0 refl;
  last = worked 2 (pos 31) (pos 16) 1 refl;
}
