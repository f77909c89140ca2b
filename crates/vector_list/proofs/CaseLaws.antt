-- The list of cases has every legal case once, at its index, and in order. Assumes nothing.
use mathlib.Core.Bool.{Bool, true, false, cond, ◌&&◌}
use mathlib.Core.List.{List}
use mathlib.Core.Logic.{◌⊎◌, inl, inr}
use mathlib.Core.Path.{◌≡◌, refl, sym, ap, ap₂, ◌∙◌}
use Prim.Native.Nat.{ℕ, zero, suc, ◌+◌, ◌-◌, ◌*◌, ◌<◌}
use native.Mathlib.Nat.{suc-mul}
use native.Mathlib.Numerals.{add-one}
use native.Mathlib.Omega.{arith}
use borrow.Author.Tests.{ltb-true, lt-ltb, le-ltb, ne_eqb}
use lib.Dec.{eqb, ltb}
use lib.IntN.{ℤ, pos, negsuc, ◌+ℤ◌}
use lib.ListN.{length}
use lib.Signed.{◌≤ℤ◌}
use Rattle.math.specs.Bound.{Between}
use Rattle.math.specs.Enumerates.{Enumerates}
use Rattle.math.specs.Limit.{eq_z}
use Rattle.math.specs.Tab.{tab}
use Rattle.math.proofs.Difference.{same_of, le_of, of_le, parts_add}
use Rattle.math.proofs.Enumerates.{enumerates-by, enumerates-blocks}
use Rattle.math.proofs.Joined.{blocks, joined-tab, length_more, blocks-order, blocks-length}
use Rattle.math.proofs.Limit.{range-between, between-range}
use Rattle.math.proofs.Offset.{offset, offset-back, by-offset, offset-below, offset-inside, offset-less, offset-same}
use Rattle.math.proofs.Tab.{tab-length, tab-at}
use Rattle.math.proofs.Test.{both_true}
use Rattle.decode_vectors.specs.Vector.{lowest, highest, code_in_range, residual_in_range, past_in_range}
use Rattle.decode_vectors.proofs.VectorLaws.{past-known}
use Rattle.decode_vectors.proofs.WrapLaws.{Inside, lowest-parts, highest-parts}
use Rattle.vector_list.specs.Cases.{past_count, code_count, residual_count, cases_of_code, cases_of_past, cases_of}
use Rattle.vector_list.specs.Index.{legal_case, Before, by-past, by_code, by-residual, cases_below_code, index_of}
use Rattle.vector_list.specs.declared.VectorCase.{VectorCase}

-- the lowest code, and how far a case's past and code are from the lowest
abbrev low_code : ℤ
low_code = negsuc 15

abbrev past_offset : ℕ → VectorCase → ℕ
past_offset f c = offset (lowest (pos f)) c.past

abbrev code_offset : VectorCase → ℕ
code_offset c = offset low_code c.code

-- ---- legal cases
past_end : (f : ℕ) → highest (pos f) +ℤ pos 1 ≡ lowest (pos f) +ℤ pos (past_count f)
past_end f = same_of _ _ (omega (arith, lowest-parts f, highest-parts f, parts_add (highest (pos f)) (pos 1), parts_add (lowest (pos f)) (pos (past_count f))))

-- a residual is legal exactly if it is among those that the code has
residual-counted : (f : ℕ) (code : ℤ) (residual : ℕ) → residual_in_range f code residual ≡ ltb residual (residual_count f code)
unfolding residual_in_range residual_count
residual-counted f code residual = go (eq_z code (pos 0)) residual
  where
    go : (t : Bool) (residual : ℕ) → cond t (eqb residual 0) (ltb residual f) ≡ ltb residual (cond t 1 f)
    go true zero = refl
    go true (suc residual) = ne_eqb (suc residual) 0 (λ e. omega arith) ∙ sym (le-ltb (suc residual) 1 (omega arith))
    go false residual = refl

pub record Legal (f : ℕ) (c : VectorCase) : Type 0 where
  pub past-inside : Inside f c.past
  pub code_inside : Between low_code (pos 16) c.code
  pub residual-inside : c.residual < residual_count f c.code

pub legal-known : (f : ℕ) (c : VectorCase) → legal_case f c ≡ true → Legal f c
unfolding legal_case code_in_range
legal-known f c e =
    let both = both_true _ (residual_in_range f c.code c.residual) e in
    let first = both_true (past_in_range f c.past) (code_in_range c.code) both.0 in
    record {
      past-inside = past-known f c.past first.0;
      code_inside = range-between low_code (pos 16) c.code first.1;
      residual-inside = ltb-true c.residual (residual_count f c.code) (sym (residual-counted f c.code c.residual) ∙ both.1);
    }

legal-if : (f : ℕ) (c : VectorCase) → Legal f c → legal_case f c ≡ true
unfolding legal_case code_in_range past_in_range
legal-if f c l =
    ap₂ ◌&&◌ (ap₂ ◌&&◌ (between-range l.past-inside) (between-range l.code_inside))
    (residual-counted f c.code c.residual ∙ lt-ltb c.residual (residual_count f c.code) l.residual-inside)

-- the past and the code of a legal case, by their offsets
by-past-offset : (f : ℕ) (c : VectorCase) → Legal f c → lowest (pos f) +ℤ pos (past_offset f c) ≡ c.past
by-past-offset f c l = by-offset (lowest (pos f)) c.past l.past-inside.lower

by-code-offset : (f : ℕ) (c : VectorCase) → Legal f c → low_code +ℤ pos (code_offset c) ≡ c.code
by-code-offset f c l = by-offset low_code c.code l.code_inside.lower

past-offset-below : (f : ℕ) (c : VectorCase) → Legal f c → past_offset f c < past_count f
past-offset-below f c l = offset-below (lowest (pos f)) (highest (pos f)) c.past (past_end f) l.past-inside

code-offset-below : (f : ℕ) (c : VectorCase) → Legal f c → code_offset c < code_count
code-offset-below f c l = offset-below low_code (pos 16) c.code refl l.code_inside

-- ---- how many cases come before a code
before-positive : (f n : ℕ) → cases_below_code f (pos (suc n)) ≡ (15 + suc n) * f + 1
unfolding cases_below_code
before-positive f n = rw (lt-ltb 0 (suc n) (omega arith))

-- before the next code there are more cases, as many as the code has residuals
before-next : (f : ℕ) (code : ℤ) → low_code ≤ℤ code → cases_below_code f (code +ℤ pos 1) ≡ cases_below_code f code + residual_count f code
unfolding cases_below_code residual_count
before-next f (pos zero) h = refl
before-next f (pos (suc n)) h =
    rw (add-one (suc n), ne_eqb (suc n) 0 (λ e. omega arith)) (omega (arith, before-positive f n, before-positive f (suc n)))
before-next f (negsuc zero) h = omega arith
before-next f (negsuc (suc n)) h =
    let next : negsuc (suc n) +ℤ pos 1 ≡ negsuc n = same_of _ _ (omega (arith, parts_add (negsuc (suc n)) (pos 1))) in
    let fewer : 16 - suc n ≡ suc (16 - suc (suc n)) = omega (arith, of_le h) in
    ap (cases_below_code f) next ∙ ap (λ (k : ℕ). k * f) fewer ∙ suc-mul (16 - suc (suc n)) f

module _ (f : ℕ) where
  -- ---- the cases of one past and code, by the offsets of past and code
  abbrev past_at : ℕ → ℤ
  past_at i = lowest (pos f) +ℤ pos i

  abbrev code_at : ℕ → ℤ
  code_at j = low_code +ℤ pos j

  abbrev OfPast : ℕ → VectorCase → Type 0
  OfPast i c = (legal_case f c ≡ true) × (past_offset f c ≡ i)

  abbrev OfCode : ℕ → ℕ → VectorCase → Type 0
  OfCode i j c = OfPast i c × (code_offset c ≡ j)

  module _ (i j : ℕ) where
    abbrev count : ℕ
    count = residual_count f (code_at j)

    abbrev case_of : ℕ → VectorCase
    case_of residual = record { past = past_at i; code = code_at j; residual = residual }

    case-is : (c : VectorCase) → OfCode i j c → case_of c.residual ≡ c
    case-is c m =
        let l = legal-known f c m.0.0 in
        let past_is = ap past_at (sym m.0.1) ∙ by-past-offset f c l in
        let code_is = ap code_at (sym m.1) ∙ by-code-offset f c l in
        (λ t. record { past = past_is t; code = code_is t; residual = c.residual })

    below : (c : VectorCase) → OfCode i j c → c.residual < count
    below c m = rw (ap (λ (c : VectorCase). c.code) (case-is c m)) (legal-known f c m.0.0).residual-inside

    belongs : (residual : ℕ) → i < past_count f → j < code_count → residual < count → OfCode i j (case_of residual)
    belongs residual h g below =
        let legal : Legal f (case_of residual) = record {
          past-inside = offset-inside (lowest (pos f)) (highest (pos f)) i (past_end f) h;
          code_inside = offset-inside low_code (pos 16) j refl g;
          residual-inside = below;
        } in
        ((legal-if f (case_of residual) legal, offset-back (lowest (pos f)) i), offset-back low_code j)

    inside : (k : ℕ) → k < length (tab count case_of) → k < count
    inside k h = omega (arith, tab-length count case_of)

    of_code : i < past_count f → j < code_count → Enumerates (OfCode i j) (λ c. c.residual) (cases_of_code f (past_at i) (code_at j))
    unfolding cases_of_code
    of_code h g = record {
      member = λ k d l. rw (tab-at count case_of k d (inside k l)) (belongs k h g (inside k l));
      index_back = λ k d l. rw (tab-at count case_of k d (inside k l));
      inside = λ c m. omega (arith, tab-length count case_of, below c m);
      member_back = λ c d m. tab-at count case_of c.residual d (below c m) ∙ case-is c m;
    }

  -- ---- the cases of one past
  abbrev code_block : ℤ → ℕ → List VectorCase
  code_block past j = cases_of_code f past (code_at j)

  code-long : (past code : ℤ) → length (cases_of_code f past code) ≡ residual_count f code
  unfolding cases_of_code
  code-long past code = tab-length (residual_count f code) _

  before-code : (past : ℤ) (j : ℕ) → length (blocks (code_block past) j) ≡ cases_below_code f (code_at j)
  unfolding cases_below_code blocks
  before-code past zero = omega arith
  before-code past (suc j) =
      let next : code_at j +ℤ pos 1 ≡ code_at (suc j) = same_of _ _ (omega (arith, parts_add low_code (pos j), parts_add (code_at j) (pos 1), parts_add low_code (pos (suc j)))) in
      length_more (code_block past) j
      ∙ ap₂ ◌+◌ (before-code past j) (code-long past (code_at j))
      ∙ sym (before-next f (code_at j) (le_of low_code (code_at j) (omega (arith, parts_add low_code (pos j)))))
      ∙ ap (cases_below_code f) next

  before-case : (past : ℤ) (c : VectorCase) → Legal f c → length (blocks (code_block past) (code_offset c)) ≡ cases_below_code f c.code
  before-case past c l = before-code past (code_offset c) ∙ ap (cases_below_code f) (by-code-offset f c l)

  past-blocks : (past : ℤ) → cases_of_past f past ≡ blocks (code_block past) code_count
  unfolding cases_of_past
  past-blocks past = joined-tab (cases_of_code f past) code_count code_at

  past-long : (past : ℤ) → length (cases_of_past f past) ≡ 32 * f + 1
  unfolding cases_below_code
  past-long past = ap length (past-blocks past) ∙ before-code past code_count

  -- a case's index among those of its past
  abbrev within_past : VectorCase → ℕ
  within_past c = cases_below_code f c.code + c.residual

  of-past : (i : ℕ) → i < past_count f → Enumerates (OfPast i) within_past (cases_of_past f (past_at i))
  of-past i h = rw (past-blocks (past_at i)) (enumerates-by
      (λ c m. ap (λ (n : ℕ). n + c.residual) (before-case (past_at i) c (legal-known f c m.0)))
      (enumerates-blocks (code_block (past_at i)) code_count (OfPast i) code_offset (λ c. c.residual)
      (λ c m. code-offset-below f c (legal-known f c m.0)) (λ j g. of_code i j h g)))

  -- ---- all cases
  abbrev past_block : ℕ → List VectorCase
  past_block i = cases_of_past f (past_at i)

  all_blocks_lem : cases_of f ≡ blocks past_block (past_count f)
  unfolding cases_of
  all_blocks_lem = joined-tab (cases_of_past f) (past_count f) past_at

  pasts-long : (i : ℕ) → length (blocks past_block i) ≡ i * (32 * f + 1)
  pasts-long i = blocks-length past_block i (32 * f + 1) (λ k h. past-long (past_at k))

  pub cases-long : length (cases_of f) ≡ 32 * f * (32 * f + 1)
  cases-long = ap length all_blocks_lem ∙ pasts-long (past_count f)

  pub enumerated : Enumerates (λ c. legal_case f c ≡ true) (index_of f) (cases_of f)
  unfolding index_of
  enumerated = rw all_blocks_lem (enumerates-by
      (λ c m. ap (λ (n : ℕ). n + within_past c) (pasts-long (past_offset f c)))
      (enumerates-blocks past_block (past_count f) (λ c. legal_case f c ≡ true) (past_offset f) within_past (λ c m. past-offset-below f c (legal-known f c m)) of-past))

  -- ---- the order
  residual-short : (c : VectorCase) → Legal f c → c.residual < length (code_block (past_at 0) (code_offset c))
  residual-short c l = rw (code-long (past_at 0) (code_at (code_offset c)), by-code-offset f c l) l.residual-inside

  within-short : (c : VectorCase) → legal_case f c ≡ true → within_past c < length (past_block (past_offset f c))
  within-short c m = (of-past (past_offset f c) (past-offset-below f c (legal-known f c m))).inside c (m, refl)

  pub in_order : (a b : VectorCase) → legal_case f a ≡ true → legal_case f b ≡ true → index_of f a < index_of f b → Before a b
  unfolding index_of
  in_order a b ma mb h =
      by-pasts (blocks-order past_block (past_offset f a) (past_offset f b) (within_past a) (within_past b) (within-short a ma) (within-short b mb)
      (rw (pasts-long (past_offset f a), pasts-long (past_offset f b)) h))
    where
      la : Legal f a
      la = legal-known f a ma

      lb : Legal f b
      lb = legal-known f b mb

      by_codes : a.past ≡ b.past → (code_offset a < code_offset b) ⊎ ((code_offset a ≡ code_offset b) × (a.residual < b.residual)) → Before a b
      by_codes same (inl less) = by_code same (offset-less low_code a.code b.code la.code_inside.lower lb.code_inside.lower less)
      by_codes same (inr rest) = by-residual same (offset-same low_code a.code b.code la.code_inside.lower lb.code_inside.lower rest.0) rest.1

      by-pasts : (past_offset f a < past_offset f b) ⊎ ((past_offset f a ≡ past_offset f b) × (within_past a < within_past b)) → Before a b
      by-pasts (inl less) = by-past (offset-less (lowest (pos f)) a.past b.past la.past-inside.lower lb.past-inside.lower less)
      by-pasts (inr rest) =
          by_codes (offset-same (lowest (pos f)) a.past b.past la.past-inside.lower lb.past-inside.lower rest.0)
          (blocks-order (code_block (past_at 0)) (code_offset a) (code_offset b) a.residual b.residual (residual-short a la) (residual-short b lb)
          (rw (before-case (past_at 0) a la, before-case (past_at 0) b lb) rest.1))
