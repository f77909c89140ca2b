-- What reading reaches from a past: exactly the vectors in -16f..16f-1, each by its needed difference alone, except that -16f does what 16f does.
-- Assumes nothing.
use mathlib.Core.Path.{◌≡◌, refl, sym, ap, ap₂, ◌∙◌, subst}
use mathlib.Core.Bool.{true, ◌&&◌}
use mathlib.Core.List.{List, [], ◌∷◌}
use Prim.Native.Nat.{ℕ, ◌+◌, ◌*◌, ◌^◌, ◌≤◌, ◌<◌}
use native.Mathlib.Decide.{ℕ_discrete}
use native.Mathlib.Omega.{arith}
use lib.IntN.{ℤ, pos, negsuc, neg_ℤ, nat_abs, ◌+ℤ◌, ◌-ℤ◌, ◌*ℤ◌}
use lib.Signed.{lt_z}
use Rattle.math.specs.Bound.{Within}
use Rattle.math.proofs.Bound.{abs-parts, abs-le, within-add, within-mul, within-neg, within-literal, within_more, within-cond}
use Rattle.math.proofs.Compare.{tests}
use Rattle.math.proofs.Difference.{up, dn, of_le, same_of, parts_add, parts-neg}
use Rattle.math.proofs.Machine.{neg-abs}
use Rattle.math.proofs.Solve.{solve-by, constant, ◌:+◌, ◌:-◌, ◌:*◌, X0, X1, X2}
use Rattle.math.proofs.Test.{both_true, by-test}
use Rattle.decode_vectors.specs.Vector.{f_of, max_f, max_past, wrapped, past_in_range, f_code_and_past_in_range}
use Rattle.decode_vectors.proofs.VectorLaws.{PastInRange, f-code-and-past-known, past-known}
use Rattle.decode_vectors.proofs.WrapLaws.{Inside, Strictly, lowest-parts, highest-parts, raised, lowered, wrapped_same, wrapped-above, wrapped-below, Moved, up-32f, down-32f, unmoved, moved}
use Rattle.encode_vectors.specs.Encoding.{needed_difference, vector_reachable}

-- ---- the test
pub both-in-range : (f_code : ℕ) (past wanted : ℤ) → vector_reachable f_code past wanted ≡ true → (f_code_and_past_in_range f_code past ≡ true) × (past_in_range (f_of f_code) wanted ≡ true)
unfolding vector_reachable
both-in-range f_code past wanted = both_true (f_code_and_past_in_range f_code past) (past_in_range (f_of f_code) wanted)

pub reachable-if : (f_code : ℕ) (past wanted : ℤ) → f_code_and_past_in_range f_code past ≡ true → past_in_range (f_of f_code) wanted ≡ true → vector_reachable f_code past wanted ≡ true
unfolding vector_reachable
reachable-if f_code past wanted a b = ap₂ ◌&&◌ a b

pub record InReach (f_code : ℕ) (past wanted : ℤ) : Type 0 where
  pub of-past : PastInRange f_code past
  pub wanted-range : Inside (f_of f_code) wanted

pub reach-known : (f_code : ℕ) (past wanted : ℤ) → vector_reachable f_code past wanted ≡ true → InReach f_code past wanted
reach-known f_code past wanted e =
    let both = both-in-range f_code past wanted e in
    record { of-past = f-code-and-past-known f_code past both.0; wanted-range = past-known (f_of f_code) wanted both.1 }

-- a bound for the machine's arithmetic; `needed-most` has the exact one
pub needed-within : {f past wanted : ℤ} → Within max_f f → Within max_past past → Within max_past wanted → Within (2 ^ 12) (needed_difference f past wanted)
unfolding needed_difference
needed-within {f} {past} {wanted} p q r =
    let between = within-add r (within-neg q) in
    let step = within-mul (within-literal {b = 32} {x = pos 32} tt) p in
    within-cond (lt_z (wanted -ℤ past) (pos 1 -ℤ pos 16 *ℤ f)) (within-add between step)
    (within-cond (lt_z (pos 16 *ℤ f) (wanted -ℤ past)) (within-add between (within-neg step)) (within_more between (omega arith)))

-- ---- reading the needed difference gives the wanted vector
pub needed-reads : (f : ℕ) (past wanted : ℤ) → Inside f wanted → wrapped (pos f) (past +ℤ needed_difference (pos f) past wanted) ≡ wanted
unfolding needed_difference
needed-reads f past wanted range =
    by-test Reads (lt_z (wanted -ℤ past) (pos 1 -ℤ pos 16 *ℤ pos f)) _ _
    (λ _. ap (wrapped (pos f)) (solve-by vars (X0 :+ (X1 :- X0 :+ constant (pos 32) :* X2)) (X1 :+ constant (pos 32) :* X2) refl) ∙ wrapped-above f wanted range)
    (λ _. by-test Reads (lt_z (pos 16 *ℤ pos f) (wanted -ℤ past)) _ _
    (λ _. ap (wrapped (pos f)) (solve-by vars (X0 :+ (X1 :- X0 :- constant (pos 32) :* X2)) (X1 :- constant (pos 32) :* X2) refl) ∙ wrapped-below f wanted range)
    (λ _. ap (wrapped (pos f)) (solve-by vars (X0 :+ (X1 :- X0)) X1 refl) ∙ wrapped_same f wanted range))
  where
    vars : List ℤ
    vars = past ∷ wanted ∷ pos f ∷ []

    Reads : ℤ → Type 0
    Reads difference = wrapped (pos f) (past +ℤ difference) ≡ wanted

-- ---- the needed difference is in -16f+1..16f
abbrev pub Needed : ℕ → ℤ → Type 0
Needed f difference = Strictly (16 * f) (16 * f + 1) difference

pub needed-most : (f : ℕ) (difference : ℤ) → Needed f difference → Within (16 * f) difference
needed-most f difference p = record { within = abs-le difference (omega (arith, p)) (omega (arith, p)) }

-- wanted - past is in -32f+1..32f-1
apart : (f : ℕ) (past wanted : ℤ) → Inside f past → Inside f wanted → Strictly (32 * f) (32 * f) (wanted -ℤ past)
apart f past wanted from to = record {
  lower = omega (arith, parts_add wanted (neg_ℤ past), parts-neg past, of_le from.upper, of_le to.lower, lowest-parts f, highest-parts f);
  upper = omega (arith, parts_add wanted (neg_ℤ past), parts-neg past, of_le from.lower, of_le to.upper, lowest-parts f, highest-parts f);
}

low_parts : (f : ℕ) → up (pos 1 -ℤ pos 16 *ℤ pos f) + 16 * f ≡ 1 + dn (pos 1 -ℤ pos 16 *ℤ pos f)
low_parts f = omega (arith, parts_add (pos 1) (neg_ℤ (pos 16 *ℤ pos f)), parts-neg (pos 16 *ℤ pos f))

pub needed-range : (f : ℕ) (past wanted : ℤ) → Inside f past → Inside f wanted → Needed f (needed_difference (pos f) past wanted)
unfolding needed_difference
needed-range f past wanted from to =
    let between = wanted -ℤ past in
    let ends = apart f past wanted from to in
    by-test (Needed f) (lt_z between (pos 1 -ℤ pos 16 *ℤ pos f)) _ _
    (λ low. record { lower = omega (arith, ends, raised f between); upper = omega (arith, tests, low_parts f, raised f between) })
    (λ low. by-test (Needed f) (lt_z (pos 16 *ℤ pos f) between) _ _
    (λ high. record { lower = omega (arith, tests, lowered f between); upper = omega (arith, ends, lowered f between) })
    (λ high. record { lower = omega (arith, tests, low_parts f); upper = omega (arith, tests) }))

-- ---- in that range only one difference reads as a vector
difference-only : (f : ℕ) (past a b : ℤ) → Needed f a → Needed f b → wrapped (pos f) (past +ℤ a) ≡ wrapped (pos f) (past +ℤ b) → a ≡ b
difference-only f past a b p q e = go (moved f (past +ℤ a)) (subst (Moved f (past +ℤ b)) (sym e) (moved f (past +ℤ b)))
  where
    vector : ℤ
    vector = wrapped (pos f) (past +ℤ a)

    go : Moved f (past +ℤ a) vector → Moved f (past +ℤ b) vector → a ≡ b
    go (up-32f h) (up-32f k) = same_of a b (omega (arith, parts_add past a, parts_add past b))
    go (up-32f h) (down-32f k) = absurd (omega (arith, p, q, parts_add past a, parts_add past b))
    go (up-32f h) (unmoved k) = absurd (omega (arith, p, q, parts_add past a, parts_add past b))
    go (down-32f h) (up-32f k) = absurd (omega (arith, p, q, parts_add past a, parts_add past b))
    go (down-32f h) (down-32f k) = same_of a b (omega (arith, parts_add past a, parts_add past b))
    go (down-32f h) (unmoved k) = absurd (omega (arith, p, q, parts_add past a, parts_add past b))
    go (unmoved h) (up-32f k) = absurd (omega (arith, p, q, parts_add past a, parts_add past b))
    go (unmoved h) (down-32f k) = absurd (omega (arith, p, q, parts_add past a, parts_add past b))
    go (unmoved h) (unmoved k) = same_of a b (omega (arith, parts_add past a, parts_add past b))

-- ---- a difference of -16f reads as 16f does (`ends-meet`), and wanted and past then differ by 16f
minus-16f-apart : (f : ℕ) (past wanted : ℤ) → Inside f past → Inside f wanted → wrapped (pos f) (past -ℤ pos (16 * f)) ≡ wanted → nat_abs (wanted -ℤ past) ≡ 16 * f
minus-16f-apart f past wanted from to e = go (subst (Moved f (past -ℤ pos (16 * f))) e (moved f (past -ℤ pos (16 * f))))
  where
    between : ℤ
    between = wanted -ℤ past

    go : Moved f (past -ℤ pos (16 * f)) wanted → nat_abs between ≡ 16 * f
    go (up-32f h) = ap nat_abs (same_of between (pos (16 * f)) (omega (arith, parts_add wanted (neg_ℤ past), parts-neg past, parts_add past (neg_ℤ (pos (16 * f))), parts-neg (pos (16 * f)))))
    go (down-32f h) = absurd (omega (arith, apart f past wanted from to, parts_add wanted (neg_ℤ past), parts-neg past, parts_add past (neg_ℤ (pos (16 * f))), parts-neg (pos (16 * f))))
    go (unmoved h) =
        ap nat_abs (same_of between (neg_ℤ (pos (16 * f))) (omega (arith, parts_add wanted (neg_ℤ past), parts-neg past, parts_add past (neg_ℤ (pos (16 * f))), parts-neg (pos (16 * f)))))
        ∙ neg-abs (16 * f)

-- and the difference that is needed is 16f
pub needed-16f : (f : ℕ) (past wanted : ℤ) → 1 ≤ f → nat_abs (wanted -ℤ past) ≡ 16 * f → needed_difference (pos f) past wanted ≡ pos (16 * f)
unfolding needed_difference
needed-16f f past wanted h e =
    by-test (λ x. x ≡ pos (16 * f)) (lt_z between (pos 1 -ℤ pos 16 *ℤ pos f)) _ _
    (λ low. same_of (between +ℤ pos 32 *ℤ pos f) (pos (16 * f)) (omega (arith, tests, abs-parts between, low_parts f, raised f between)))
    (λ low. by-test (λ x. x ≡ pos (16 * f)) (lt_z (pos 16 *ℤ pos f) between) _ _
    (λ high. absurd (omega (arith, tests, abs-parts between)))
    (λ high. at-end between e (omega (arith, tests, low_parts f))))
  where
    between : ℤ
    between = wanted -ℤ past

    at-end : (z : ℤ) → nat_abs z ≡ 16 * f → dn z < up z + 16 * f → z ≡ pos (16 * f)
    at-end (pos n) e k = ap pos e
    at-end (negsuc n) e k = absurd (omega arith)

-- ---- so a difference of at most 16f that reads as wanted is the needed one, or -16f where wanted and past differ by 16f
pub data ReachingDifference (f : ℕ) (past wanted difference : ℤ) : Type 0 where
  needed : difference ≡ needed_difference (pos f) past wanted → ReachingDifference f past wanted difference
  minus-16f : difference ≡ neg_ℤ (pos (16 * f)) → nat_abs (wanted -ℤ past) ≡ 16 * f → ReachingDifference f past wanted difference

pub reaching-difference : (f : ℕ) (past wanted difference : ℤ) → Inside f past → Inside f wanted → Within (16 * f) difference → wrapped (pos f) (past +ℤ difference) ≡ wanted
    → ReachingDifference f past wanted difference
reaching-difference f past wanted difference from to most e = go (ℕ_discrete (dn difference) (16 * f))
  where
    bounds : up difference + dn difference ≤ 16 * f
    bounds = omega (arith, abs-parts difference, most.within)

    go : Dec (dn difference ≡ 16 * f) → ReachingDifference f past wanted difference
    go (no k) =
        needed (difference-only f past difference (needed_difference (pos f) past wanted)
        (record { lower = omega (arith, bounds); upper = omega (arith, bounds) }) (needed-range f past wanted from to) (e ∙ sym (needed-reads f past wanted to)))
    go (yes k) =
        let minus : difference ≡ neg_ℤ (pos (16 * f)) = same_of difference (neg_ℤ (pos (16 * f))) (omega (arith, bounds, parts-neg (pos (16 * f)))) in
        minus-16f minus (minus-16f-apart f past wanted from to (ap (λ (z : ℤ). wrapped (pos f) (past +ℤ z)) (sym minus) ∙ e))
