-- Request No. 12: a pair reaches a vector exactly through its difference; the worked vectors are computed. Assumes nothing.
use mathlib.Core.Bool.{Bool, true, false, cond, ◌&&◌}
use mathlib.Core.Logic.{◌⊎◌, inl, inr}
use mathlib.Core.Path.{◌≡◌, refl, sym, ap, subst, ◌∙◌}
use Prim.Native.Nat.{ℕ, ◌-◌, ◌*◌}
use native.Mathlib.Omega.{arith}
use lib.IntN.{ℤ, pos, negsuc, neg_ℤ, ◌+ℤ◌, ◌-ℤ◌}
use Rattle.math.specs.Bound.{Within}
use Rattle.math.proofs.Bound.{within-neg, within-self}
use Rattle.math.proofs.Test.{clash, refuted, both_true, by-test}
use Rattle.refusals.specs.Refusal.{accepted, number_of}
use Rattle.refusals.specs.declared.Refusal.TheVariants.{NumberOutOfRange, VectorUnreachable}
use Rattle.decode_vectors.specs.Vector.{
  f_of,
  vector_difference_of,
  wrapped,
  vector_of,
  code_in_range,
  residual_in_range,
  past_in_range,
  f_code_and_past_in_range,
  vector_entry_in_range,
}
use Rattle.decode_vectors.proofs.VectorLaws.{all_known, code-known, residual-known, past-known, difference-reach, vectors-in-range, factor-least}
use Rattle.decode_vectors.proofs.WrapLaws as Wrap
use Rattle.encode_vectors.specs.Encoding.{motion_code_of, residual_of, needed_difference, vector_reachable, encoded_number, encoded_code, encoded_residual}
use Rattle.encode_vectors.proofs.PairLaws as Pair
use Rattle.encode_vectors.proofs.ReachLaws as Reach
use Rattle.theorems.specs.Request12.{
  Reaches,
  ReadsBack,
  OnlyPair,
  ExactlyTwo,
  NoPairReaches,
  ExactlyUnreachable,
  ZerosWith33,
  ZeroOr33,
  AcceptedInRange,
  OneBijection,
  WorkedVectors,
}

pub one-bijection : OneBijection
one-bijection f h = record {
  pair = λ code residual c r. let back = Pair.pair-of-difference f code residual h r in record {
    most = (difference-reach f residual code (code-known code c) (residual-known f code residual h r)).within;
    code-back = back.code_is;
    residual-back = back.residual-is;
  };
  difference = λ difference k. record {
    code-legal = Pair.code-legal f difference h (record { within = k });
    residual-legal = Pair.residual-legal f difference h;
    back = Pair.difference-of-pair f difference;
  };
}

-- ---- the pair of a difference reaches what the difference reads as
reaches : (f_code : ℕ) (past wanted difference : ℤ) → f_code_and_past_in_range f_code past ≡ true → Within (16 * f_of f_code) difference
    → wrapped (pos (f_of f_code)) (past +ℤ difference) ≡ wanted → Reaches f_code past wanted (motion_code_of (f_of f_code) difference) (residual_of (f_of f_code) difference)
unfolding vector_entry_in_range vector_of
reaches f_code past wanted difference of-past most e =
    let f = f_of f_code in
    let least = factor-least f_code in
    let legal : vector_entry_in_range f_code past (motion_code_of f difference) (residual_of f difference) ≡ true =
    (λ i. of-past i && Pair.code-legal f difference least most i && Pair.residual-legal f difference least i) in
    record {
      legal = rw legal;
      reads = rw legal (ap (λ (z : ℤ). wrapped (pos f) (past +ℤ z)) (Pair.difference-of-pair f difference) ∙ e);
    }

record Read (f_code : ℕ) (past wanted code : ℤ) (residual : ℕ) : Type 0 where
  entry : vector_entry_in_range f_code past code residual ≡ true
  vector : vector_of (f_of f_code) past code residual ≡ wanted

read : (f_code : ℕ) (past wanted code : ℤ) (residual : ℕ) → Reaches f_code past wanted code residual → Read f_code past wanted code residual
read f_code past wanted code residual reach = go (vector_entry_in_range f_code past code residual) refl reach.legal reach.reads
  where
    go : (t : Bool) → vector_entry_in_range f_code past code residual ≡ t → cond t accepted (number_of NumberOutOfRange) ≡ accepted
        → cond t (vector_of (f_of f_code) past code residual) (pos 0) ≡ wanted → Read f_code past wanted code residual
    go true entry n v = record { entry = entry; vector = v }
    go false entry n v = absurd (omega arith)

wanted-inside : (f_code : ℕ) (past wanted code : ℤ) (residual : ℕ) → Reaches f_code past wanted code residual → past_in_range (f_of f_code) wanted ≡ true
wanted-inside f_code past wanted code residual reach =
    let r = read f_code past wanted code residual reach in
    ap (past_in_range (f_of f_code)) (sym r.vector) ∙ vectors-in-range f_code past code residual r.entry

-- ---- the test
reachable : (f_code : ℕ) (past wanted : ℤ) → encoded_number f_code past wanted ≡ accepted → vector_reachable f_code past wanted ≡ true
reachable f_code past wanted = go (vector_reachable f_code past wanted)
  where
    go : (t : Bool) → cond t accepted (number_of VectorUnreachable) ≡ accepted → t ≡ true
    go true e = refl
    go false e = absurd (omega arith)

unreachable : (f_code : ℕ) (past wanted : ℤ) → encoded_number f_code past wanted ≡ number_of VectorUnreachable → vector_reachable f_code past wanted ≡ false
unreachable f_code past wanted = go (vector_reachable f_code past wanted)
  where
    go : (t : Bool) → cond t accepted (number_of VectorUnreachable) ≡ number_of VectorUnreachable → t ≡ false
    go true e = absurd (omega arith)
    go false e = refl

-- ---- the theorems
needed-reaches : (f_code : ℕ) (past wanted : ℤ) → vector_reachable f_code past wanted ≡ true → Reaches f_code past wanted (encoded_code f_code past wanted) (encoded_residual f_code past wanted)
needed-reaches f_code past wanted y =
    let f = f_of f_code in
    let known = Reach.reach-known f_code past wanted y in
    let most = Reach.needed-most f (needed_difference (pos f) past wanted) (Reach.needed-range f past wanted known.of-past.range known.wanted-range) in
    rw y (reaches f_code past wanted (needed_difference (pos f) past wanted) (Reach.both-in-range f_code past wanted y).0 most (Reach.needed-reads f past wanted known.wanted-range))

pub reads-back : ReadsBack
reads-back f_code past wanted e = needed-reaches f_code past wanted (reachable f_code past wanted e)

pub zero-or-33 : ZeroOr33
zero-or-33 f_code past wanted = by-test (λ n. (n ≡ accepted) ⊎ (n ≡ number_of VectorUnreachable)) (vector_reachable f_code past wanted) accepted (number_of VectorUnreachable) (λ _. inl refl) (λ _. inr refl)

pub accepted-in-range : AcceptedInRange
accepted-in-range f_code past wanted = (
  λ e. Reach.both-in-range f_code past wanted (reachable f_code past wanted e),
  λ both. rw (Reach.reachable-if f_code past wanted both.0 both.1),
)

pub exactly-unreachable : ExactlyUnreachable
exactly-unreachable f_code past wanted = (
  λ e. why (f_code_and_past_in_range f_code past) refl (unreachable f_code past wanted e),
  λ reason. elim reason [ inl a ↦ rw (refuted (λ y. clash (Reach.both-in-range f_code past wanted y).0 a)) | inr none ↦ rw (refuted (λ y. none _ _ (needed-reaches f_code past wanted y))) ],
)
  where
    why : (t : Bool) → f_code_and_past_in_range f_code past ≡ t → vector_reachable f_code past wanted ≡ false → (f_code_and_past_in_range f_code past ≡ false) ⊎ NoPairReaches f_code past wanted
    why true a n = inr (λ code residual reach. clash (Reach.reachable-if f_code past wanted a (wanted-inside f_code past wanted code residual reach)) n)
    why false a n = inl a

pub zeros-with-33 : ZerosWith33
zeros-with-33 f_code past wanted e = let n = unreachable f_code past wanted e in (rw n, rw n)

-- a pair that reaches wanted has a difference that reads as wanted
record Reaching (f_code : ℕ) (past wanted code : ℤ) (residual : ℕ) : Type 0 where
  pair_is : Pair.PairIs (f_of f_code) (vector_difference_of (pos (f_of f_code)) code (pos residual)) code residual
  difference : Reach.ReachingDifference (f_of f_code) past wanted (vector_difference_of (pos (f_of f_code)) code (pos residual))
  reached : vector_reachable f_code past wanted ≡ true

reaching : (f_code : ℕ) (past wanted code : ℤ) (residual : ℕ) → Reaches f_code past wanted code residual → Reaching f_code past wanted code residual
unfolding vector_entry_in_range vector_of
reaching f_code past wanted code residual reach =
    let f = f_of f_code in
    let r = read f_code past wanted code residual reach in
    let known = all_known f_code past code residual r.entry in
    let tests = both_true (f_code_and_past_in_range f_code past && code_in_range code) (residual_in_range f code residual) r.entry in
    let inside = wanted-inside f_code past wanted code residual reach in
    record {
      pair_is = Pair.pair-of-difference f code residual (factor-least f_code) tests.1;
      difference =
          Reach.reaching-difference f past wanted (vector_difference_of (pos f) code (pos residual)) known.of-past.range (past-known f wanted inside)
          (difference-reach f residual code known.code-size known.residual-size) r.vector;
      reached = Reach.reachable-if f_code past wanted (both_true (f_code_and_past_in_range f_code past) (code_in_range code) tests.0).0 inside;
    }

-- pairs of equal differences are equal
same_code_lem : {f : ℕ} {one other code : ℤ} {residual : ℕ} → Pair.PairIs f one code residual → one ≡ other → code ≡ motion_code_of f other
same_code_lem {f} p e = sym p.code_is ∙ ap (motion_code_of f) e

same-residual : {f : ℕ} {one other code : ℤ} {residual : ℕ} → Pair.PairIs f one code residual → one ≡ other → residual ≡ residual_of f other
same-residual {f} p e = sym p.residual-is ∙ ap (residual_of f) e

pub only-pair : OnlyPair
only-pair f_code past wanted code residual reach apart =
    let r = reaching f_code past wanted code residual reach in
    let both = Reach.both-in-range f_code past wanted r.reached in
    elim r.difference [
      | Reach.needed e ↦ rw r.reached (same_code_lem r.pair_is e, same-residual r.pair_is e)
      | Reach.minus-16f e a ↦ absurd (apart (record { past-in-range = both.0; wanted-in-range = both.1; apart = a }))
    ]

pub exactly-two : ExactlyTwo
exactly-two f_code past wanted d = record {
  positive = both-are given.0 given.1 (needed-reaches f_code past wanted y);
  negative = both-are minus.code_is minus.residual-is (reaches f_code past wanted (neg_ℤ (pos (16 * f))) d.past-in-range minus-most minus-reads);
  no_other = λ code residual reach. let r = reaching f_code past wanted code residual reach in other r.pair_is r.difference;
  given = given;
}
  where
    f : ℕ
    f = f_of f_code

    plus : Pair.PairIs f (pos (16 * f)) (pos 16) (f - 1)
    plus = Pair.pair-16f f (factor-least f_code)

    minus : Pair.PairIs f (neg_ℤ (pos (16 * f))) (negsuc 15) (f - 1)
    minus = Pair.pair-minus-16f f (factor-least f_code)

    y : vector_reachable f_code past wanted ≡ true
    y = Reach.reachable-if f_code past wanted d.past-in-range d.wanted-in-range

    needed : needed_difference (pos f) past wanted ≡ pos (16 * f)
    needed = Reach.needed-16f f past wanted (factor-least f_code) d.apart

    given : (encoded_code f_code past wanted ≡ pos 16) × (encoded_residual f_code past wanted ≡ f - 1)
    given = rw y (ap (motion_code_of f) needed ∙ plus.code_is, ap (residual_of f) needed ∙ plus.residual-is)

    both-are : {code other : ℤ} {residual last : ℕ} → code ≡ other → residual ≡ last → Reaches f_code past wanted code residual → Reaches f_code past wanted other last
    both-are {code} {other} {residual} {last} c r reach = subst (λ (n : ℕ). Reaches f_code past wanted other n) r (subst (λ (z : ℤ). Reaches f_code past wanted z residual) c reach)

    minus-most : Within (16 * f) (neg_ℤ (pos (16 * f)))
    minus-most = within-neg (within-self (pos (16 * f)))

    minus-reads : wrapped (pos f) (past -ℤ pos (16 * f)) ≡ wanted
    minus-reads =
        let known = Reach.reach-known f_code past wanted y in
        Wrap.ends-meet f past known.of-past.range
        ∙ ap (λ (z : ℤ). wrapped (pos f) (past +ℤ z)) (sym needed)
        ∙ Reach.needed-reads f past wanted known.wanted-range

    other : {difference code : ℤ} {residual : ℕ} → Pair.PairIs f difference code residual → Reach.ReachingDifference f past wanted difference
        → ((code ≡ pos 16) ⊎ (code ≡ negsuc 15)) × (residual ≡ f - 1)
    other p (Reach.needed e) = (inl (same_code_lem p (e ∙ needed) ∙ plus.code_is), same-residual p (e ∙ needed) ∙ plus.residual-is)
    other p (Reach.minus-16f e a) = (inr (same_code_lem p e ∙ minus.code_is), same-residual p e ∙ minus.residual-is)

-- ---- the worked vectors
pub worked-vectors : WorkedVectors
unfolding motion_code_of residual_of needed_difference vector_reachable f_code_and_past_in_range past_in_range code_in_range residual_in_range vector_entry_in_range vector_of wrapped vector_difference_of
worked-vectors = record {
  above-highest = record { number_is = refl; code_is = refl; residual-is = refl };
  below-lowest = record { number_is = refl; code_is = refl; residual-is = refl };
  same = record { number_is = refl; code_is = refl; residual-is = refl };
  with-residual = record { number_is = refl; code_is = refl; residual-is = refl };
  negative = record { number_is = refl; code_is = refl; residual-is = refl };
  sixteen-down = record { number_is = refl; code_is = refl; residual-is = refl };
  sixteen-up = record { number_is = refl; code_is = refl; residual-is = refl };
  other-pair = record { legal = refl; reads = refl };
  wanted-16 = record { number_is = refl; code_is = refl; residual-is = refl };
  wanted-32f-on = record { number_is = refl; code_is = refl; residual-is = refl };
  past-16 = record { number_is = refl; code_is = refl; residual-is = refl };
  f-code-0 = record { number_is = refl; code_is = refl; residual-is = refl };
  f-code-8 = record { number_is = refl; code_is = refl; residual-is = refl };
  extremes = record { number_is = refl; code_is = refl; residual-is = refl };
}
