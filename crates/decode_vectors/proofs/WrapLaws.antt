-- Laws of the wrap: a sum moves by 32f at most once, into -16f..16f-1, and a vector in that range comes back from sums 32f away. Assumes nothing.
use mathlib.Core.Path.{◌≡◌, refl, sym, ap, ◌∙◌}
use Prim.Native.Nat.{ℕ, ◌+◌, ◌*◌, ◌≤◌, ◌<◌}
use native.Mathlib.Omega.{arith}
use lib.IntN.{ℤ, pos, negsuc, neg_ℤ, ◌+ℤ◌, ◌-ℤ◌, ◌*ℤ◌}
use lib.Signed.{lt_z}
use Rattle.math.specs.Bound.{Within, Between}
use Rattle.math.proofs.Bound.{abs-parts, abs-le, within_more}
use Rattle.math.proofs.Compare.{tests}
use Rattle.math.proofs.Difference.{up, dn, of_le, le_of, same_of, parts_add, parts-neg}
use Rattle.math.proofs.Test.{by-test}
use Rattle.decode_vectors.specs.Vector.{lowest, highest, wrapped}

-- in -16f..16f-1
abbrev pub Inside : ℕ → ℤ → Type 0
Inside f z = Between (lowest (pos f)) (highest (pos f)) z

-- ---- the ends of the range, and a sum moved by 32f, for `omega`
pub lowest-parts : (f : ℕ) → up (lowest (pos f)) + 16 * f ≡ dn (lowest (pos f))
lowest-parts f = omega (arith, parts_add (pos 0) (neg_ℤ (pos 16 *ℤ pos f)), parts-neg (pos 16 *ℤ pos f))

pub highest-parts : (f : ℕ) → up (highest (pos f)) + 1 ≡ 16 * f + dn (highest (pos f))
highest-parts f = omega (arith, parts_add (pos 16 *ℤ pos f) (negsuc 0))

pub raised : (f : ℕ) (sum : ℤ) → up (sum +ℤ pos 32 *ℤ pos f) + dn sum ≡ up sum + 32 * f + dn (sum +ℤ pos 32 *ℤ pos f)
raised f sum = omega (arith, parts_add sum (pos 32 *ℤ pos f))

pub lowered : (f : ℕ) (sum : ℤ) → up (sum -ℤ pos 32 *ℤ pos f) + dn sum + 32 * f ≡ up sum + dn (sum -ℤ pos 32 *ℤ pos f)
lowered f sum = omega (arith, parts_add sum (neg_ℤ (pos 32 *ℤ pos f)), parts-neg (pos 32 *ℤ pos f))

-- ---- a wrapped sum is in range
-- -a < z < b, for `omega`
pub record Strictly (a b : ℕ) (z : ℤ) : Type 0 where
  pub lower : dn z < up z + a
  pub upper : up z < dn z + b

-- a number in range plus at most 16 f lies in -32f..32f-1
pub sum-reach : (f : ℕ) (past move : ℤ) → Inside f past → Within (16 * f) move → Strictly (32 * f + 1) (32 * f) (past +ℤ move)
sum-reach f past move range reach = record {
  lower = omega (arith, of_le range.lower, lowest-parts f, abs-parts move, reach.within, parts_add past move);
  upper = omega (arith, of_le range.upper, highest-parts f, abs-parts move, reach.within, parts_add past move);
}

pub wrapped-reach : (f : ℕ) (sum : ℤ) → Strictly (32 * f + 1) (32 * f) sum → Inside f (wrapped (pos f) sum)
unfolding wrapped
wrapped-reach f sum reach =
    by-test (Inside f) (lt_z sum (lowest (pos f))) (sum +ℤ pos 32 *ℤ pos f) _
    (λ low. record {
      lower = le_of _ _ (omega (arith, tests, reach, lowest-parts f, raised f sum));
      upper = le_of _ _ (omega (arith, tests, reach, lowest-parts f, highest-parts f, raised f sum));
    })
    (λ low. by-test (Inside f) (lt_z (highest (pos f)) sum) (sum -ℤ pos 32 *ℤ pos f) sum
    (λ high. record {
      lower = le_of _ _ (omega (arith, tests, reach, lowest-parts f, highest-parts f, lowered f sum));
      upper = le_of _ _ (omega (arith, tests, reach, highest-parts f, lowered f sum));
    })
    (λ high. record { lower = le_of _ _ (omega (arith, tests)); upper = le_of _ _ (omega (arith, tests)) }))

-- the range as a bound on the absolute value, also for every f up to 64
pub inside-most : (f : ℕ) (z : ℤ) → Inside f z → Within (16 * f) z
inside-most f z range = record {
  within = abs-le z (omega (arith, of_le range.upper, highest-parts f)) (omega (arith, of_le range.lower, lowest-parts f));
}

pub inside-within : (f : ℕ) (z : ℤ) → f ≤ 64 → Inside f z → Within 1024 z
inside-within f z h range = within_more (inside-most f z range) (omega arith)

pub wrapped-within : (f : ℕ) (sum : ℤ) → f ≤ 64 → Within (1024 + 16 * f) sum → Within 1024 (wrapped (pos f) sum)
unfolding wrapped
wrapped-within f sum h p =
    by-test (Within 1024) (lt_z sum (lowest (pos f))) (sum +ℤ pos 32 *ℤ pos f) _
    (λ low. record {
      within = abs-le (sum +ℤ pos 32 *ℤ pos f) (omega (arith, tests, abs-parts sum, p.within, lowest-parts f, raised f sum)) (omega (arith, abs-parts sum, p.within, raised f sum));
    })
    (λ low. by-test (Within 1024) (lt_z (highest (pos f)) sum) (sum -ℤ pos 32 *ℤ pos f) sum
    (λ high. record {
      within = abs-le (sum -ℤ pos 32 *ℤ pos f) (omega (arith, abs-parts sum, p.within, lowered f sum)) (omega (arith, tests, abs-parts sum, p.within, highest-parts f, lowered f sum));
    })
    (λ high. record { within = abs-le sum (omega (arith, tests, highest-parts f)) (omega (arith, tests, lowest-parts f)) }))

-- ---- a vector in range comes back from itself, and from 32 f above and below
pub wrapped_same : (f : ℕ) (z : ℤ) → Inside f z → wrapped (pos f) z ≡ z
unfolding wrapped
wrapped_same f z range =
    by-test (λ x. x ≡ z) (lt_z z (lowest (pos f))) _ _
    (λ low. absurd (omega (arith, tests, of_le range.lower)))
    (λ low. by-test (λ x. x ≡ z) (lt_z (highest (pos f)) z) _ _ (λ high. absurd (omega (arith, tests, of_le range.upper))) (λ high. refl))

pub wrapped-above : (f : ℕ) (z : ℤ) → Inside f z → wrapped (pos f) (z +ℤ pos 32 *ℤ pos f) ≡ z
unfolding wrapped
wrapped-above f z range =
    let sum = z +ℤ pos 32 *ℤ pos f in
    by-test (λ x. x ≡ z) (lt_z sum (lowest (pos f))) _ _
    (λ low. absurd (omega (arith, tests, of_le range.lower, raised f z)))
    (λ low. by-test (λ x. x ≡ z) (lt_z (highest (pos f)) sum) _ _
    (λ high. same_of (sum -ℤ pos 32 *ℤ pos f) z (omega (arith, raised f z, lowered f sum)))
    (λ high. absurd (omega (arith, tests, of_le range.lower, lowest-parts f, highest-parts f, raised f z))))

pub wrapped-below : (f : ℕ) (z : ℤ) → Inside f z → wrapped (pos f) (z -ℤ pos 32 *ℤ pos f) ≡ z
unfolding wrapped
wrapped-below f z range =
    let sum = z -ℤ pos 32 *ℤ pos f in
    by-test (λ x. x ≡ z) (lt_z sum (lowest (pos f))) _ _
    (λ low. same_of (sum +ℤ pos 32 *ℤ pos f) z (omega (arith, lowered f z, raised f sum)))
    (λ low. absurd (omega (arith, tests, of_le range.upper, lowest-parts f, highest-parts f, lowered f z)))

-- ---- a wrapped sum is the sum, or 32 f more or less
pub data Moved (f : ℕ) (sum : ℤ) (vector : ℤ) : Type 0 where
  up-32f : up vector + dn sum ≡ up sum + 32 * f + dn vector → Moved f sum vector
  down-32f : up vector + dn sum + 32 * f ≡ up sum + dn vector → Moved f sum vector
  unmoved : up vector + dn sum ≡ up sum + dn vector → Moved f sum vector

pub moved : (f : ℕ) (sum : ℤ) → Moved f sum (wrapped (pos f) sum)
unfolding wrapped
moved f sum =
    by-test (Moved f sum) (lt_z sum (lowest (pos f))) _ _
    (λ low. up-32f (raised f sum))
    (λ low. by-test (Moved f sum) (lt_z (highest (pos f)) sum) _ _ (λ high. down-32f (lowered f sum)) (λ high. unmoved refl))

-- ---- from a vector in range, the sums 16f below and above wrap to the same
pub ends-meet : (f : ℕ) (past : ℤ) → Inside f past → wrapped (pos f) (past -ℤ pos (16 * f)) ≡ wrapped (pos f) (past +ℤ pos (16 * f))
unfolding wrapped
ends-meet f past range =
    by-test (λ x. x ≡ wrapped (pos f) above) (lt_z below (lowest (pos f))) _ _
    (λ low.
    let inside : Inside f above = record { lower = le_of _ _ (omega (arith, over, of_le range.lower, lowest-parts f)); upper = le_of _ _ (omega (arith, tests, over, under, lowest-parts f, highest-parts f)) } in
    same_of (below +ℤ pos 32 *ℤ pos f) above (omega (arith, over, under, raised f below)) ∙ sym (wrapped_same f above inside))
    (λ low. by-test (λ x. x ≡ wrapped (pos f) above) (lt_z (highest (pos f)) below) _ _
    (λ high. absurd (omega (arith, tests, under, of_le range.upper)))
    (λ high.
    let inside : Inside f below = record { lower = le_of _ _ (omega (arith, tests)); upper = le_of _ _ (omega (arith, tests)) } in
    sym (wrapped-above f below inside) ∙ ap (wrapped (pos f)) (same_of (below +ℤ pos 32 *ℤ pos f) above (omega (arith, over, under, raised f below)))))
  where
    above : ℤ
    above = past +ℤ pos (16 * f)

    below : ℤ
    below = past -ℤ pos (16 * f)

    over : up above + dn past ≡ up past + 16 * f + dn above
    over = omega (arith, parts_add past (pos (16 * f)))

    under : up below + dn past + 16 * f ≡ up past + dn below
    under = omega (arith, parts_add past (neg_ℤ (pos (16 * f))), parts-neg (pos (16 * f)))
