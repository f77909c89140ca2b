-- What holds for a pair that was read, and how pairs are parsed one by one, up to the first that is refused. Assumes nothing.
use mathlib.Core.Path.{◌≡◌, refl, ap}
use mathlib.Core.Bool.{true, not}
use mathlib.Core.List.{List, [], ◌∷◌}
use Prim.Native.Nat.{ℕ, zero, suc, ◌+◌, ◌-◌, ◌<◌, ◌≤◌}
use native.Mathlib.Numerals.{sub-one}
use native.Mathlib.Omega.{arith}
use borrow.Author.Tests.{leb-true}
use lib.Dec.{leb}
use lib.ListN.{take}
use lib.IntN.{ℤ, pos, negsuc}
use Rattle.math.specs.Bound.{Within}
use Rattle.math.specs.Each.{Each}
use Rattle.math.specs.Limit.{in_range, eq_z}
use Rattle.math.proofs.Bound.{within-literal}
use Rattle.math.proofs.Limit.{range-between, between-within}
use Rattle.refusals.specs.declared.Refusal.{Refusal}
use Rattle.refusals.specs.declared.Refusal.TheVariants.{Coefficient}
use Rattle.symbols.specs.Parsed.{Parsed, parsed, refused, bind, ◌then◌, give}
use Rattle.symbols.specs.declared.pair.Pair.{Pair}
use Rattle.symbols.specs.Pair.{last_position, pair_position, after_pair}
use Rattle.symbols.proofs.Guard.{both}
use Rattle.symbols.proofs.Parsed.{All, here, none, all_then, all-require, all_any}
use Rattle.decode_coefficients.specs.Block.{positioned_levels}
use Rattle.format3_records.specs.Field.{byte, signed_two_bytes}
use Rattle.format3_macroblock.specs.Pairs.{legal_level, pair_of, pairs_of, followed_by, pairs_before_refusal}

pub level-within : (level : ℤ) → legal_level level ≡ true → Within 255 level
unfolding legal_level
level-within level e =
    between-within (range-between (negsuc 254) (pos 255) level (both (in_range (negsuc 254) (pos 255) level) (not (eq_z level (pos 0))) e).0) (within-literal tt) (within-literal tt)

-- a pair that was read lands inside the block, and its level is in range
pub record Legal (next : ℕ) (p : Pair) : Type 0 where
  pub low : pair_position next p ≤ 63
  pub small : Within 255 p.level

pub pair-legal : (next : ℕ) (bytes : List ℕ) → All (λ p rest. Legal next p) (pair_of next bytes)
unfolding pair_of
pair-legal next bytes =
    all_then (all_any (byte bytes)) λ run rest u.
    all-require (leb (next + run) 63) Coefficient _ rest λ low.
    all_then (all_any (signed_two_bytes rest)) λ level end v.
    all-require (legal_level level) Coefficient _ end λ small.
    here (record { low = leb-true (next + run) 63 low; small = level-within level small })

-- ---- one step of the definition
pub none_left : (n next : ℕ) (bytes : List ℕ) → n ≤ 0 → pairs_of n next bytes ≡ parsed [] bytes
unfolding pairs_of
none_left zero next bytes h = refl
none_left (suc n) next bytes h = absurd (omega arith)

pub one-refused : (n next : ℕ) (bytes : List ℕ) {refusal : Refusal} → 0 < n → pair_of next bytes ≡ refused refusal → pairs_of n next bytes ≡ refused refusal
unfolding pairs_of
one-refused zero next bytes h e = absurd (omega arith)
one-refused (suc n) next bytes h e = rw e

pub one-read : (n next : ℕ) (bytes : List ℕ) {pair : Pair} {rest : List ℕ} → 0 < n → pair_of next bytes ≡ parsed pair rest
    → pairs_of n next bytes ≡ bind (pairs_of (n - 1) (after_pair next pair) rest) (λ pairs. give (pair ∷ pairs))
unfolding pairs_of
one-read zero next bytes h e = absurd (omega arith)
one-read (suc n) next bytes h e = rw (e, sub-one)

-- ---- one step in the definition of the pairs before the first one that is refused
pub none_before : (n next : ℕ) (bytes : List ℕ) → n ≤ 0 → pairs_before_refusal n next bytes ≡ []
unfolding pairs_before_refusal
none_before zero next bytes h = refl
none_before (suc n) next bytes h = absurd (omega arith)

pub none-before-refused : (n next : ℕ) (bytes : List ℕ) {refusal : Refusal} → pair_of next bytes ≡ refused refusal → pairs_before_refusal n next bytes ≡ []
unfolding pairs_before_refusal
none-before-refused zero next bytes e = refl
none-before-refused (suc n) next bytes e = rw e

pub one-before : (n next : ℕ) (bytes : List ℕ) {pair : Pair} {rest : List ℕ} → 0 < n → pair_of next bytes ≡ parsed pair rest
    → pairs_before_refusal n next bytes ≡ pair ∷ pairs_before_refusal (n - 1) (after_pair next pair) rest
unfolding pairs_before_refusal
one-before zero next bytes h e = absurd (omega arith)
one-before (suc n) next bytes h e = rw (e, sub-one)

-- ---- these pairs: all of them land inside the block, fewer are their first ones, and if none is refused they are all pairs
pub before-inside : (n next : ℕ) (bytes : List ℕ) → Each (λ p. p.position ≤ last_position) (positioned_levels next (pairs_before_refusal n next bytes))
unfolding pairs_before_refusal positioned_levels
before-inside zero next bytes = tt
before-inside (suc n) next bytes = go (pair_of next bytes) (pair-legal next bytes) (λ pair rest. before-inside n (after_pair next pair) rest)
  where
    go : (found : Parsed Pair) → All (λ p rest. Legal next p) found
        → ((pair : Pair) (rest : List ℕ) → Each (λ p. p.position ≤ last_position) (positioned_levels (after_pair next pair) (pairs_before_refusal n (after_pair next pair) rest)))
        → Each (λ p. p.position ≤ last_position) (positioned_levels next (followed_by found (λ pair rest. pairs_before_refusal n (after_pair next pair) rest)))
    go (parsed pair rest) (here legal) more = (legal.low, more pair rest)
    go (refused refusal) legal more = tt

pub before-first : (k n next : ℕ) (bytes : List ℕ) → k ≤ n → pairs_before_refusal k next bytes ≡ take k (pairs_before_refusal n next bytes)
unfolding pairs_before_refusal
before-first zero n next bytes h = refl
before-first (suc k) zero next bytes h = absurd (omega arith)
before-first (suc k) (suc n) next bytes h = go (pair_of next bytes) (λ pair rest. before-first k n (after_pair next pair) rest (omega arith))
  where
    go : (found : Parsed Pair) → ((pair : Pair) (rest : List ℕ) → pairs_before_refusal k (after_pair next pair) rest ≡ take k (pairs_before_refusal n (after_pair next pair) rest))
        → followed_by found (λ pair rest. pairs_before_refusal k (after_pair next pair) rest) ≡ take (suc k) (followed_by found (λ pair rest. pairs_before_refusal n (after_pair next pair) rest))
    go (parsed pair rest) more = ap (λ (pairs : List Pair). pair ∷ pairs) (more pair rest)
    go (refused refusal) more = refl

pub before-all : (n next : ℕ) (bytes : List ℕ) → All (λ pairs rest. pairs_before_refusal n next bytes ≡ pairs) (pairs_of n next bytes)
unfolding pairs_before_refusal pairs_of
before-all zero next bytes = here refl
before-all (suc n) next bytes = go (pair_of next bytes) (λ pair rest. before-all n (after_pair next pair) rest)
  where
    go : (found : Parsed Pair) → ((pair : Pair) (rest : List ℕ) → All (λ pairs end. pairs_before_refusal n (after_pair next pair) rest ≡ pairs) (pairs_of n (after_pair next pair) rest))
        → All (λ pairs end. followed_by found (λ pair rest. pairs_before_refusal n (after_pair next pair) rest) ≡ pairs) (bind found (λ pair. pairs_of n (after_pair next pair) then λ pairs. give (pair ∷ pairs)))
    go (parsed pair rest) more = all_then (more pair rest) λ pairs end e. here (ap (λ (l : List Pair). pair ∷ l) e)
    go (refused refusal) more = none
