-- After each pair a block holds the scaled levels so far, by induction over the pairs, and no other block holds that. Assumes nothing.
-- Positions rise and no two have the same raster index, so a pair never lands on another or on the DC.
use mathlib.Core.Bool.{Bool, true, false}
use mathlib.Core.List.{List, [], ◌∷◌, ◌++◌, append_assoc, append-nil}
use mathlib.Core.Path.{◌≡◌, refl, sym, ap, subst, ◌∙◌}
use Prim.Native.Nat.{ℕ, ◌<◌, ◌≤◌}
use native.Mathlib.Decide.{ℕ_discrete}
use native.Mathlib.Omega.{arith}
use lib.IntN.{ℤ, pos}
use lib.ListN.{length, replicate, set, length-set}
use lib.Seq.{ext_get_or, get_or-set_same, get_or-set_other}
use Rattle.math.specs.Bound.{at}
use Rattle.math.proofs.Bound.{zeros-at}
use Rattle.math.proofs.Test.{clash, refuted}
use Rattle.math.specs.Each.{Each}
use Rattle.math.proofs.Each.{each_map, each-with, each_append, each_first, each-rest}
use Rattle.tables.proofs.Zigzag.{raster-below, zigzag-first, zigzag-apart}
use Rattle.symbols.specs.declared.pair.Pair.{Pair}
use Rattle.symbols.specs.Pair.{first_position, last_position, pair_position, after_pair, after_pairs}
use Rattle.decode_coefficients.specs.declared.block.BlockCoding.{BlockCoding}
use Rattle.decode_coefficients.specs.Block.{PositionedLevel, positioned_levels, block_levels, next_level, raster_index, scaled_level, with_level, with_levels, with_pairs, dc_block, block_coefficients}
use Rattle.decode_coefficients.specs.SoFar.{HoldsSoFar, DcFits, PairsInside}
use Rattle.decode_coefficients.specs.Dc.{dc_of}

-- ---- pairs in two parts
positioned-append : (next : ℕ) (pairs more : List Pair) → positioned_levels next (pairs ++ more) ≡ positioned_levels next pairs ++ positioned_levels (after_pairs next pairs) more
unfolding positioned_levels after_pairs
positioned-append next [] more = refl
positioned-append next (p ∷ pairs) more = ap (λ (l : List PositionedLevel). record { position = pair_position next p; level = p.level } ∷ l) (positioned-append (after_pair next p) pairs more)

pub after-append : (next : ℕ) (pairs more : List Pair) → after_pairs next (pairs ++ more) ≡ after_pairs (after_pairs next pairs) more
unfolding after_pairs
after-append next [] more = refl
after-append next (p ∷ pairs) more = after-append (after_pair next p) pairs more

with-levels-more : (c : BlockCoding) (matrix : List ℕ) (levels : List PositionedLevel) (p : PositionedLevel) (block : List ℤ) → with_levels c matrix (levels ++ (p ∷ [])) block ≡ with_level c matrix p (with_levels c matrix levels block)
unfolding with_levels
with-levels-more c matrix [] p block = refl
with-levels-more c matrix (q ∷ levels) p block = with-levels-more c matrix levels p _

-- ---- positions rise
after-above : (next : ℕ) (pairs : List Pair) → next ≤ after_pairs next pairs
unfolding after_pairs
after-above next [] = omega arith
after-above next (p ∷ pairs) = omega (arith, after-above (after_pair next p) pairs)

positions-rise : (next : ℕ) (pairs : List Pair) → Each (λ p. p.position < after_pairs next pairs) (positioned_levels next pairs)
unfolding positioned_levels after_pairs
positions-rise next [] = tt
positions-rise next (p ∷ pairs) = (omega (arith, after-above (after_pair next p) pairs), positions-rise (after_pair next p) pairs)

levels-more : (c : BlockCoding) (pairs : List Pair) (pair : Pair) → block_levels c (pairs ++ (pair ∷ [])) ≡ block_levels c pairs ++ (next_level c pairs pair ∷ [])
unfolding positioned_levels
levels-more c pairs pair = positioned-append (first_position c.intra) pairs (pair ∷ [])

-- the raster index of the next pair is that of no pair before it, and in an intra block it is not 0
pub apart : (c : BlockCoding) (pairs : List Pair) (pair : Pair) → (next_level c pairs pair).position ≤ 63
    → Each (λ p. ¬ (raster_index p.position ≡ raster_index (next_level c pairs pair).position)) (block_levels c pairs)
apart c pairs pair low =
    let next : ℕ = (next_level c pairs pair).position in
    each_map
    (λ p below same. let e = zigzag-apart p.position next (omega arith) (omega arith) same in omega arith)
    (block_levels c pairs)
    (positions-rise (first_position c.intra) pairs)

pub apart-from-0 : (c : BlockCoding) (pairs : List Pair) (pair : Pair) → (next_level c pairs pair).position ≤ 63 → c.intra ≡ true → ¬ (0 ≡ raster_index (next_level c pairs pair).position)
unfolding first_position
apart-from-0 c pairs pair low e same =
    let start : first_position c.intra ≡ 1 = rw e in
    let above = after-above (first_position c.intra) pairs in
    let z = zigzag-apart 0 (next_level c pairs pair).position (omega arith) (omega arith) (zigzag-first ∙ same) in
    omega arith

module _ {c : BlockCoding} {matrix : List ℕ} {dc : ℤ} where
  -- ---- before the first pair
  pub none_read : DcFits c dc → HoldsSoFar c matrix dc [] (dc_block dc)
  unfolding dc_block positioned_levels
  none_read fits = record {
    full = refl;
    at-each-pair = tt;
    dc-at-0 = λ e. refl;
    zero-elsewhere = λ raster not-dc none. elim (ℕ_discrete raster 0) [
      | yes e ↦ subst (λ (i : ℕ). at (dc_block dc) i ≡ pos 0) (sym e) (fits.zero-otherwise (refuted (λ intra. not-dc intra e)))
      | no ne ↦ get_or-set_other (replicate 64 (pos 0)) 0 raster dc (pos 0) ne ∙ zeros-at 64 raster
    ];
  }

  -- ---- one more pair
  pub one_more : (pairs : List Pair) (pair : Pair) {block : List ℤ} → HoldsSoFar c matrix dc pairs block → (next_level c pairs pair).position ≤ 63
      → HoldsSoFar c matrix dc (pairs ++ (pair ∷ [])) (with_level c matrix (next_level c pairs pair) block)
  one_more pairs pair {block} h low =
      let next = next_level c pairs pair in
      let levels = block_levels c pairs in
      let here : ℕ = raster_index next.position in
      let scaled : ℤ = scaled_level c matrix next in
      let inside : here < length block = rw h.full (raster-below next.position (omega arith)) in record {
        full = length-set block here scaled ∙ h.full;
        at-each-pair =
            rw (levels-more c pairs pair)
            (each_append (λ p. at (set block here scaled) (raster_index p.position) ≡ scaled_level c matrix p) levels (next ∷ [])
            (each-with (λ p kept other. get_or-set_other block here (raster_index p.position) scaled (pos 0) other ∙ kept) levels h.at-each-pair (apart c pairs pair low))
            (get_or-set_same block here scaled (pos 0) inside, tt));
        dc-at-0 = λ e. get_or-set_other block here 0 scaled (pos 0) (apart-from-0 c pairs pair low e) ∙ h.dc-at-0 e;
        zero-elsewhere = λ raster not-dc none.
            let others = rw (levels-more c pairs pair) at none in
            get_or-set_other block here raster scaled (pos 0) (each-rest (λ p. ¬ (raster ≡ raster_index p.position)) levels (next ∷ []) others).0
            ∙ h.zero-elsewhere raster not-dc (each_first (λ p. ¬ (raster ≡ raster_index p.position)) levels (next ∷ []) others);
      }

  -- ---- the next pair's coefficient is still 0
  pub next-zero : (pairs : List Pair) (pair : Pair) {block : List ℤ} → HoldsSoFar c matrix dc pairs block → (next_level c pairs pair).position ≤ 63
      → at block (raster_index (next_level c pairs pair).position) ≡ pos 0
  next-zero pairs pair h low =
      h.zero-elsewhere (raster_index (next_level c pairs pair).position) (λ intra same. apart-from-0 c pairs pair low intra (sym same))
      (each_map (λ p other same. other (sym same)) (block_levels c pairs) (apart c pairs pair low))

  -- ---- no other block holds that
  module _ {pairs : List Pair} {a b : List ℤ} (h : HoldsSoFar c matrix dc pairs a) (g : HoldsSoFar c matrix dc pairs b) where
    -- the same at each pair, so the same everywhere if it is the same elsewhere
    alike : (raster : ℕ) (levels : List PositionedLevel) → Each (λ p. at a (raster_index p.position) ≡ scaled_level c matrix p) levels
        → Each (λ p. at b (raster_index p.position) ≡ scaled_level c matrix p) levels
        → (Each (λ p. ¬ (raster ≡ raster_index p.position)) levels → at a raster ≡ at b raster) → at a raster ≡ at b raster
    alike raster [] p q elsewhere = elsewhere tt
    alike raster (l ∷ levels) p q elsewhere = elim (ℕ_discrete raster (raster_index l.position)) [
      | yes e ↦ subst (λ (i : ℕ). at a i ≡ at b i) (sym e) (p.0 ∙ sym q.0)
      | no ne ↦ alike raster levels p.1 q.1 (λ none. elsewhere (ne, none))
    ]

    elsewhere : (raster : ℕ) → Each (λ p. ¬ (raster ≡ raster_index p.position)) (block_levels c pairs) → at a raster ≡ at b raster
    elsewhere raster none = elim (ℕ_discrete raster 0) [
      | yes e ↦ subst (λ (i : ℕ). at a i ≡ at b i) (sym e) (at-0 c.intra refl (rw e at none))
      | no ne ↦ h.zero-elsewhere raster (λ intra. ne) none ∙ sym (g.zero-elsewhere raster (λ intra. ne) none)
    ]
      where
        at-0 : (intra : Bool) → c.intra ≡ intra → Each (λ p. ¬ (0 ≡ raster_index p.position)) (block_levels c pairs) → at a 0 ≡ at b 0
        at-0 true e others = h.dc-at-0 e ∙ sym (g.dc-at-0 e)
        at-0 false e others = h.zero-elsewhere 0 (λ intra. clash intra e) others ∙ sym (g.zero-elsewhere 0 (λ intra. clash intra e) others)

    pub one_block : a ≡ b
    one_block = ext_get_or (pos 0) a b (h.full ∙ sym g.full) (λ raster low. alike raster (block_levels c pairs) h.at-each-pair g.at-each-pair (elsewhere raster))

-- one more pair sets one coefficient
pub one-step : (c : BlockCoding) (matrix : List ℕ) (pairs : List Pair) (pair : Pair) (block : List ℤ)
    → with_pairs c matrix (pairs ++ (pair ∷ [])) block ≡ with_level c matrix (next_level c pairs pair) (with_pairs c matrix pairs block)
one-step c matrix pairs pair block = rw (levels-more c pairs pair, with-levels-more c matrix (block_levels c pairs) (next_level c pairs pair) block)

-- ---- all pairs: `pairs` are stored, `more` are still to be
module _ (c : BlockCoding) (matrix : List ℕ) (dc : ℤ) where
  from-here : (pairs more : List Pair) → PairsInside c (pairs ++ more) → HoldsSoFar c matrix dc pairs (block_coefficients c matrix dc pairs)
      → HoldsSoFar c matrix dc (pairs ++ more) (block_coefficients c matrix dc (pairs ++ more))
  unfolding positioned_levels block_coefficients
  from-here pairs [] inside h = rw append-nil h
  from-here pairs (pair ∷ more) inside h =
      let low = (each-rest (λ p. p.position ≤ last_position) (block_levels c pairs) _ (rw (positioned-append (first_position c.intra) pairs (pair ∷ more)) at inside)).0 in
      rw (← append_assoc pairs (pair ∷ []) more) (from-here (pairs ++ (pair ∷ [])) more (rw (append_assoc pairs (pair ∷ []) more) inside) (rw (one-step c matrix pairs pair (dc_block dc)) (one_more pairs pair h low)))

  pub holds-so-far : (pairs : List Pair) → DcFits c dc → PairsInside c pairs → HoldsSoFar c matrix dc pairs (block_coefficients c matrix dc pairs)
  unfolding block_coefficients with_levels positioned_levels
  holds-so-far pairs fits inside = from-here [] pairs inside (none_read fits)

-- ---- some of the pairs
pub first-inside : (c : BlockCoding) (pairs more : List Pair) → PairsInside c (pairs ++ more) → PairsInside c pairs
first-inside c pairs more inside =
    each_first (λ p. p.position ≤ last_position) (block_levels c pairs) _ (rw (positioned-append (first_position c.intra) pairs more) at inside)

pub last-inside : (c : BlockCoding) (pairs : List Pair) (pair : Pair) → PairsInside c (pairs ++ (pair ∷ [])) → (next_level c pairs pair).position ≤ 63
last-inside c pairs pair inside = (each-rest (λ p. p.position ≤ last_position) (block_levels c pairs) (next_level c pairs pair ∷ []) (rw (levels-more c pairs pair) at inside)).0

pub dc-fits : (c : BlockCoding) (past difference : ℤ) → DcFits c (dc_of c.intra past difference)
dc-fits c past difference = record { zero-otherwise = λ e. ap (λ (intra : Bool). dc_of intra past difference) e }
