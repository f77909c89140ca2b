-- A block's pairs, read and written one at a time. Assumes nothing.
use mathlib.Core.Bool.{Bool, true, false, not}
use mathlib.Core.List.{List, [], ◌∷◌, ◌++◌, append-nil}
use mathlib.Core.Path.{◌≡◌, refl, sym, ap, ◌∙◌}
use Rattle.std.specs.Prelude.{Some, None}
use Prim.Native.Nat.{ℕ, zero, suc, ◌+◌, ◌-◌, ◌*◌, ◌≤◌}
use native.Mathlib.Omega.{arith}
use lib.ListN.{length, length-append}
use Rattle.math.specs.Joined.{joined}
use Rattle.symbols.specs.Parsed.{parsed, refused}
use Rattle.symbols.specs.declared.pair.Pair.{Pair}
use Rattle.symbols.specs.Pair.{first_position}
use Rattle.symbols.proofs.Parsed.{all-at, after, nothing-after, after-after}
use Rattle.format3_writer.specs.Written.{written}
use Rattle.format3_writer.proofs.Laws.Written.{written-length}
use Rattle.format3_writer.specs.Records.{pair_bytes, pairs_bytes, levels_bytes}
use Rattle.format3_writer.proofs.Laws.Writing.{written_count_lem, written-more}
use Rattle.format3_writer.proofs.Laws.Lengths.{pairs-length, levels-length}
use Rattle.mpeg1_bits.specs.Requires.{InBytes}
use Rattle.mpeg1_bits.specs.declared.BitPosition.{BitPosition}
use Rattle.mpeg1_slice.specs.declared.refused.RefusedAt.{RefusedAt}
use Rattle.mpeg1_slice.specs.Read.{Read}
use Rattle.mpeg1_slice.specs.Blocks.{next_pair_at, pairs_from, pairs_at}
use Rattle.mpeg1_slice.proofs.Laws.Read.{standing}
use Rattle.mpeg1_slice.proofs.Laws.Coefficient.{position, next-lands, next-onward}

-- ---- loop invariant: the pairs written so far, then reading the rest, give the whole
pub record Begun (bytes : List ℕ) (whole : Read (List Pair)) (offset : ℕ) (before now : List ℕ) (at : BitPosition) (first : Bool) (next count end : ℕ) : Type 0 where
  pub pairs : List Pair
  pub fuel : ℕ
  pub enough : 65 ≤ fuel + next
  pub near : next ≤ 64
  pub counted : length pairs ≡ count
  pub few : count ≤ next
  pub behind_them : end ≡ offset + 1 + 3 * count
  pub inside : InBytes bytes at
  pub there : now ≡ written (offset + 1) (pairs_bytes pairs) before
  pub same : after pairs (pairs_from fuel first next bytes at) ≡ whole

module _ (bytes : List ℕ) (intra : Bool) (offset : ℕ) (buffer : List ℕ) (at : BitPosition) where
  position-near : (t : Bool) → first_position t ≤ 1
  unfolding first_position
  position-near true = omega arith
  position-near false = omega arith

  pub begun-none : InBytes bytes at → Begun bytes (pairs_at intra bytes at) offset buffer buffer at (not intra) (first_position intra) 0 (offset + 1)
  unfolding pairs_at written joined
  begun-none within = record {
    pairs = [];
    fuel = 65;
    enough = omega arith;
    near = omega (arith, position-near intra);
    counted = refl;
    few = omega arith;
    behind_them = omega arith;
    inside = within;
    there = refl;
    same = nothing-after (pairs_from 65 (not intra) (first_position intra) bytes at);
  }

module _ (bytes : List ℕ) (at : BitPosition) (first : Bool) (next : ℕ) where
  from-refused : (n : ℕ) {reason : RefusedAt} → 65 ≤ n + next → next ≤ 64 → next_pair_at first next bytes at ≡ refused reason → pairs_from n first next bytes at ≡ refused reason
  unfolding pairs_from
  from-refused zero h k e = absurd (omega arith)
  from-refused (suc n) h k e = rw e

  from_end : (n : ℕ) {p : BitPosition} → 65 ≤ n + next → next ≤ 64 → next_pair_at first next bytes at ≡ parsed None p → pairs_from n first next bytes at ≡ parsed [] p
  unfolding pairs_from
  from_end zero h k e = absurd (omega arith)
  from_end (suc n) h k e = rw e

  from-pair : (n : ℕ) {pair : Pair} {p : BitPosition} → next_pair_at first next bytes at ≡ parsed (Some pair) p
      → pairs_from (suc n) first next bytes at ≡ after (pair ∷ []) (pairs_from n false (next + pair.run + 1) bytes p)
  unfolding pairs_from
  from-pair n e = rw e

  module _ {whole : Read (List Pair)} {offset : ℕ} {before now : List ℕ} {count end : ℕ} (s : Begun bytes whole offset before now at first next count end) where
    -- the buffer keeps its length
    pub begun-same : length now ≡ length before
    begun-same = ap length s.there ∙ written-length (offset + 1) (pairs_bytes s.pairs) before

    pub begun-refused : {reason : RefusedAt} → next_pair_at first next bytes at ≡ refused reason → whole ≡ refused reason
    begun-refused e = sym s.same ∙ rw (from-refused s.fuel s.enough s.near e)

    -- at the end of the block, the count goes in front of the pairs
    pub begun-end : {p : BitPosition} → next_pair_at first next bytes at ≡ parsed None p → whole ≡ parsed s.pairs p
    begun-end {p} e = sym s.same ∙ rw (from_end s.fuel s.enough s.near e) (ap (λ (l : List Pair). parsed l p) (append-nil s.pairs))

    pub begun-length : end ≡ offset + length (levels_bytes s.pairs)
    begun-length = omega (arith, s.behind_them, s.counted, levels-length s.pairs)

    pub begun-written : {last : List ℕ} → last ≡ written offset (count ∷ []) now → last ≡ written offset (levels_bytes s.pairs) before
    begun-written e = e ∙ rw (← s.counted, s.there) (written_count_lem offset s.pairs before)

    module _ {pair : Pair} {p : BitPosition} (e : next_pair_at first next bytes at ≡ parsed (Some pair) p) where
      pub begun-lands : next + pair.run ≤ 63
      begun-lands = position (all-at (next-lands first next bytes at) e)

      begun-inside : InBytes bytes p
      begun-inside = (all-at (next-onward first next (standing s.inside)) e).inside

    more-fuel : (n : ℕ) → 65 ≤ n + next → n ≡ suc (n - 1)
    more-fuel n h = omega (arith, s.near)

    pub begun_more : {pair : Pair} {p : BitPosition} {later : List ℕ} → next_pair_at first next bytes at ≡ parsed (Some pair) p → later ≡ written end (pair_bytes pair.run pair.level) now
        → Begun bytes whole offset before later p false (next + pair.run + 1) (count + 1) (end + 3)
    begun_more {pair} {p} {later} e f =
        let n = s.fuel in
        record {
          pairs = s.pairs ++ (pair ∷ []);
          fuel = n - 1;
          enough = omega (arith, s.enough, s.near);
          near = omega (arith, begun-lands e);
          counted = rw (length-append s.pairs (pair ∷ [])) (omega (arith, s.counted));
          few = omega (arith, s.few);
          behind_them = omega (arith, s.behind_them);
          inside = begun-inside e;
          there = f ∙ rw (s.there, offset-of) (written-more (λ pair. pair_bytes pair.run pair.level) (offset + 1) s.pairs pair before);
          same = sym (after-after s.pairs (pair ∷ []) (pairs_from (n - 1) false (next + pair.run + 1) bytes p)) ∙ rw (sym step) s.same;
        }
      where
        offset-of : end ≡ offset + 1 + length (pairs_bytes s.pairs)
        offset-of = omega (arith, s.behind_them, s.counted, pairs-length s.pairs)

        step : pairs_from s.fuel first next bytes at ≡ after (pair ∷ []) (pairs_from (s.fuel - 1) false (next + pair.run + 1) bytes p)
        step =
            ap (λ (k : ℕ). pairs_from k first next bytes at) (more-fuel s.fuel s.enough)
            ∙ from-pair (s.fuel - 1) e
