-- The loop that reads the pairs of a block, and stores each as it comes, agrees with the definitions. Assumes nothing.
use mathlib.Core.Path.{◌≡◌, refl, sym}
use mathlib.Core.List.{List, [], ◌∷◌, ◌++◌, append-nil, append_assoc}
use Prim.Native.Nat.{ℕ, ◌+◌, ◌-◌, ◌<◌, ◌≤◌}
use native.Mathlib.Omega.{arith}
use lib.IntN.{ℤ}
use lib.ListN.{length, length-append, drop, length-drop}
use lib.Seq.{drop-drop}
use Rattle.std.specs.Prelude.{Ok, Err}
use Rattle.tables.proofs.Zigzag.{raster-below}
use Rattle.refusals.specs.declared.Refusal.{Refusal}
use Rattle.symbols.specs.declared.pair.Pair.{Pair}
use Rattle.symbols.specs.Pair.{first_position, pair_position, after_pair, after_pairs}
use Rattle.symbols.proofs.Parsed.{all-at, after, nothing-after, after-after}
use Rattle.decode_coefficients.specs.declared.block.BlockCoding.{BlockCoding}
use Rattle.decode_coefficients.specs.Block.{PositionedLevel, raster_index, scaled_level, with_level, with_pairs, block_coefficients}
use Rattle.decode_coefficients.specs.Marks.{Marked, with_coefficient}
use Rattle.decode_coefficients.proofs.MarkLaws.{marked-set}
use Rattle.decode_coefficients.specs.SoFar.{HoldsSoFar}
use Rattle.decode_coefficients.proofs.SoFar.{after-append, none_read, one_more as one-pair-more, next-zero, one_block, holds-so-far, first-inside}
use Rattle.format3_records.specs.declared.field.Cursor.{Cursor}
use Rattle.format3_records.specs.Reader.{ParsesAs}
use Rattle.format3_macroblock.specs.Pairs.{pair_of, pairs_of, pairs_before_refusal}
use Rattle.format3_macroblock.specs.Landing.{block_read}
use Rattle.format3_macroblock.specs.Requires.{BeforePairs}
use Rattle.format3_macroblock.proofs.Laws.Pairs.{pair-legal, none_left, one-refused, one-read, none_before, none-before-refused, one-before, before-inside}
use Rattle.format3_macroblock.proofs.Laws.Blocks.{first-near}

module _ (c : BlockCoding) (matrix : List ℕ) (count : ℕ) (body : List ℕ) (start : List ℤ) where
  -- before each pair and after the last: the block holds the scaled levels of the pairs read so far, the marks are its own, and these pairs plus those
  -- still to be read are all pairs
  pub record BetweenPairs (block : List ℤ) (marks read next at : ℕ) : Type 0 where
    pub near : next ≤ 64
    pub inside : at ≤ length body
    pub begun : BeforePairs c start
    pub pairs : List Pair
    pub counted : length pairs + (count - read) ≡ count
    pub next-is : next ≡ after_pairs (first_position c.intra) pairs
    pub holds : HoldsSoFar c matrix begun.dc pairs block
    pub marked : Marked block marks
    pub goes_on : pairs_of count (first_position c.intra) body ≡ after pairs (pairs_of (count - read) next (drop at body))
    pub before : pairs_before_refusal count (first_position c.intra) body ≡ pairs ++ pairs_before_refusal (count - read) next (drop at body)

  pub at-start : {marks : ℕ} → BeforePairs c start → Marked start marks → BetweenPairs start marks 0 (first_position c.intra) 0
  unfolding after_pairs
  at-start b m = let all-left : count - 0 ≡ count = omega arith in record {
    near = first-near c.intra;
    inside = omega arith;
    begun = b;
    pairs = [];
    counted = omega arith;
    next-is = refl;
    holds = rw b.is (none_read b.fits);
    marked = m;
    goes_on = rw all-left (sym (nothing-after (pairs_of count (first_position c.intra) body)));
    before = rw all-left;
  }

  module _ {block : List ℤ} {marks read next at : ℕ} (p : BetweenPairs block marks read next at) where
    -- what it holds, as an equation
    block-is : block ≡ with_pairs c matrix p.pairs start
    unfolding block_coefficients
    block-is =
        let all = rw p.before at (before-inside count (first_position c.intra) body) in
        rw p.begun.is (one_block p.holds (holds-so-far c matrix p.begun.dc p.pairs p.begun.fits (first-inside c p.pairs _ all)))

    pub stops : {refusal : Refusal} → read < count → ParsesAs (pair_of next) (drop at body) (Err refusal)
        → ParsesAs (pairs_of count (first_position c.intra)) body (Err refusal) × (block ≡ block_read c matrix count body start)
    stops h e =
        let left : 0 < count - read = omega arith in
        (rw (p.goes_on, one-refused (count - read) next (drop at body) left e), rw (p.before, none-before-refused (count - read) next (drop at body) e, append-nil) block-is)

    pub ends : count ≤ read → ParsesAs (pairs_of count (first_position c.intra)) body (Ok (pairs_before_refusal count (first_position c.intra) body, record { at = at })) × (block ≡ block_read c matrix count body start)
    ends h =
        let none-more : count - read ≤ 0 = omega arith in
        let none = none_before (count - read) next (drop at body) none-more in
        ((rw (p.goes_on, p.before, none_left (count - read) next (drop at body) none-more, none), p.inside), rw (p.before, none, append-nil) block-is)

    pub one_more : {pair : Pair} {cursor : Cursor} → read < count → ParsesAs (pair_of next) (drop at body) (Ok (pair, cursor))
        → let level : PositionedLevel = record { position = pair_position next pair; level = pair.level } in
        BetweenPairs (with_level c matrix level block) (with_coefficient marks (raster_index (pair_position next pair)) (scaled_level c matrix level)) (read + 1) (after_pair next pair) (at + cursor.at)
    unfolding after_pairs
    one_more {pair} {cursor} h r =
        let n = cursor.at in
        let left : 0 < count - read = omega arith in
        let less : count - read - 1 ≡ count - (read + 1) = omega arith in
        let low : pair_position next pair ≤ 63 = (all-at (pair-legal next (drop at body)) r.0).low in
        record {
          near = omega arith;
          inside = omega (arith, p.inside, r.1, length-drop at body);
          begun = p.begun;
          pairs = p.pairs ++ (pair ∷ []);
          counted = simp length-append (omega (arith, p.counted));
          next-is = rw (after-append (first_position c.intra) p.pairs (pair ∷ []), ← p.next-is);
          holds = rw p.next-is (one-pair-more p.pairs pair p.holds (rw (← p.next-is) low));
          marked = marked-set p.marked p.holds.full (raster_index (pair_position next pair)) (raster-below (pair_position next pair) (omega arith)) (rw p.next-is (next-zero p.pairs pair p.holds (rw (← p.next-is) low))) _;
          goes_on = rw (p.goes_on, one-read (count - read) next (drop at body) left r.0, drop-drop n at body, less) (after-after p.pairs (pair ∷ []) (pairs_of (count - (read + 1)) (after_pair next pair) (drop (at + n) body)));
          before = rw (p.before, one-before (count - read) next (drop at body) left r.0, drop-drop n at body, less) (sym (append_assoc p.pairs (pair ∷ []) (pairs_before_refusal (count - (read + 1)) (after_pair next pair) (drop (at + n) body))));
        }
