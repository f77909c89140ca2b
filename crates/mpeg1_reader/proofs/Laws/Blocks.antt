-- A macroblock's blocks, read and written one at a time. Assumes nothing.
use mathlib.Core.Bool.{Bool}
use mathlib.Core.List.{List, [], ◌∷◌, ◌++◌, append-nil}
use mathlib.Core.Path.{◌≡◌, refl, sym, ap, subst, ◌∙◌}
use Rattle.std.specs.Prelude.{Result, Ok}
use Prim.Native.Nat.{ℕ, zero, suc, ◌+◌, ◌-◌, ◌*◌, ◌<◌, ◌≤◌}
use native.Mathlib.Omega.{arith}
use lib.ListN.{length, length-append}
use Rattle.math.specs.Joined.{joined}
use Rattle.math.proofs.Joined.{joined-append}
use Rattle.symbols.specs.Parsed.{parsed, refused}
use Rattle.symbols.specs.Block.{Block}
use Rattle.symbols.specs.Pattern.{is_coded}
use Rattle.symbols.proofs.Parsed.{all-at, after, nothing-after, after-after}
use Rattle.format3_writer.specs.Written.{written}
use Rattle.format3_writer.proofs.Laws.Written.{written-length}
use Rattle.format3_writer.specs.Records.{block_bytes, blocks_bytes}
use Rattle.format3_writer.proofs.Laws.Writing.{written-more}
use Rattle.format3_writer.proofs.Laws.Lengths.{block-short}
use Rattle.mpeg1_bits.specs.Requires.{InBytes}
use Rattle.mpeg1_bits.specs.declared.BitPosition.{BitPosition}
use Rattle.mpeg1_slice.specs.declared.refused.RefusedAt.{RefusedAt}
use Rattle.mpeg1_slice.specs.Read.{Read}
use Rattle.mpeg1_slice.specs.Blocks.{given_block_at, blocks_from}
use Rattle.mpeg1_reader.specs.WriteAnswer.{write_answer, WrittenAt}
use Rattle.mpeg1_reader.specs.declared.write_answer.Written.{Written}
use Rattle.mpeg1_reader.proofs.Laws.Writing.{Part, part-done}
use Rattle.mpeg1_reader.proofs.Laws.Few.{given-short}

-- replaces the test whether the macroblock is intra by an equal one
pub blocks-as : (bytes : List ℕ) (at : BitPosition) (a b : Bool) (pattern offset : ℕ) (before : List ℕ) {r : Result Written RefusedAt} {now : List ℕ} → a ≡ b
    → (r ≡ write_answer (blocks_bytes a) (blocks_from a pattern 6 0 bytes at)) × WrittenAt (blocks_bytes a) offset before now (blocks_from a pattern 6 0 bytes at)
    → (r ≡ write_answer (blocks_bytes b) (blocks_from b pattern 6 0 bytes at)) × WrittenAt (blocks_bytes b) offset before now (blocks_from b pattern 6 0 bytes at)
blocks-as bytes at a b pattern offset before {r} {now} e h =
    subst (λ (x : Bool). (r ≡ write_answer (blocks_bytes x) (blocks_from x pattern 6 0 bytes at)) × WrittenAt (blocks_bytes x) offset before now (blocks_from x pattern 6 0 bytes at)) e h

pub coded-block-size : (given intra : Bool) (block : ℕ) (bytes : List ℕ) (at : BitPosition) {w : Written} → Ok w ≡ write_answer (block_bytes intra) (given_block_at given intra block bytes at) → w.size ≤ 195
coded-block-size given intra block bytes at e =
    let some = part-done (block_bytes intra) (given_block_at given intra block bytes at) e in
    omega (arith, some.size, block-short intra some.value (all-at (given-short given intra block bytes at) some.is).few)

-- ---- loop invariant: the blocks written so far, then reading the rest, give the whole
pub record Passed (bytes : List ℕ) (intra : Bool) (pattern : ℕ) (whole : Read (List Block)) (offset : ℕ) (before now : List ℕ) (at : BitPosition) (size block : ℕ) : Type 0 where
  pub blocks : List Block
  pub fuel : ℕ
  pub left : fuel + block ≡ 6
  pub counted : size ≡ length (blocks_bytes intra blocks)
  pub few : size ≤ 195 * block
  pub inside : InBytes bytes at
  pub there : now ≡ written offset (blocks_bytes intra blocks) before
  pub long : length now ≡ length before
  pub same : after blocks (blocks_from intra pattern fuel block bytes at) ≡ whole

module _ (bytes : List ℕ) (intra : Bool) (pattern : ℕ) (at : BitPosition) where
  pub passed_none : (offset : ℕ) (buffer : List ℕ) → InBytes bytes at → Passed bytes intra pattern (blocks_from intra pattern 6 0 bytes at) offset buffer buffer at 0 0
  unfolding written joined
  passed_none offset buffer within = record {
    blocks = [];
    fuel = 6;
    left = refl;
    counted = refl;
    few = omega arith;
    inside = within;
    there = refl;
    long = refl;
    same = nothing-after (blocks_from intra pattern 6 0 bytes at);
  }

  module _ (block : ℕ) where
    from-refused : (n : ℕ) {reason : RefusedAt} → n + block ≡ 6 → block < 6 → given_block_at (is_coded pattern block) intra block bytes at ≡ refused reason
        → blocks_from intra pattern n block bytes at ≡ refused reason
    unfolding blocks_from
    from-refused zero h k e = absurd (omega arith)
    from-refused (suc n) h k e = rw e

    from-read : (n : ℕ) {b : Block} {p : BitPosition} → given_block_at (is_coded pattern block) intra block bytes at ≡ parsed b p
        → blocks_from intra pattern (suc n) block bytes at ≡ after (b ∷ []) (blocks_from intra pattern n (block + 1) bytes p)
    unfolding blocks_from
    from-read n e = rw e

    from_end : (n : ℕ) → n + block ≡ 6 → 6 ≤ block → blocks_from intra pattern n block bytes at ≡ parsed [] at
    unfolding blocks_from
    from_end zero h k = refl
    from_end (suc n) h k = absurd (omega arith)

    module _ {whole : Read (List Block)} {offset : ℕ} {before now : List ℕ} {size : ℕ} (s : Passed bytes intra pattern whole offset before now at size block) where
      pub passed-refused : {reason : RefusedAt} → block < 6 → given_block_at (is_coded pattern block) intra block bytes at ≡ refused reason → whole ≡ refused reason
      passed-refused h e = sym s.same ∙ rw (from-refused s.fuel s.left h e)

      pub passed-end : 6 ≤ block → whole ≡ parsed s.blocks at
      passed-end h = sym s.same ∙ rw (from_end s.fuel s.left h) (ap (λ (l : List Block). parsed l at) (append-nil s.blocks))

      pub passed-more : {w : Written} {later : List ℕ} → block < 6 → (some : Part (block_bytes intra) (given_block_at (is_coded pattern block) intra block bytes at) w)
          → WrittenAt (block_bytes intra) (offset + size) now later (given_block_at (is_coded pattern block) intra block bytes at) → InBytes bytes w.at
          → Passed bytes intra pattern whole offset before later w.at (size + w.size) (block + 1)
      unfolding joined
      passed-more {w} {later} h some f within = record {
        blocks = s.blocks ++ (some.value ∷ []);
        fuel = s.fuel - 1;
        left = omega (arith, s.left);
        counted = rw (bytes_of, length-append (blocks_bytes intra s.blocks) (block_bytes intra some.value)) (omega (arith, s.counted, some.size));
        few = omega (arith, s.few, some.size, block-short intra some.value (all-at (given-short (is_coded pattern block) intra block bytes at) some.is).few);
        inside = within;
        there = there-now;
        long = ap length there-now ∙ written-length offset (blocks_bytes intra (s.blocks ++ (some.value ∷ []))) before;
        same = sym (after-after s.blocks (some.value ∷ []) (blocks_from intra pattern (s.fuel - 1) (block + 1) bytes w.at)) ∙ rw (sym step) s.same;
      }
        where
          bytes_of : blocks_bytes intra (s.blocks ++ (some.value ∷ [])) ≡ blocks_bytes intra s.blocks ++ block_bytes intra some.value
          bytes_of = rw (joined-append (block_bytes intra) s.blocks (some.value ∷ []), append-nil (block_bytes intra some.value))

          there-now : later ≡ written offset (blocks_bytes intra (s.blocks ++ (some.value ∷ []))) before
          there-now = all-at f some.is ∙ rw (s.there, s.counted) (written-more (block_bytes intra) offset s.blocks some.value before)

          more-fuel : s.fuel ≡ suc (s.fuel - 1)
          more-fuel = omega (arith, s.left, h)

          step : blocks_from intra pattern s.fuel block bytes at ≡ after (some.value ∷ []) (blocks_from intra pattern (s.fuel - 1) (block + 1) bytes w.at)
          step = ap (λ (k : ℕ). blocks_from intra pattern k block bytes at) more-fuel ∙ from-read (s.fuel - 1) some.is
