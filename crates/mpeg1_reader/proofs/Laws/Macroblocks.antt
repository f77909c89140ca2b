-- A slice's macroblocks, read and written one at a time. Assumes nothing.
use mathlib.Core.Bool.{true, false}
use mathlib.Core.List.{List, [], ◌∷◌, ◌++◌, append-nil}
use mathlib.Core.Path.{◌≡◌, refl, sym, ap, ◌∙◌}
use Prim.Native.Nat.{ℕ, zero, suc, ◌+◌, ◌<◌, ◌≤◌}
use native.Mathlib.Omega.{arith}
use lib.Dec.{leb}
use lib.ListN.{length, length-append}
use borrow.Author.Tests.{leb-true}
use Rattle.math.specs.Joined.{joined}
use Rattle.math.proofs.Joined.{joined-append}
use Rattle.symbols.specs.Parsed.{parsed, refused, bind}
use Rattle.symbols.specs.declared.header.Header.{Header}
use Rattle.symbols.specs.Macroblock.{Macroblock}
use Rattle.symbols.proofs.Parsed.{all-at, after, nothing-after, after-after}
use Rattle.format3_writer.specs.Written.{written, max_offset, saturating_add}
use Rattle.format3_writer.proofs.Laws.Written.{written-length, written-at-max-offset}
use Rattle.format3_writer.specs.Records.{macroblock_record}
use Rattle.format3_writer.proofs.Laws.Writing.{written-more}
use Rattle.mpeg1_bits.specs.Bits.{bit_offset, all_zeros, bits_from}
use Rattle.mpeg1_bits.specs.Requires.{InBytes}
use Rattle.mpeg1_bits.specs.declared.BitPosition.{BitPosition}
use Rattle.mpeg1_bits.proofs.Rest.{rest-length}
use Rattle.mpeg1_tables.proofs.Laws.Prefix.{case}
use Rattle.mpeg1_slice.specs.declared.refused.RefusedAt.{RefusedAt}
use Rattle.mpeg1_slice.specs.Read.{Read}
use Rattle.mpeg1_slice.specs.Increment.{increment_at}
use Rattle.mpeg1_slice.specs.Slice.{next_macroblock_at, macroblocks_from, macroblocks_at}
use Rattle.mpeg1_slice.proofs.Laws.Read.{Ahead, standing}
use Rattle.mpeg1_slice.proofs.Laws.Onward as Onward
use Rattle.mpeg1_reader.specs.WriteAnswer.{WrittenAt}
use Rattle.mpeg1_reader.specs.RecordOffsets.{last_whole, ResumesAt}
use Rattle.mpeg1_reader.specs.declared.write_answer.Written.{Written}
use Rattle.mpeg1_reader.specs.declared.write_answer.Checkpoint.{Checkpoint}
use Rattle.mpeg1_reader.proofs.Laws.Writing.{Part}

abbrev records : List Macroblock → List ℕ
records = joined macroblock_record

one-record : (m : Macroblock) → records (m ∷ []) ≡ macroblock_record m
unfolding joined
one-record m = append-nil (macroblock_record m)

-- two readers agree after a part if they agree after every value that it has
agree : {A B : Type 0} (x : Read A) (f g : A → BitPosition → Read B) → ((a : A) (p : BitPosition) → x ≡ parsed a p → f a p ≡ g a p) → bind x f ≡ bind x g
agree (parsed a p) f g same = same a p refl
agree (refused reason) f g same = refl

-- ---- reading macroblocks splits at any of them
module _ (bytes : List ℕ) (h : Header) where
  next-ahead : (at : BitPosition) {m : Macroblock} {p : BitPosition} → InBytes bytes at → next_macroblock_at h bytes at ≡ parsed m p → Ahead bytes (1 + bit_offset at) p
  next-ahead at within e = all-at (Onward.next-ahead bytes (standing within) h) e

  fewer : (at : BitPosition) {p : BitPosition} {n : ℕ} → Ahead bytes (1 + bit_offset at) p → length (bits_from bytes at) < suc n → length (bits_from bytes p) < n
  fewer at {p} ahead k = omega (arith, k, rest-length bytes at, rest-length bytes p, ahead.further, ahead.inside.not_past)

  -- every bound above the bits left gives the same
  any-bound : (n m : ℕ) (at : BitPosition) → InBytes bytes at → length (bits_from bytes at) < n → length (bits_from bytes at) < m → macroblocks_from n h bytes at ≡ macroblocks_from m h bytes at
  unfolding macroblocks_from
  any-bound zero m at within k l = absurd (omega (arith, k))
  any-bound (suc n) zero at within k l = absurd (omega (arith, l))
  any-bound (suc n) (suc m) at within k l =
      case (all_zeros (bits_from bytes at)) (λ t. rw t refl) λ t. rw t
      (agree (next_macroblock_at h bytes at) _ _ λ first p e.
      let ahead = next-ahead at within e in
      ap (after (first ∷ [])) (any-bound n m p ahead.inside (fewer at ahead k) (fewer at ahead l)))

  module _ (at : BitPosition) where
    from_end : (n : ℕ) → length (bits_from bytes at) < n → all_zeros (bits_from bytes at) ≡ true → macroblocks_from n h bytes at ≡ parsed [] at
    unfolding macroblocks_from
    from_end zero k z = absurd (omega arith)
    from_end (suc n) k z = rw z

    from-refused : (n : ℕ) {reason : RefusedAt} → length (bits_from bytes at) < n → all_zeros (bits_from bytes at) ≡ false → next_macroblock_at h bytes at ≡ refused reason
        → macroblocks_from n h bytes at ≡ refused reason
    unfolding macroblocks_from
    from-refused zero k z e = absurd (omega arith)
    from-refused (suc n) k z e = rw (z, e)

    from-read : (n : ℕ) {m : Macroblock} {p : BitPosition} → all_zeros (bits_from bytes at) ≡ false → next_macroblock_at h bytes at ≡ parsed m p
        → macroblocks_from (suc n) h bytes at ≡ after (m ∷ []) (macroblocks_from n h bytes p)
    unfolding macroblocks_from
    from-read n z e = rw (z, e)

    -- a macroblock, and then those that are read from where it ends
    pub splits : {m : Macroblock} {p : BitPosition} → InBytes bytes at → all_zeros (bits_from bytes at) ≡ false → next_macroblock_at h bytes at ≡ parsed m p
        → macroblocks_at h bytes at ≡ after (m ∷ []) (macroblocks_at h bytes p)
    splits {m} {p} within z e =
        let ahead = next-ahead at within e in
        let left = length (bits_from bytes at) in
        any-bound (1 + left) (suc left) at within (omega arith) (omega arith)
        ∙ from-read left z e
        ∙ ap (after (m ∷ [])) (any-bound left (1 + length (bits_from bytes p)) p ahead.inside (fewer at ahead (omega arith)) (omega arith))

-- ---- a checkpoint: the macroblocks before it, whose records fit, and then those that are read from it
pub record Split (bytes : List ℕ) (h : Header) (from : BitPosition) (offset capacity : ℕ) (checkpoint : Checkpoint) : Type 0 where
  pub front : List Macroblock
  pub inside : InBytes bytes checkpoint.at
  pub same : after front (macroblocks_at h bytes checkpoint.at) ≡ macroblocks_at h bytes from
  pub counted : checkpoint.offset ≡ offset + length (records front)
  pub whole : checkpoint.offset ≤ capacity

module _ {bytes : List ℕ} {h : Header} {from : BitPosition} {offset capacity : ℕ} where
  pub last-split : {last next : Checkpoint} → Split bytes h from offset capacity last → (next.offset ≤ capacity → Split bytes h from offset capacity next)
      → Split bytes h from offset capacity (last_whole last next capacity)
  unfolding last_whole
  last-split {last} {next} s t =
      case (leb next.offset capacity) (λ e. rw e (t (leb-true next.offset capacity e))) (λ e. rw e s)

  pub split-resumes : {checkpoint : Checkpoint} {some : List Macroblock} {end : BitPosition} → Split bytes h from offset capacity checkpoint → macroblocks_at h bytes from ≡ parsed some end
      → ResumesAt h bytes offset capacity (records some) end checkpoint
  split-resumes {checkpoint} {some} {end} s e = go (macroblocks_at h bytes checkpoint.at) refl
    where
      go : (x : Read (List Macroblock)) → macroblocks_at h bytes checkpoint.at ≡ x → ResumesAt h bytes offset capacity (records some) end checkpoint
      go (parsed rest p) f =
          let both : parsed (s.front ++ rest) p ≡ parsed some end = ap (after s.front) (sym f) ∙ s.same ∙ e in
          let all : s.front ++ rest ≡ some = cc in
          let last : p ≡ end = cc in
          record {
            front = records s.front;
            rest = rest;
            inside = s.inside;
            read = f ∙ ap (λ (q : BitPosition). parsed rest q) last;
            same = ap records (sym all) ∙ joined-append macroblock_record s.front rest;
            counted = s.counted;
            whole = s.whole;
          }
      go (refused reason) f = let clash : refused reason ≡ parsed some end = ap (after s.front) (sym f) ∙ s.same ∙ e in let z : ◌≡◌ {A = ℕ} 0 1 = cc in absurd (omega arith)

-- ---- loop invariant: the macroblocks written so far, then reading the rest, give the whole; and there is a checkpoint
pub record Passed (bytes : List ℕ) (h : Header) (from : BitPosition) (offset : ℕ) (before now : List ℕ) (at : BitPosition) (end : ℕ) (checkpoint : Checkpoint) : Type 0 where
  pub some : List Macroblock
  pub inside : InBytes bytes at
  pub near : end ≤ max_offset
  pub counted : end ≡ saturating_add offset (length (joined macroblock_record some))
  pub there : now ≡ written offset (joined macroblock_record some) before
  pub long : length now ≡ length before
  pub same : after some (macroblocks_at h bytes at) ≡ macroblocks_at h bytes from
  pub split : Split bytes h from offset (length before) checkpoint

-- capped offsets add up
offset-twice : (offset n m : ℕ) → saturating_add (saturating_add offset n) m ≡ saturating_add offset (n + m)
unfolding saturating_add
offset-twice offset n m = omega arith

offset_near : (offset n : ℕ) → saturating_add offset n ≤ max_offset
unfolding saturating_add
offset_near offset n = omega arith

offset-none : (offset : ℕ) → offset ≤ max_offset → offset ≡ saturating_add offset 0
unfolding saturating_add
offset-none offset h = omega arith

-- an offset within a buffer is not capped
offset-exact : (offset n : ℕ) {end capacity : ℕ} → capacity < max_offset → end ≡ saturating_add offset n → end ≤ capacity → end ≡ offset + n
unfolding saturating_add
offset-exact offset n room e h = omega (arith, e)

pub passed_none : (bytes : List ℕ) (h : Header) (from : BitPosition) (offset : ℕ) (buffer : List ℕ) → length buffer < max_offset → offset ≤ length buffer → InBytes bytes from
    → Passed bytes h from offset buffer buffer from offset (record { at = from; offset = offset })
unfolding written joined
passed_none bytes h from offset buffer room fits within = record {
  some = [];
  inside = within;
  near = omega arith;
  counted = offset-none offset (omega arith);
  there = refl;
  long = refl;
  same = nothing-after (macroblocks_at h bytes from);
  split = record { front = []; inside = within; same = nothing-after (macroblocks_at h bytes from); counted = omega arith; whole = fits };
}

module _ (bytes : List ℕ) (h : Header) (from at : BitPosition) {offset : ℕ} {before now : List ℕ} {end : ℕ} {last : Checkpoint} (s : Passed bytes h from offset before now at end last) where
  pub passed-end : all_zeros (bits_from bytes at) ≡ true → macroblocks_at h bytes from ≡ parsed s.some at
  passed-end z = sym s.same ∙ rw (from_end bytes h at (1 + length (bits_from bytes at)) (omega arith) z) (ap (λ (l : List Macroblock). parsed l at) (append-nil s.some))

  pub passed-refused : {reason : RefusedAt} → all_zeros (bits_from bytes at) ≡ false → next_macroblock_at h bytes at ≡ refused reason → macroblocks_at h bytes from ≡ refused reason
  passed-refused z e = sym s.same ∙ rw (from-refused bytes h at (1 + length (bits_from bytes at)) (omega arith) z e)

  pub passed-ahead : {m : Macroblock} {p : BitPosition} → next_macroblock_at h bytes at ≡ parsed m p → Ahead bytes (1 + bit_offset at) p
  passed-ahead e = next-ahead bytes h at s.inside e

  pub passed-more : {w : Written} {later : List ℕ} → length before < max_offset → all_zeros (bits_from bytes at) ≡ false → (one : Part macroblock_record (next_macroblock_at h bytes at) w)
      → WrittenAt macroblock_record end now later (next_macroblock_at h bytes at)
      → Passed bytes h from offset before later w.at (saturating_add end w.size) (last_whole last (record { at = w.at; offset = saturating_add end w.size }) (length before))
  passed-more {w} {later} room z one f = record {
    some = s.some ++ (one.value ∷ []);
    inside = ahead.inside;
    near = offset_near end w.size;
    counted = counted-now;
    there = there-now;
    long = ap length there-now ∙ written-length offset (records (s.some ++ (one.value ∷ []))) before;
    same = same-now;
    split = last-split s.split λ fits. record { front = s.some ++ (one.value ∷ []); inside = ahead.inside; same = same-now; counted = offset-exact offset _ room counted-now fits; whole = fits };
  }
    where
      ahead : Ahead bytes (1 + bit_offset at) w.at
      ahead = passed-ahead one.is

      single : records (one.value ∷ []) ≡ macroblock_record one.value
      single = one-record one.value

      bytes_of : length (records s.some) + length (macroblock_record one.value) ≡ length (records (s.some ++ (one.value ∷ [])))
      bytes_of = rw (joined-append macroblock_record s.some (one.value ∷ []), single) (sym (length-append (records s.some) (macroblock_record one.value)))

      counted-now : saturating_add end w.size ≡ saturating_add offset (length (records (s.some ++ (one.value ∷ []))))
      counted-now = rw (s.counted, one.size, offset-twice offset (length (records s.some)) (length (macroblock_record one.value))) (ap (saturating_add offset) bytes_of)

      behind : written end (macroblock_record one.value) now ≡ written (offset + length (records s.some)) (macroblock_record one.value) now
      behind = rw s.counted (written-at-max-offset offset (length (records s.some)) (macroblock_record one.value) now (omega (arith, s.long, room)))

      joined-there : written (offset + length (records s.some)) (macroblock_record one.value) now ≡ written offset (records (s.some ++ (one.value ∷ []))) before
      joined-there = rw s.there (written-more macroblock_record offset s.some one.value before)

      there-now : later ≡ written offset (records (s.some ++ (one.value ∷ []))) before
      there-now = all-at f one.is ∙ behind ∙ joined-there

      same-now : after (s.some ++ (one.value ∷ [])) (macroblocks_at h bytes w.at) ≡ macroblocks_at h bytes from
      same-now = sym (after-after s.some (one.value ∷ []) (macroblocks_at h bytes w.at)) ∙ ap (after s.some) (sym (splits bytes h at s.inside z one.is)) ∙ s.same

-- if the increment is refused, so is the macroblock
pub no-increment : (h : Header) (bytes : List ℕ) (at : BitPosition) {reason : RefusedAt} → increment_at bytes at ≡ refused reason → next_macroblock_at h bytes at ≡ refused reason
unfolding next_macroblock_at
no-increment h bytes at e = rw e
