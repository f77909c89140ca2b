-- One read more: what it gave stands after what the reads before it gave.
use Rattle.std.proofs.Common.{◌≡◌, ◌∙◌, ℕ, ◌+◌, ◌≤◌, List, ◌++◌, ap, sym, subst, arith, rules, length, take, drop, drop_at, length-take-le}
use borrow.Rule.Slice.PartMut.{put_mid, post_of}
use lib.Seq.{take-add, take-append-le}
use Rattle.std.specs.Io.KnownBytes.{Consumes}
use Rattle.std.proofs.KnownBytes.{Consumes-trans}
use Rattle.std.proofs.lemmas.Slice.{take-put_mid_below}
use Rattle.reel_input.proofs.read_all.Goals as goal

-- The first `at + n` bytes of a buffer whose part from `at` on was lent to a read.
take-put_mid_more : (at k n : ℕ) (buffer part : List ℕ) → at ≤ length buffer → n ≤ length part → take at buffer ++ take n part ≡ take (at + n) (put_mid at k buffer part)
take-put_mid_more at k n buffer part within fits =
    let all = put_mid at k buffer part in
    let front : take at all ≡ take at buffer = take-put_mid_below at k buffer part at (omega arith) within in
    let rest : take n (drop at all) ≡ take n part = ap (take n) (drop_at (take at buffer) (part ++ post_of at k buffer) at (length-take-le at buffer within)) ∙ take-append-le n part _ fits in
    sym (take-add at n all ∙ (rw (front, rest)))

pub loop-read-preserved : goal.loop-read-preserved
loop-read-preserved g c =
    let before = c.loop-read.invariant in
    let read = c.in_ok-piece.ensures in
    record {
      fits = search rules;
      same_length = search rules;
      bytes = subst (Consumes _ _) (take-put_mid_more c.loop-read.read _ c.in_ok-piece.piece c.loop-read.buffer c.read.new.buf before.fits read.bound.0)
          (Consumes-trans _ _ _ _ _ before.bytes read.bytes.0);
    }
