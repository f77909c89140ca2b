-- The report of a reel is its lines, written one after another. Assumes nothing.
use mathlib.Core.List.{List, []}
use mathlib.Core.Path.{◌≡◌, refl, sym}
use Prim.Native.Nat.{ℕ, zero, suc, ◌+◌, ◌-◌, ◌*◌, ◌/◌, ◌≤◌, ◌<◌}
use native.Mathlib.Omega.{arith}
use lib.ListN.{length, take}
use Rattle.math.specs.Joined.{joined}
use Rattle.format3_writer.specs.Written.{written}
use Rattle.reel_player.specs.Items.{picture, cut}
use Rattle.reel_player.specs.Next.{AfterNext, reel_start, next_of}
use Rattle.std.specs.Prelude.{Some, None}
use Rattle.reel_player.specs.declared.play.NextPicture.{NextPicture}
use Rattle.reel_player.specs.declared.play.ReelPosition.{ReelPosition}
use Rattle.reel_player.proofs.ItemLaws.{Buffers, items_left, none_left, next-cut, next-picture}
use Rattle.text_writer.proofs.PutLaws.{Put, put, put_rest}
use Rattle.reel_report.specs.Text.{line_text}
use Rattle.reel_report.specs.Report.{lines_of}

-- loop invariant: writing the remaining lines gives the whole report; a line takes at most 149 bytes, and a picture at least 4 of the reel
pub record Printed (reel start : List ℕ) (position : ReelPosition) (older newer text : List ℕ) (end : ℕ) : Type 0 where
  pub fuel : ℕ
  pub enough : length reel - position.at ≤ fuel
  pub inside : position.at ≤ length reel
  pub counted : 4 * position.pictures ≤ position.at
  pub room : end ≤ 149 * position.pictures
  pub left : Put end (joined line_text (items_left fuel reel position older newer)) text (length (lines_of reel)) (written 0 (lines_of reel) start)

pub printed-none : (reel older newer text : List ℕ) → Printed reel text reel_start older newer text 0
printed-none reel older newer text = record {
  fuel = length reel;
  enough = omega arith;
  inside = omega arith;
  counted = omega arith;
  room = omega arith;
  left = put (omega arith) refl;
}

-- writing an empty text changes nothing
nothing_left : {at end : ℕ} {before after : List ℕ} → Put at [] before end after → (at ≡ end) × (before ≡ after)
unfolding written
nothing_left p = (omega (arith, p.ends), sym p.lies)

module _ (reel start : List ℕ) (position : ReelPosition) (older newer text : List ℕ) (end : ℕ) (p : Printed reel start position older newer text end) where
  -- at the reel's end, the report is complete
  pub printed-all : length reel ≤ position.at → (end ≡ length (lines_of reel)) × (text ≡ written 0 (lines_of reel) start)
  unfolding joined
  printed-all h = nothing_left (rw (none_left p.fuel reel position older newer h) at p.left)

  -- there is room for the next line
  pub line-fits : position.at < length reel → 149 * (length reel / 4 + 1) ≤ length text → end + 149 ≤ length text
  line-fits h roomy = omega (arith, p.room, p.counted)

  module _ (output : List ℕ) (h : position.at < length reel) (long : Buffers older newer output) where
    abbrev after : AfterNext
    after = next_of reel position older newer output

    -- a cut reel: its line completes the report
    pub printed-cut : after.next ≡ None → {end' : ℕ} {text' : List ℕ} → Put end (line_text (cut position.at)) text end' text' → (end' ≡ length (lines_of reel)) × (text' ≡ written 0 (lines_of reel) start)
    unfolding joined
    printed-cut e {end'} {text'} line = go p.fuel p.enough p.left
      where
        go : (n : ℕ) → length reel - position.at ≤ n → Put end (joined line_text (items_left n reel position older newer)) text (length (lines_of reel)) (written 0 (lines_of reel) start)
            → (end' ≡ length (lines_of reel)) × (text' ≡ written 0 (lines_of reel) start)
        go zero enough left = absurd (omega arith)
        go (suc n) enough left = nothing_left (put_rest (rw (next-cut n reel position older newer output h long e) at left) line)

    -- one more line keeps the invariant
    pub printed-more : {next : NextPicture} → after.next ≡ Some next → {end' : ℕ} {text' : List ℕ} → end' ≤ end + 149
        → Put end (line_text (picture next.played (take next.length after.output))) text end' text' → Printed reel start next.position after.older after.newer text' end'
    unfolding joined
    printed-more {next} e {end'} {text'} short line = go p.fuel p.enough p.left
      where
        go : (n : ℕ) → length reel - position.at ≤ n → Put end (joined line_text (items_left n reel position older newer)) text (length (lines_of reel)) (written 0 (lines_of reel) start)
            → Printed reel start next.position after.older after.newer text' end'
        go zero enough left = absurd (omega arith)
        go (suc n) enough left =
            let one = next-picture n reel position older newer output h long e in
            record {
              fuel = n;
              enough = omega (arith, one.moved);
              inside = one.inside;
              counted = omega (arith, one.moved, one.counted, p.counted);
              room = omega (arith, one.counted, p.room);
              left = put_rest (rw one.items at left) line;
            }
