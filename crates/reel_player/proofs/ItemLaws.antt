-- `play_next` follows the definition: it returns the next item and leaves the carried references in its buffers. Assumes nothing.
use mathlib.Core.Bool.{Bool, true, false}
use mathlib.Core.List.{List, [], ◌∷◌}
use mathlib.Core.Path.{◌≡◌, refl, sym, ap, ◌∙◌}
use Prim.Native.Nat.{ℕ, suc, ◌+◌, ◌≤◌, ◌<◌}
use native.Mathlib.Omega.{arith}
use lib.Dec.{eqb}
use lib.ListN.{length, take, drop, replicate, length-append, length-take, length-drop, length-replicate}
use lib.Seq.{take-append_seam}
use borrow.Author.Tests.{eqb-true}
use Rattle.refusals.specs.Refusal.{accepted, number_in}
use Rattle.symbols.specs.Header.{type_b}
use Rattle.format3_header.specs.FileStart.{first_header}
use Rattle.std.specs.Prelude.{Option, Some, None, Result, Ok, Err}
use Rattle.format3_header.specs.declared.file_start.FileStart.{FileStart}
use Rattle.format3_header.specs.declared.file_start.RefusedAt.{RefusedAt}
use Rattle.format3_writer.specs.Written.{written}
use Rattle.format3_writer.proofs.Laws.Written.{written-length, written_back}
use Rattle.format3_picture.specs.Picture.{Picture, answer_of}
use Rattle.format3_picture.specs.declared.reader.Answer.{Answer}
use Rattle.format3_picture.specs.Alone.{Alike}
use Rattle.reel_parts.specs.Part.{part_at, parts_from}
use Rattle.reel_parts.specs.declared.part.Part.{Part}
use Rattle.reel_parts.specs.declared.references.Kept.{Kept}
use Rattle.reel_parts.proofs.PartLaws.{inside, no-parts, one-file, one-cut}
use Rattle.reel_player.specs.Items.{Item, picture, cut, Carried, lent_bytes, picture_into, picture_from, bytes_of, carried_from, carried_after, items_from}
use Rattle.reel_player.specs.Requires.{KeptWithin}
use Rattle.reel_player.specs.Next.{AfterNext, held_in, kept_of, played_as, output_after, next_of}
use Rattle.reel_player.specs.declared.play.NextPicture.{NextPicture}
use Rattle.reel_player.specs.declared.play.Played.{Played}
use Rattle.reel_player.specs.declared.play.ReelPosition.{ReelPosition}
use Rattle.reel_player.proofs.PlayLaws.{lent-within, lent-part, made_alike, numbered}

-- ---- references written to the start of both buffers can be read back from there
module _ (carried : Carried) (older newer : List ℕ) (fits : KeptWithin (kept_of carried) older newer) where
  carried-held : held_in (kept_of carried) (written 0 carried.older older) (written 0 carried.newer newer) ≡ carried
  carried-held = λ i. record { older = written_back carried.older older fits.older-fits i; newer = written_back carried.newer newer fits.newer-fits i }

  carried-within : KeptWithin (kept_of carried) (written 0 carried.older older) (written 0 carried.newer newer)
  carried-within = record {
    older-fits = rw (written-length 0 carried.older older) fits.older-fits;
    newer-fits = rw (written-length 0 carried.newer newer) fits.newer-fits;
  }

-- ---- one picture of a reel, with buffers of 15,360 bytes
pub record Buffers (older newer output : List ℕ) : Type 0 where
  pub older-long : length older ≡ 15360
  pub newer-long : length newer ≡ 15360
  pub output-long : length output ≡ 15360

module _ (file : List ℕ) (kept : Kept) (older newer output : List ℕ) (long : Buffers older newer output) where
  abbrev start : Result FileStart RefusedAt
  start = first_header file

  abbrev made : Picture
  made = picture_from file (held_in kept older newer)

  made-fits : length made.output ≤ 15360
  made-fits = omega (arith, lent-within start, (made_alike file (held_in kept older newer) (replicate (lent_bytes start) 0) (length-replicate (lent_bytes start) 0)).long)

  -- the references carried on from it fit both buffers
  carried-fits : KeptWithin (kept_of (carried_after start made (held_in kept older newer))) older newer
  carried-fits = go (eqb made.number accepted) refl
    where
      older-short : length (take kept.older older) ≤ length older
      older-short = rw (length-take kept.older older) (omega arith)

      newer-short : length (take kept.newer newer) ≤ length newer
      newer-short = rw (length-take kept.newer newer) (omega arith)

      same : KeptWithin (kept_of (held_in kept older newer)) older newer
      same = record { older-fits = older-short; newer-fits = newer-short }

      from : (x : Result FileStart RefusedAt) → KeptWithin (kept_of (carried_from x made.output (held_in kept older newer))) older newer
      from (Err refused) = same
      from (Ok read) = type (eqb read.header.coding_type type_b) refl
        where
          type : (b : Bool) → eqb read.header.coding_type type_b ≡ b → KeptWithin (kept_of (carried_from (Ok read) made.output (held_in kept older newer))) older newer
          type true e = rw e same
          type false e = rw e (record { older-fits = omega (arith, newer-short, long.older-long, long.newer-long); newer-fits = omega (arith, made-fits, long.newer-long) })

      go : (b : Bool) → eqb made.number accepted ≡ b → KeptWithin (kept_of (carried_after start made (held_in kept older newer))) older newer
      go true e = rw e (from start)
      go false e = rw e same

  -- its bytes are at the output's start
  bytes-lie : take (length (bytes_of made)) (output_after file kept older newer output) ≡ bytes_of made
  unfolding output_after
  bytes-lie = go (eqb made.number accepted) refl
    where
      alike : Alike (lent_bytes start) (picture_into start file (held_in kept older newer) (take (lent_bytes start) output)) made
      alike = made_alike file (held_in kept older newer) (take (lent_bytes start) output) (lent-part start output (omega (arith, long.output-long)))

      go : (b : Bool) → eqb made.number accepted ≡ b → take (length (bytes_of made)) (output_after file kept older newer output) ≡ bytes_of made
      go true e =
          let number = numbered start file (held_in kept older newer) _ ∙ (ap (λ (a : Answer). number_in a.verdict) alike.answer ∙ (sym (numbered start file (held_in kept older newer) _) ∙ eqb-true made.number accepted e)) in
          rw (e, alike.bytes number) (take-append_seam made.output (drop (lent_bytes start) output))
      go false e = rw e

  -- the output keeps its length
  output-keeps : length (output_after file kept older newer output) ≡ 15360
  unfolding output_after
  output-keeps =
      let lent = (made_alike file (held_in kept older newer) (take (lent_bytes start) output) (lent-part start output (omega (arith, long.output-long)))).long in
      simp (length-append, length-drop) (omega (arith, lent, lent-within start, long.output-long))

-- ---- the items of a reel from a position on; n bounds how many there are
abbrev pub items_left : ℕ → List ℕ → ReelPosition → List ℕ → List ℕ → List Item
items_left n reel position older newer = items_from (position.pictures + 1) (held_in position.kept older newer) (parts_from n reel position.at)

-- no item is left at the reel's end
pub none_left : (n : ℕ) (reel : List ℕ) (position : ReelPosition) (older newer : List ℕ) → length reel ≤ position.at → items_left n reel position older newer ≡ []
unfolding items_from
none_left n reel position older newer h = rw (no-parts n reel position.at h)

-- the next item and those after it, with buffers of 15,360 bytes
module _ (n : ℕ) (reel : List ℕ) (position : ReelPosition) (older newer output : List ℕ) (h : position.at < length reel) (long : Buffers older newer output) where
  abbrev after : AfterNext
  after = next_of reel position older newer output

  pub record PictureNext (played : Played) (size : ℕ) (next : ReelPosition) : Type 0 where
    pub items : items_left (suc n) reel position older newer ≡ picture played (take size after.output) ∷ items_left n reel next after.older after.newer
    pub moved : position.at + 4 ≤ next.at
    pub inside : next.at ≤ length reel
    pub counted : next.pictures ≡ position.pictures + 1
    pub within : KeptWithin next.kept after.older after.newer
    pub buffers : Buffers after.older after.newer after.output

  pub next-cut : after.next ≡ None → items_left (suc n) reel position older newer ≡ cut position.at ∷ []
  unfolding next_of items_from
  next-cut e = go (part_at reel position.at) refl
    where
      go : (p : Option Part) → part_at reel position.at ≡ p → items_left (suc n) reel position older newer ≡ cut position.at ∷ []
      go None f = rw (one-cut n reel position.at h f)
      go (Some part) f = let is = rw f at e in let z : ◌≡◌ {A = ℕ} 0 1 = cc in absurd (omega arith)

  pub next-picture : {next : NextPicture} → after.next ≡ Some next → PictureNext next.played next.length next.position
  unfolding next_of played_as items_from
  next-picture {next} e = go (part_at reel position.at) refl
    where
      go : (p : Option Part) → part_at reel position.at ≡ p → PictureNext next.played next.length next.position
      go None f = let is = rw f at e in let z : ◌≡◌ {A = ℕ} 0 1 = cc in absurd (omega arith)
      go (Some part) f =
          let file = take part.length (drop part.start reel) in
          let made = picture_from file (held_in position.kept older newer) in
          let carried = carried_after (first_header file) made (held_in position.kept older newer) in
          let found = rw f at e in
          let one : Played = record { number = position.pictures + 1; start = first_header file; answer = answer_of made } in
          let on : ReelPosition = record { at = part.start + part.length; pictures = position.pictures + 1; kept = kept_of carried } in
          let is : ◌≡◌ {A = NextPicture} (record { played = one; length = length (bytes_of made); position = on }) next = cc in
          let bytes = bytes-lie file position.kept older newer output long in
          let fits = carried-fits file position.kept older newer output long in
          let held = carried-held carried older newer fits in
          let within = (inside reel position.at).fits part f in
          rw (← is) (record {
            items = rw (one-file n reel position.at h f, f) (λ i. picture one (sym bytes i) ∷ items_from (position.pictures + 1 + 1) (sym held i) (parts_from n reel (part.start + part.length)));
            moved = omega (arith, within.0);
            inside = within.1;
            counted = refl;
            within = rw f (carried-within carried older newer fits);
            buffers = rw f (record {
              older-long = written-length 0 carried.older older ∙ long.older-long;
              newer-long = written-length 0 carried.newer newer ∙ long.newer-long;
              output-long = output-keeps file position.kept older newer output long;
            });
          })
