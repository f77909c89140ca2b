-- What `play_next` returns and leaves in its buffers, in terms of `Items`.
use Rattle.std.specs.Prelude.{List, ◌++◌, ℕ, ◌+◌, length, take, drop, Option, Some, None, Result}
use Rattle.format3_header.specs.FileStart.{first_header}
use Rattle.format3_header.specs.declared.file_start.FileStart.{FileStart}
use Rattle.format3_header.specs.declared.file_start.RefusedAt.{RefusedAt}
use Rattle.format3_writer.specs.Written.{written}
use Rattle.format3_picture.specs.Picture.{Picture, answer_of}
use Rattle.reel_parts.specs.Part.{part_at}
use Rattle.reel_parts.specs.declared.part.Part.{Part}
use Rattle.reel_parts.specs.declared.references.Kept.{Kept}
use Rattle.reel_player.specs.Items.{Carried, lent_bytes, picture_into, picture_from, bytes_of, carried_after}
use Rattle.reel_player.specs.declared.play.NextPicture.{NextPicture}
use Rattle.reel_player.specs.declared.play.PlayedFile.{PlayedFile}
use Rattle.reel_player.specs.declared.play.ReelPosition.{ReelPosition}

-- the reel's start: no picture yet, no references
abbrev pub reel_start : ReelPosition
reel_start = record { at = 0; pictures = 0; kept = record { older = 0; newer = 0 } }

-- the references, read from the start of two buffers
abbrev pub held_in : Kept → List ℕ → List ℕ → Carried
held_in kept older newer = record { older = take kept.older older; newer = take kept.newer newer }

-- the lengths of the references
abbrev pub kept_of : Carried → Kept
kept_of carried = record { older = length carried.older; newer = length carried.newer }

-- the result of playing a picture: what is returned, and both reference buffers
pub record AfterPicture : Type 0 where
  pub shows : PlayedFile
  pub older : List ℕ
  pub newer : List ℕ

unfoldable pub played_as : ℕ → Result FileStart RefusedAt → Picture → Kept → List ℕ → List ℕ → AfterPicture
played_as number start made kept older newer =
    let after = carried_after start made (held_in kept older newer) in
    record {
      shows = record {
        played = record { number = number; start = start; answer = answer_of made };
        length = length (bytes_of made);
        kept = kept_of after;
      };
      older = written 0 after.older older;
      newer = written 0 after.newer newer;
    }

-- a picture written into a lent output, and a picture found in a reel
abbrev pub played_into : ℕ → Result FileStart RefusedAt → List ℕ → Kept → List ℕ → List ℕ → List ℕ → AfterPicture
played_into number start file kept older newer output = played_as number start (picture_into start file (held_in kept older newer) output) kept older newer

abbrev pub played_file : ℕ → List ℕ → Kept → List ℕ → List ℕ → AfterPicture
played_file number file kept older newer = played_as number (first_header file) (picture_from file (held_in kept older newer)) kept older newer

-- the output buffer afterwards: the picture in its lent part, the rest untouched
unfoldable pub output_after : List ℕ → Kept → List ℕ → List ℕ → List ℕ → List ℕ
output_after file kept older newer output =
    let start = first_header file in
    (picture_into start file (held_in kept older newer) (take (lent_bytes start) output)).output ++ drop (lent_bytes start) output

-- what `play_next` returns, and the three buffers afterwards
pub record AfterNext : Type 0 where
  pub next : Option NextPicture
  pub older : List ℕ
  pub newer : List ℕ
  pub output : List ℕ

unfoldable pub next_of : List ℕ → ReelPosition → List ℕ → List ℕ → List ℕ → AfterNext
next_of reel position older newer output = go (part_at reel position.at)
  where
    go : Option Part → AfterNext
    go None = record { next = None; older = older; newer = newer; output = output }
    go (Some part) =
        let number = position.pictures + 1 in
        let file = take part.length (drop part.start reel) in
        let after = played_file number file position.kept older newer in
        record {
          next = Some (record {
            played = after.shows.played;
            length = after.shows.length;
            position = record { at = part.start + part.length; pictures = number; kept = after.shows.kept };
          });
          older = after.older;
          newer = after.newer;
          output = output_after file position.kept older newer output;
        }
