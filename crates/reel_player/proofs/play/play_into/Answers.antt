-- `play_into` meets its contract: it keeps the picture that it has just made. Assumes nothing.
use mathlib.Core.List.{List}
use mathlib.Core.Path.{◌≡◌, sym, ap, ◌∙◌}
use mathlib.Core.Bool.{true, false}
use Prim.Native.Nat.{ℕ}
use lib.ListN.{length}
use Rattle.refusals.specs.Refusal.{number_in}
use Rattle.std.specs.Prelude.{Result, is_err}
use Rattle.format3_header.specs.declared.file_start.FileStart.{FileStart}
use Rattle.format3_header.specs.declared.file_start.RefusedAt.{RefusedAt}
use Rattle.format3_writer.specs.Written.{written}
use Rattle.format3_picture.specs.Picture.{Picture, answer_of}
use Rattle.format3_picture.specs.declared.reader.Answer.{Answer}
use Rattle.reel_parts.specs.declared.references.Kept.{Kept}
use Rattle.reel_player.specs.Items.{carried_from}
use Rattle.reel_player.specs.Next.{AfterPicture, held_in, kept_of, played_as}
use Rattle.reel_player.specs.Requires.{KeptWithin}
use Rattle.reel_player.specs.declared.play.PlayedFile.{PlayedFile}
use Rattle.reel_player.proofs.PlayLaws.{nothing-kept, numbered, refused-number, accepted-number}
use Rattle.reel_player.proofs.play.play_into.Goals as goal

-- the definition's result, given that the answer and output are those of the picture made
module _ (number : ℕ) (start : Result FileStart RefusedAt) (made : Picture) (kept : Kept) (older newer : List ℕ) (answer : Answer) (same : answer ≡ answer_of made) where
  abbrev after : AfterPicture
  after = played_as number start made kept older newer

  abbrev file : ℕ → Kept → PlayedFile
  file n k = record { played = record { number = number; start = start; answer = answer }; length = n; kept = k }

  refused : made.number ≡ number_in made.verdict → KeptWithin kept older newer → is_err answer.verdict ≡ true
      → (file 0 kept ≡ after.shows) × ((older ≡ after.older) × (newer ≡ after.newer))
  unfolding played_as
  refused counted within h =
      let given = nothing-kept kept older newer within in
      rw (← same, refused-number made counted (ap (λ (a : Answer). is_err a.verdict) (sym same) ∙ h)) (ap (λ (k : Kept). file 0 k) given.0, given.1)

  kept_on : made.number ≡ number_in made.verdict → {output older' newer' : List ℕ} {kept' : Kept} → output ≡ made.output → is_err answer.verdict ≡ false
      → (kept' ≡ kept_of (carried_from start output (held_in kept older newer))) × ((older' ≡ written 0 (carried_from start output (held_in kept older newer)).older older) × (newer' ≡ written 0 (carried_from start output (held_in kept older newer)).newer newer))
      → (file (length output) kept' ≡ after.shows) × ((older' ≡ after.older) × (newer' ≡ after.newer))
  unfolding played_as
  kept_on counted {output} e h given =
      rw (← same, ← e, accepted-number made counted (ap (λ (a : Answer). is_err a.verdict) (sym same) ∙ h)) (ap (λ (k : Kept). file (length output) k) given.0, given.1)

pub returns-then-is_err-clause-value : goal.returns-then-is_err-clause-value
returns-then-is_err-clause-value c =
    let a = c.args in
    let failed : is_err c.make-answer.result.verdict ≡ true = cc in
    let given = refused a.number a.start _ a.kept a.older.now a.newer.now _ c.make-answer.ensures.value (numbered a.start a.file.now (held_in a.kept a.older.now a.newer.now) a.output.now) c.requires failed in
    given.0

pub returns-then-is_err-clause-older_after : goal.returns-then-is_err-clause-older_after
returns-then-is_err-clause-older_after c =
    let a = c.args in
    let failed : is_err c.make-answer.result.verdict ≡ true = cc in
    let given = refused a.number a.start _ a.kept a.older.now a.newer.now _ c.make-answer.ensures.value (numbered a.start a.file.now (held_in a.kept a.older.now a.newer.now) a.output.now) c.requires failed in
    given.1.0

pub returns-then-is_err-clause-newer_after : goal.returns-then-is_err-clause-newer_after
returns-then-is_err-clause-newer_after c =
    let a = c.args in
    let failed : is_err c.make-answer.result.verdict ≡ true = cc in
    let given = refused a.number a.start _ a.kept a.older.now a.newer.now _ c.make-answer.ensures.value (numbered a.start a.file.now (held_in a.kept a.older.now a.newer.now) a.output.now) c.requires failed in
    given.1.1

pub returns-clause-value : goal.returns-clause-value
returns-clause-value c =
    let a = c.args in
    let passed : is_err c.make-answer.result.verdict ≡ false = cc in
    let given = kept_on a.number a.start _ a.kept a.older.now a.newer.now _ c.make-answer.ensures.value (numbered a.start a.file.now (held_in a.kept a.older.now a.newer.now) a.output.now) c.make-answer.ensures.output_after passed (c.carry-after.ensures.value, (c.carry-after.ensures.older_after, c.carry-after.ensures.newer_after)) in
    given.0

pub returns-clause-older_after : goal.returns-clause-older_after
returns-clause-older_after c =
    let a = c.args in
    let passed : is_err c.make-answer.result.verdict ≡ false = cc in
    let given = kept_on a.number a.start _ a.kept a.older.now a.newer.now _ c.make-answer.ensures.value (numbered a.start a.file.now (held_in a.kept a.older.now a.newer.now) a.output.now) c.make-answer.ensures.output_after passed (c.carry-after.ensures.value, (c.carry-after.ensures.older_after, c.carry-after.ensures.newer_after)) in
    given.1.0

pub returns-clause-newer_after : goal.returns-clause-newer_after
returns-clause-newer_after c =
    let a = c.args in
    let passed : is_err c.make-answer.result.verdict ≡ false = cc in
    let given = kept_on a.number a.start _ a.kept a.older.now a.newer.now _ c.make-answer.ensures.value (numbered a.start a.file.now (held_in a.kept a.older.now a.newer.now) a.output.now) c.make-answer.ensures.output_after passed (c.carry-after.ensures.value, (c.carry-after.ensures.older_after, c.carry-after.ensures.newer_after)) in
    given.1.1
