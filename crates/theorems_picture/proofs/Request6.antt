-- Request No. 6 of a picture: its rows are the total over the macroblocks made, by any inverse transform. Assumes nothing.
use mathlib.Core.List.{List}
use mathlib.Core.Path.{◌≡◌, refl, ap, ◌∙◌}
use Prim.Native.Nat.{ℕ, ◌*◌, ◌≤◌, zero-le}
use lib.IntN.{ℤ}
use lib.ListN.{length}
use Rattle.std.specs.Prelude.{Result, Ok, Err}
use Rattle.refusals.specs.declared.Refusal.{Refusal}
use Rattle.symbols.specs.declared.header.Header.{Header}
use Rattle.decode_macroblock.specs.Macroblock.{MadeMacroblock}
use Rattle.decode_macroblock.specs.Rows.{rows_of}
use Rattle.format3_header.specs.declared.file_start.FileStart.{FileStart}
use Rattle.format3_header.specs.declared.file_start.RefusedAt.{RefusedAt}
use Rattle.format3_picture.specs.Picture.{Picture, picture_within, picture_refusing}
use Rattle.format3_picture.specs.declared.reader.Answer.{Answer}
use Rattle.format3_picture.proofs.PictureLaws.{no_header}
use Rattle.theorems_picture.specs.Applies.{Reached, Passing, file_start, Applies}
use Rattle.theorems_picture.proofs.Demand1.{stands_at, made-count, stopped-is}
use Rattle.theorems_picture.proofs.Demand2.{refusal-given}
use Rattle.theorems_picture.proofs.PassingLaws.{Stop, at-record, at-end, answer_at, stopped}

module _ (limit : ℕ) (transform : List ℤ → ℕ → ℤ) (file forward backward output : List ℕ) where
  abbrev picture : Picture
  picture = picture_within limit transform file forward backward output

  module _ {h : Header} {end : ℕ} (e : file_start limit file forward backward output ≡ Ok (record { header = h; end = end })) where
    -- the answer's rows and count are the state's
    rows_at : {r : Reached} (s : Stop file h end r) → (answer_at file h end s).rows ≡ r.state.rows
    rows_at (at-record inside refusal v) = refl
    rows_at (at-end past) = refl

    made_at : {r : Reached} (s : Stop file h end r) → (answer_at file h end s).made ≡ r.state.made
    made_at (at-record inside refusal v) = refl
    made_at (at-end past) = refl

    pub rows-reached : {r : Reached} → Passing file h end r → Stop file h end r → picture.rows ≡ rows_of r.macroblocks
    rows-reached passing stop =
        ap (λ (p : Picture). p.rows) (stopped-is limit transform file forward backward output e passing stop)
        ∙ rows_at stop
        ∙ (stands_at limit transform file forward backward output e passing).rows

    pub made-reached : {r : Reached} → Passing file h end r → Stop file h end r → picture.made ≡ length r.macroblocks
    made-reached passing stop =
        ap (λ (p : Picture). p.made) (stopped-is limit transform file forward backward output e passing stop)
        ∙ made_at stop
        ∙ made-count limit transform file forward backward output e passing

    most-read : picture.rows ≤ 48 * picture.made
    most-read =
        let s = stopped file h end in
        rw (stopped-is limit transform file forward backward output e s.passing s.stop, rows_at s.stop, made_at s.stop)
        (stands_at limit transform file forward backward output e s.passing).within.worked

  pub rows-refused : (refusal : Refusal) (place : ℕ) (before : List MadeMacroblock) → Applies limit file forward backward output refusal place before → picture.rows ≡ rows_of before
  rows-refused refusal place before a = ap (λ (x : Answer). x.rows) (refusal-given limit transform file forward backward output refusal place before a)

  pub rows-no-header : {stop : RefusedAt} → file_start limit file forward backward output ≡ Err stop → picture.rows ≡ 0
  rows-no-header e = ap (λ (p : Picture). p.rows) (no_header limit transform file forward backward output e)

  pub rows-most : picture.rows ≤ 48 * picture.made
  rows-most = go (file_start limit file forward backward output) refl
    where
      go : (x : Result FileStart RefusedAt) → file_start limit file forward backward output ≡ x → picture.rows ≤ 48 * picture.made
      go (Err stop) e = rw (rows-no-header e) zero-le
      go (Ok start) e = most-read e

pub any-transform : (limit : ℕ) (transform other : List ℤ → ℕ → ℤ) (file forward backward output : List ℕ) → (picture_within limit transform file forward backward output).rows ≡ (picture_within limit other file forward backward output).rows
unfolding picture_refusing
any-transform limit transform other file forward backward output = go (file_start limit file forward backward output) refl
  where
    go : (x : Result FileStart RefusedAt) → file_start limit file forward backward output ≡ x → (picture_within limit transform file forward backward output).rows ≡ (picture_within limit other file forward backward output).rows
    go (Err stop) e = rw e
    go (Ok start) e = rw e
