-- A picture depends only on the file, the references and the output's length, not on what the output held. Assumes nothing.
use mathlib.Core.List.{List, [], ◌∷◌}
use mathlib.Core.Path.{◌≡◌, refl, sym, ap, ◌∙◌}
use Prim.Native.Nat.{ℕ, ◌+◌, ◌≤◌, ◌<◌, zero-le}
use native.Mathlib.Decide.{ℕ_discrete}
use native.Mathlib.Omega.{arith}
use borrow.Author.Tests.{eq-eqb, ne_eqb}
use lib.IntN.{ℤ}
use lib.ListN.{length}
use Rattle.std.specs.Prelude.{Result, Ok, Err}
use lib.Seq.{ext_get_or}
use Rattle.refusals.specs.Refusal.{accepted}
use Rattle.refusals.proofs.Laws.{never-accepted}
use Rattle.symbols.specs.declared.header.Header.{Header}
use Rattle.symbols.specs.declared.size.PictureSize.{PictureSize}
use Rattle.decode_macroblock.specs.Byte.{byte_among}
use Rattle.decode_macroblock.specs.Compensation.{References, references}
use Rattle.decode_macroblock.specs.Macroblock.{MadeMacroblock, InOrder}
use Rattle.decode_macroblock.specs.Owner.{owner_of}
use Rattle.decode_macroblock.proofs.OwnerLaws.{owner-below}
use Rattle.format3_header.specs.FileStart.{file_start_of}
use Rattle.format3_header.specs.declared.file_start.FileStart.{FileStart}
use Rattle.format3_header.specs.declared.file_start.RefusedAt.{RefusedAt}
use Rattle.format3_picture.specs.Alone.{Alike}
use Rattle.format3_picture.specs.Picture.{Picture, answer_of, symbols_of, picture_within}
use Rattle.format3_picture.specs.Reconstruction.{macroblocks_of}
use Rattle.format3_picture.proofs.PictureLaws.{no_header, header-read-is, filled, header-read-long, header-read-byte}
use Rattle.format3_picture.proofs.StartLaws.{header_read}

-- a byte of a macroblock that is made doesn't depend on its old value
forgets : (transform : List ℤ → ℕ → ℤ) (r : References) (s : PictureSize) (first last : ℕ) (macroblocks : List MadeMacroblock) (i old other : ℕ)
    → InOrder first macroblocks last → first ≤ owner_of s i → owner_of s i < last → byte_among transform r s macroblocks i old ≡ byte_among transform r s macroblocks i other
unfolding byte_among
forgets transform r s first last [] i old other order low high = absurd (omega arith)
forgets transform r s first last (m ∷ macroblocks) i old other order low high = elim (ℕ_discrete m.address (owner_of s i)) [
  | yes q ↦ rw (eq-eqb m.address (owner_of s i) q)
  | no q ↦ rw (ne_eqb m.address (owner_of s i) q)
      (forgets transform r s (first + 1) last macroblocks i old other order.1 (omega (arith, order.0)) high)
]

module _ (limit : ℕ) (transform : List ℤ → ℕ → ℤ) (file forward backward output other : List ℕ) (long : length output ≡ length other) where
  abbrev here : Picture
  here = picture_within limit transform file forward backward output

  abbrev there : Picture
  there = picture_within limit transform file forward backward other

  -- the file's start is the same with both outputs
  also : {x : Result FileStart RefusedAt} → file_start_of limit file (length output) (length forward) (length backward) ≡ x → file_start_of limit file (length other) (length forward) (length backward) ≡ x
  also e = ap (λ (n : ℕ). file_start_of limit file n (length forward) (length backward)) (sym long) ∙ e

  no-header-alike : {stop : RefusedAt} → file_start_of limit file (length output) (length forward) (length backward) ≡ Err stop → Alike (length output) here there
  no-header-alike {stop} e =
      let a = no_header limit transform file forward backward output e in
      let b = no_header limit transform file forward backward other (also e) in
      record {
        answer = ap (λ (p : Picture). answer_of p) a ∙ sym (ap (λ (p : Picture). answer_of p) b);
        bytes = λ number. absurd (never-accepted stop.refusal (sym (ap (λ (p : Picture). p.number) a) ∙ number));
        long = ap (λ (p : Picture). length p.output) a;
      }

  module _ {h : Header} {end : ℕ} (e : file_start_of limit file (length output) (length forward) (length backward) ≡ Ok (record { header = h; end = end })) where
    same_bytes : here.number ≡ accepted → here.output ≡ there.output
    same_bytes number =
        let start = header_read limit file forward backward output e in
        let macroblocks = filled limit transform file forward backward output e in
        let all = macroblocks.all (sym (ap (λ (p : Picture). p.number) (header-read-is limit transform file forward backward output e)) ∙ number) in
        let kept = header-read-long limit transform file forward backward output e in
        ext_get_or 0 here.output there.output (kept ∙ long ∙ sym (header-read-long limit transform file forward backward other (also e))) (λ i b.
        let low : i < length output = omega (arith, kept) in
        let below = owner-below h.size start.header.size i (omega (arith, low, start.caller.lent.output-whole)) in
        header-read-byte limit transform file forward backward output e i low
        ∙ forgets transform (references forward backward) h.size 0 macroblocks.last (macroblocks_of h (symbols_of file h end)) i _ _ macroblocks.order zero-le (omega (arith, below, all))
        ∙ sym (header-read-byte limit transform file forward backward other (also e) i (omega (arith, low, long))))

    header-read-alike : Alike (length output) here there
    header-read-alike = record {
      answer = ap (λ (p : Picture). answer_of p) (header-read-is limit transform file forward backward output e) ∙ sym (ap (λ (p : Picture). answer_of p) (header-read-is limit transform file forward backward other (also e)));
      bytes = same_bytes;
      long = header-read-long limit transform file forward backward output e;
    }

  alike : (x : Result FileStart RefusedAt) → file_start_of limit file (length output) (length forward) (length backward) ≡ x → Alike (length output) here there
  alike (Err stop) e = no-header-alike e
  alike (Ok start) e = header-read-alike e

-- rules out a picture through which an earlier one shows
pub picture-alone : (limit : ℕ) (transform : List ℤ → ℕ → ℤ) (file forward backward output other : List ℕ) → length output ≡ length other
    → Alike (length output) (picture_within limit transform file forward backward output) (picture_within limit transform file forward backward other)
picture-alone limit transform file forward backward output other long = alike limit transform file forward backward output other long _ refl
