-- What a picture holds once its header is read: its macroblocks count up from address 0, and an accepted picture has all of them.
-- Assumes nothing.
use mathlib.Core.Bool.{Bool, true, false}
use mathlib.Core.List.{List}
use mathlib.Core.Path.{◌≡◌, refl, sym, ap, ◌∙◌, subst}
use Prim.Native.Nat.{ℕ, ◌≤◌, ◌<◌}
use native.Mathlib.Nat.{le_refl}
use borrow.Author.Tests.{eqb-true}
use lib.IntN.{ℤ}
use lib.ListN.{length, get_or}
use Rattle.std.specs.Prelude.{Result, Ok, Err}
use Rattle.math.specs.Joined.{joined}
use Rattle.refusals.specs.Refusal.{accepted, number_in}
use Rattle.refusals.specs.declared.Refusal.TheVariants.{FileEnds}
use Rattle.refusals.proofs.Laws.{never-accepted}
use Rattle.symbols.specs.Size.{max_macroblocks, macroblock_count}
use Rattle.symbols.specs.declared.header.Header.{Header}
use Rattle.decode_coefficients.specs.Matrices.{default_matrices}
use Rattle.decode_coefficients.specs.declared.matrices.Matrices.{Matrices}
use Rattle.decode_macroblock.specs.Byte.{byte_among}
use Rattle.decode_macroblock.specs.Compensation.{references}
use Rattle.decode_macroblock.specs.Macroblock.{MadeMacroblock, InOrder}
use Rattle.decode_macroblock.proofs.ByteLaws.{macroblocks-length, macroblocks-byte}
use Rattle.decode_macroblock.proofs.OrderLaws.{order-both}
use Rattle.format3_header.specs.FileStart.{file_start_of}
use Rattle.format3_header.specs.declared.file_start.FileStart.{FileStart}
use Rattle.format3_header.specs.declared.file_start.RefusedAt.{RefusedAt}
use Rattle.format3_picture.specs.State.{start_state}
use Rattle.format3_picture.specs.declared.state.PictureState.{PictureState}
use Rattle.format3_picture.specs.Reconstruction.{macroblocks_made_from, macroblocks_of, reconstruction}
use Rattle.format3_picture.specs.Picture.{Picture, is_complete, end_verdict, Answered, refused_at, answered_by, records_from, records_after, symbols_of, with_output, picture_within, picture_refusing, answer_of}
use Rattle.format3_picture.specs.Requires.{StateWithin}
use Rattle.format3_picture.specs.Step.{RecordStep}
use Rattle.format3_picture.specs.Symbols.{Symbol, put_in_front}
use Rattle.format3_picture.specs.declared.reader.Answer.{Answer}
use Rattle.format3_picture.proofs.RecordLaws.{StepCases}
use Rattle.format3_picture.proofs.InvariantLaws.{kept, start-within}
use Rattle.format3_picture.proofs.StartLaws.{Started, header_read}
use Rattle.format3_picture.proofs.SymbolLaws.{made_of, by-records, Stays, stay, made-next, made-of-symbols}

-- ---- the records from an offset on
pub record Counted (s : PictureState) (a : Answered) : Type 0 where
  pub last : ℕ
  pub order : InOrder s.next (made_of s a.gathered) last
  pub inside : last ≤ macroblock_count s.header.size
  pub all : number_in a.answer.verdict ≡ accepted → last ≡ macroblock_count s.header.size

none_more : (s : PictureState) (q : Matrices) {a : Answer} → (StateWithin s → number_in a.verdict ≡ accepted → s.next ≡ macroblock_count s.header.size) → StateWithin s → Counted s (answered_by a q)
unfolding macroblocks_made_from joined
none_more s q all w = record { last = s.next; order = refl; inside = w.inside; all = all w }

all_made : (s : PictureState) → StateWithin s → number_in (end_verdict (is_complete s.turn)) ≡ accepted → s.next ≡ macroblock_count s.header.size
all_made s w = go (is_complete s.turn) refl
  where
    go : (b : Bool) → is_complete s.turn ≡ b → number_in (end_verdict b) ≡ accepted → s.next ≡ macroblock_count s.header.size
    go true e number = eqb-true s.next (macroblock_count s.header.size) (sym w.complete ∙ e)
    go false e number = absurd (never-accepted FileEnds number)

one_more : (s : PictureState) (q : Matrices) {symbol : Symbol} {t : RecordStep} → StepCases q s symbol t → t.applied.verdict ≡ Ok tt
    → (rest : Answered) → Stays t.applied.state t.matrices rest → (StateWithin t.applied.state → Counted t.applied.state rest)
    → StateWithin s → Counted s (record { answer = rest.answer; gathered = put_in_front symbol rest.gathered })
one_more s q {symbol} {t} way v rest stays later w =
    let k = kept q s w way v in
    let next = later k.within in
    record {
      last = next.last;
      order = subst (λ (l : List MadeMacroblock). InOrder s.next l next.last) (sym (made-next s q way v rest.gathered stays))
          (order-both s.next t.applied.state.next next.last t.applied.macroblocks _ k.order next.order);
      inside = subst (λ (h : Header). next.last ≤ macroblock_count h.size) k.header next.inside;
      all = λ number. subst (λ (h : Header). next.last ≡ macroblock_count h.size) k.header (next.all number);
    }

counted : (file : List ℕ) (n at : ℕ) (s : PictureState) (q : Matrices) → Stays s q (records_from file n at s q) × (StateWithin s → Counted s (records_from file n at s q))
counted file =
    by-records file (λ s q a. Stays s q a × (StateWithin s → Counted s a))
    (λ s q. ((λ e. refl), none_more s q (all_made s)))
    (λ s q refusal at. ((λ e. refl), none_more s q (λ w number. absurd (never-accepted refusal number))))
    (λ s q symbol t way v rest later. (stay s q way v rest later.0, one_more s q way v rest later.0 later.1))

-- ---- a file whose header is read
module _ (limit : ℕ) (transform : List ℤ → ℕ → ℤ) (file forward backward output : List ℕ) where
  abbrev picture : Picture
  picture = picture_within limit transform file forward backward output

  pub no_header : {stop : RefusedAt} → file_start_of limit file (length output) (length forward) (length backward) ≡ Err stop → picture ≡ with_output (refused_at stop.refusal stop.place 0 0) output
  unfolding picture_refusing
  no_header e = rw e

  module _ {h : Header} {end : ℕ} (e : file_start_of limit file (length output) (length forward) (length backward) ≡ Ok (record { header = h; end = end })) where
    pub header-read-is : picture ≡ with_output (records_after file h end).answer (reconstruction transform (references forward backward) h (symbols_of file h end) output)
    unfolding picture_refusing
    header-read-is = rw e

    start : Started limit file forward backward output h end
    start = header_read limit file forward backward output e

    -- the file's macroblocks
    pub record Filled (macroblocks : List MadeMacroblock) : Type 0 where
      pub last : ℕ
      pub order : InOrder 0 macroblocks last
      pub inside : last ≤ macroblock_count h.size
      pub all : number_in (records_after file h end).answer.verdict ≡ accepted → last ≡ macroblock_count h.size

    pub filled : Filled (macroblocks_of h (symbols_of file h end))
    filled =
        let c = (counted file (length file) end (start_state h) default_matrices).1 (start-within h start.header) in
        subst Filled (sym (made-of-symbols file h end)) (record { last = c.last; order = c.order; inside = c.inside; all = c.all })

    pub header-read-long : length picture.output ≡ length output
    header-read-long = rw header-read-is (macroblocks-length transform (references forward backward) h.size (le_refl max_macroblocks) start.header.size 0 filled.last (macroblocks_of h (symbols_of file h end)) output
        filled.order filled.inside start.caller.lent.output-whole) ∙ sym start.caller.lent.output-whole

    pub header-read-byte : (i : ℕ) → i < length output → get_or picture.output i 0 ≡ byte_among transform (references forward backward) h.size (macroblocks_of h (symbols_of file h end)) i (get_or output i 0)
    header-read-byte i low = rw header-read-is (macroblocks-byte transform (references forward backward) h.size (le_refl max_macroblocks) start.header.size 0 filled.last (macroblocks_of h (symbols_of file h end)) output i
        filled.order filled.inside start.caller.lent.output-whole (subst (λ (n : ℕ). i < n) start.caller.lent.output-whole low))

  -- ---- the picture's number is that of its verdict
  number-is : picture.number ≡ number_in picture.verdict
  number-is = go (file_start_of limit file (length output) (length forward) (length backward)) refl
    where
      go : (x : Result FileStart RefusedAt) → file_start_of limit file (length output) (length forward) (length backward) ≡ x → picture.number ≡ number_in picture.verdict
      go (Ok start) e = rw (header-read-is e)
      go (Err stop) e = rw (no_header e)

  pub number-given : {a : Answer} → answer_of picture ≡ a → picture.number ≡ number_in a.verdict
  number-given e = number-is ∙ ap (λ (a : Answer). number_in a.verdict) e
