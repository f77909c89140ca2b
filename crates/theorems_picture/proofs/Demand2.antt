-- Demand 2 of a picture: when it is accepted, which refusal is given, and what an accepted picture is. Assumes nothing.
use mathlib.Core.List.{List}
use mathlib.Core.Logic.{◌⊎◌, inl, inr}
use mathlib.Core.Path.{◌≡◌, refl, sym, ap, ap₂, ◌∙◌, subst}
use Prim.Native.Nat.{ℕ, ◌≤◌, ◌<◌}
use native.Mathlib.Decide.{dec_lt}
use native.Mathlib.Omega.{arith}
use borrow.Author.Tests.{eq-eqb, ne_eqb}
use lib.Dec.{eqb}
use lib.IntN.{ℤ}
use lib.ListN.{length}
use Rattle.std.specs.Prelude.{Result, Ok, Err}
use Rattle.refusals.specs.Refusal.{accepted, number_of}
use Rattle.refusals.specs.declared.Refusal.{Refusal}
use Rattle.refusals.specs.declared.Refusal.TheVariants.{FileEnds, BackwardVectorOutside, MacroblockLimit}
use Rattle.refusals.proofs.Laws.{numbers-differ, never-accepted}
use Rattle.symbols.specs.Size.{macroblock_count}
use Rattle.symbols.specs.declared.header.Header.{Header}
use Rattle.decode_macroblock.specs.Compensation.{references}
use Rattle.decode_macroblock.specs.Macroblock.{MadeMacroblock, InOrder}
use Rattle.decode_macroblock.specs.Owner.{owner_of}
use Rattle.decode_macroblock.specs.Rows.{rows_of}
use Rattle.decode_macroblock.proofs.OwnerLaws.{owner-below}
use Rattle.format3_header.specs.declared.file_start.FileStart.{FileStart}
use Rattle.format3_header.specs.declared.file_start.RefusedAt.{RefusedAt}
use Rattle.format3_picture.specs.Picture.{Picture, is_complete, end_answer, refused_at, symbols_of, picture_within, answer_of}
use Rattle.format3_picture.specs.Reconstruction.{macroblocks_of, reconstruction}
use Rattle.format3_picture.specs.declared.reader.Answer.{Answer}
use Rattle.format3_picture.proofs.PictureLaws.{no_header, header-read-is, number-given}
use Rattle.theorems_picture.specs.Applies.{Reached, Passing, file_start, Applies, to_start, to-record, to_end, AppliesTo}
use Rattle.theorems_picture.proofs.Demand1.{Listed, record-not-end, number-listed, start, stands_at, made-few, made-count, in_order, stopped-is}
use Rattle.theorems_picture.proofs.FileStartLaws.{StartListed, start-listed}
use Rattle.theorems_picture.proofs.PassingLaws.{Stands, Stop, at-record, at-end, stops, stopped}

module _ (limit : ℕ) (transform : List ℤ → ℕ → ℤ) (file forward backward output : List ℕ) where
  abbrev picture : Picture
  picture = picture_within limit transform file forward backward output

  module _ {h : Header} {end : ℕ} (e : file_start limit file forward backward output ≡ Ok (record { header = h; end = end })) {r : Reached} (passing : Passing file h end r) where
    there : Stands file h end r
    there = stands_at limit transform file forward backward output e passing

    -- complete where no macroblock is missing
    complete-is : is_complete r.state.turn ≡ eqb r.state.next (macroblock_count h.size)
    complete-is = subst (λ (g : Header). is_complete r.state.turn ≡ eqb r.state.next (macroblock_count g.size)) there.header there.within.complete

    none-less : (r.state.made < macroblock_count h.size → ⊥) → r.state.made ≡ macroblock_count h.size
    none-less all = omega (arith, made-few limit transform file forward backward output e passing, there.within.counted)

    -- ---- at the file's end
    module _ (past : length file ≤ r.offset) where
      at-end-is : answer_of picture ≡ end_answer (length file) r.state
      at-end-is = ap (λ (p : Picture). answer_of p) (stopped-is limit transform file forward backward output e passing (at-end past))

      some-missing : r.state.made < macroblock_count h.size → answer_of picture ≡ refused_at FileEnds (length file) r.state.made r.state.rows
      some-missing fewer = at-end-is ∙ rw (complete-is, ne_eqb r.state.next (macroblock_count h.size) (λ q. omega (arith, fewer, there.within.counted)))

      none-missing : (r.state.made < macroblock_count h.size → ⊥) → answer_of picture ≡ record { verdict = Ok tt; place = length file; made = r.state.made; rows = r.state.rows }
      none-missing all = at-end-is ∙ rw (complete-is, eq-eqb r.state.next (macroblock_count h.size) (omega (arith, none-less all, there.within.counted)))

  -- ---- the refusal that applies is given
  pub refusal-given : (refusal : Refusal) (place : ℕ) (before : List MadeMacroblock) → Applies limit file forward backward output refusal place before → answer_of picture ≡ refused_at refusal place (length before) (rows_of before)
  unfolding rows_of
  refusal-given refusal place before (to_start _ _ e) = ap (λ (p : Picture). answer_of p) (no_header limit transform file forward backward output e)
  refusal-given refusal place before (to-record h end e r passing inside _ v) =
      ap (λ (p : Picture). answer_of p) (stopped-is limit transform file forward backward output e passing (at-record inside refusal v))
      ∙ ap₂ (refused_at refusal place) (made-count limit transform file forward backward output e passing) (there e passing).rows
  refusal-given refusal place before (to_end h end e r passing past missing) =
      some-missing e passing past missing ∙ ap₂ (refused_at FileEnds (length file)) (made-count limit transform file forward backward output e passing) (there e passing).rows

  pub none-applies : picture.number ≡ accepted → (refusal : Refusal) (place : ℕ) (before : List MadeMacroblock) → Applies limit file forward backward output refusal place before → ⊥
  none-applies number refusal place before a = never-accepted refusal (sym (number-given limit transform file forward backward output (refusal-given refusal place before a)) ∙ number)

  pub applies-listed : {refusal : Refusal} {place : ℕ} {before : List MadeMacroblock} → Applies limit file forward backward output refusal place before
      → (number_of refusal ≤ 21) ⊎ (refusal ≡ BackwardVectorOutside) ⊎ (refusal ≡ MacroblockLimit)
  applies-listed {refusal} {place} {before} a = go (number-listed limit transform file forward backward output)
    where
      given : picture.number ≡ number_of refusal
      given = number-given limit transform file forward backward output (refusal-given refusal place before a)

      go : Listed limit picture.number → (number_of refusal ≤ 21) ⊎ (refusal ≡ BackwardVectorOutside) ⊎ (refusal ≡ MacroblockLimit)
      go (inl few) = inl (subst (λ (n : ℕ). n ≤ 21) given few)
      go (inr (inl e)) = inr (inl (numbers-differ refusal BackwardVectorOutside (sym given ∙ e)))
      go (inr (inr (e, less))) = inr (inr (numbers-differ refusal MacroblockLimit (sym given ∙ e)))

  -- ---- a refusal applies, or every record passes and no macroblock is missing
  data Decided : Type 0 where
    refused : (refusal : Refusal) (place : ℕ) (before : List MadeMacroblock) → Applies limit file forward backward output refusal place before → Decided
    whole : (h : Header) (end : ℕ) → file_start limit file forward backward output ≡ Ok (record { header = h; end = end }) → (r : Reached) → Passing file h end r → length file ≤ r.offset → (r.state.made < macroblock_count h.size → ⊥) → Decided

  decided : Decided
  decided = go (file_start limit file forward backward output) refl
    where
      stop : (h : Header) (end : ℕ) → file_start limit file forward backward output ≡ Ok (record { header = h; end = end }) → (r : Reached) → Passing file h end r → Stop file h end r → Decided
      stop h end e r passing (at-record inside refusal v) = refused _ _ _ (to-record h end e r passing inside refusal v)
      stop h end e r passing (at-end past) = elim (dec_lt r.state.made (macroblock_count h.size)) [
        | yes missing ↦ refused _ _ _ (to_end h end e r passing past missing)
        | no all ↦ whole h end e r passing past all
      ]

      go : (x : Result FileStart RefusedAt) → file_start limit file forward backward output ≡ x → Decided
      go (Err stop) e = refused _ _ _ (to_start stop.refusal stop.place e)
      go (Ok read) e = let s = stopped file read.header read.end in stop read.header read.end e s.reached s.passing s.stop

  pub accepted-or-refused : (picture.number ≡ accepted) ⊎ AppliesTo limit file forward backward output
  accepted-or-refused = go decided
    where
      go : Decided → (picture.number ≡ accepted) ⊎ AppliesTo limit file forward backward output
      go (refused refusal place before a) = inr (record { refusal = refusal; place = place; before = before; applies = a })
      go (whole h end e r passing past all) = inl (number-given limit transform file forward backward output (none-missing e passing past all))

  pub accepted-by-none : ((refusal : Refusal) (place : ℕ) (before : List MadeMacroblock) → Applies limit file forward backward output refusal place before → ⊥) → picture.number ≡ accepted
  accepted-by-none none = go accepted-or-refused
    where
      go : (picture.number ≡ accepted) ⊎ AppliesTo limit file forward backward output → picture.number ≡ accepted
      go (inl number) = number
      go (inr a) = absurd (none a.refusal a.place a.before a.applies)

  -- ---- an accepted picture: every record passes, and its symbols make every macroblock
  pub record Accepted : Type 0 where
    pub header : Header
    pub end : ℕ
    pub header_read : file_start limit file forward backward output ≡ Ok (record { header = header; end = end })
    pub answer : answer_of picture ≡ record { verdict = Ok tt; place = length file; made = macroblock_count header.size; rows = rows_of (macroblocks_of header (symbols_of file header end)) }
    pub reached : Reached
    pub passing : Passing file header end reached
    pub none_left : reached.offset ≡ length file
    pub same : reached.macroblocks ≡ macroblocks_of header (symbols_of file header end)
    pub order : InOrder 0 (macroblocks_of header (symbols_of file header end)) (macroblock_count header.size)

  pub accepted-whole : picture.number ≡ accepted → Accepted
  accepted-whole number = go decided
    where
      go : Decided → Accepted
      go (refused refusal place before a) = absurd (none-applies number refusal place before a)
      go (whole h end e r passing past all) =
          let made = none-less e passing all in
          let same = sym (stops file h end passing (at-end past)).macroblocks in
          let counted : length r.macroblocks ≡ macroblock_count h.size = omega (arith, made, made-count limit transform file forward backward output e passing) in
          record {
            header = h;
            end = end;
            header_read = e;
            answer = none-missing e passing past all ∙ ap₂ (λ (m n : ℕ). record { verdict = Ok tt; place = length file; made = m; rows = n }) made ((there e passing).rows ∙ ap rows_of same);
            reached = r;
            passing = passing;
            none_left = omega (arith, past, (there e passing).in-file);
            same = same;
            order = rw (stops file h end passing (at-end past)).macroblocks (subst (InOrder 0 r.macroblocks) counted (in_order limit transform file forward backward output e passing));
          }

  -- each byte belongs to a macroblock of the picture
  pub owner-inside : {h : Header} {end : ℕ} → file_start limit file forward backward output ≡ Ok (record { header = h; end = end }) → (i : ℕ) → i < length output → owner_of h.size i < macroblock_count h.size
  owner-inside {h} e i low = let s = start limit transform file forward backward output e in owner-below h.size s.header.size i (omega (arith, low, s.caller.lent.output-whole))

  -- the output, accepted or refused, is what 2.4.4 makes of the symbols
  pub output-of-symbols : {h : Header} {end : ℕ} → file_start limit file forward backward output ≡ Ok (record { header = h; end = end })
      → picture.output ≡ reconstruction transform (references forward backward) h (symbols_of file h end) output
  output-of-symbols e = ap (λ (p : Picture). p.output) (header-read-is limit transform file forward backward output e)

  -- ---- 7 is given at the file's end, with macroblocks missing
  pub seven-at-end : picture.number ≡ number_of FileEnds → picture.place ≡ length file
  seven-at-end number = go decided
    where
      given : {refusal : Refusal} {place : ℕ} {before : List MadeMacroblock} → Applies limit file forward backward output refusal place before → number_of refusal ≡ number_of FileEnds → place ≡ length file
      given (to_start refusal place e) n = (subst (StartListed limit file) e (start-listed limit file (length output) (length forward) (length backward))).at-end n
      given (to-record h end e r passing inside refusal v) n = absurd (record-not-end file r v n)
      given (to_end h end e r passing past missing) n = refl

      go : Decided → picture.place ≡ length file
      go (refused refusal place before a) =
          let answer = refusal-given refusal place before a in
          ap (λ (x : Answer). x.place) answer ∙ given a (sym (number-given limit transform file forward backward output answer) ∙ number)
      go (whole h end e r passing past all) = absurd (never-accepted FileEnds (sym number ∙ number-given limit transform file forward backward output (none-missing e passing past all)))

  pub seven-fewer : picture.number ≡ number_of FileEnds → (h : Header) (end : ℕ) → file_start limit file forward backward output ≡ Ok (record { header = h; end = end }) → picture.made < macroblock_count h.size
  seven-fewer number g start other = go decided
    where
      given : {refusal : Refusal} {place : ℕ} {before : List MadeMacroblock} → Applies limit file forward backward output refusal place before → number_of refusal ≡ number_of FileEnds → length before < macroblock_count g.size
      given (to_start refusal place e) n = let z : ◌≡◌ {A = ℕ} 0 1 = cc in absurd (omega arith)
      given (to-record h end e r passing inside refusal v) n = absurd (record-not-end file r v n)
      given (to_end h end e r passing past missing) n =
          let same : ◌≡◌ {A = FileStart} (record { header = h; end = end }) (record { header = g; end = start }) = cc in
          subst (λ (s : FileStart). length r.macroblocks < macroblock_count s.header.size) same (omega (arith, missing, made-count limit transform file forward backward output e passing))

      go : Decided → picture.made < macroblock_count g.size
      go (refused refusal place before a) =
          let answer = refusal-given refusal place before a in
          rw (ap (λ (x : Answer). x.made) answer) (given a (sym (number-given limit transform file forward backward output answer) ∙ number))
      go (whole h end e r passing past all) = absurd (never-accepted FileEnds (sym number ∙ number-given limit transform file forward backward output (none-missing e passing past all)))
