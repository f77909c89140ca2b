-- Request No. 1 of a picture: when 18 and 23 are given, and that 23 is given only for a B picture. Assumes nothing.
use mathlib.Core.Bool.{true}
use mathlib.Core.List.{List}
use mathlib.Core.Logic.{◌⊎◌, inl, inr}
use mathlib.Core.Path.{◌≡◌, refl, sym, ap, ◌∙◌, subst}
use Prim.Native.Nat.{ℕ, ◌<◌}
use native.Mathlib.Omega.{arith}
use borrow.Author.Tests.{leb-true}
use lib.IntN.{ℤ}
use lib.ListN.{length}
use Rattle.std.specs.Prelude.{Ok, Err}
use Rattle.refusals.specs.Refusal.{accepted, number_of}
use Rattle.refusals.specs.declared.Refusal.{Refusal}
use Rattle.refusals.specs.declared.Refusal.TheVariants.{FileEnds, ForwardVectorOutside, BackwardVectorOutside}
use Rattle.refusals.proofs.Laws.{numbers-differ, never-accepted}
use Rattle.symbols.specs.Header.{type_b}
use Rattle.symbols.specs.declared.header.Header.{Header}
use Rattle.symbols.proofs.Parsed.{all-at}
use Rattle.decode_macroblock.specs.Macroblock.{MadeMacroblock}
use Rattle.format3_records.specs.Turn.{in_turn}
use Rattle.format3_records.proofs.Laws.Record.{Inside, inside}
use Rattle.format3_header.specs.declared.file_start.FileStart.{FileStart}
use Rattle.format3_macroblock.proofs.Laws.Macroblock.{macroblock-legal}
use Rattle.format3_picture.specs.MacroblockRecord.{context_of}
use Rattle.format3_picture.specs.Picture.{Picture, picture_within}
use Rattle.format3_picture.proofs.PictureLaws.{number-given}
use Rattle.format3_picture.proofs.RecordLaws.{found_after}
use Rattle.theorems_picture.specs.Applies.{Reached, verdict_at, Passing, file_start, Applies, to_start, to-record, to_end, AppliesTo}
use Rattle.theorems_picture.specs.Misfit.{FirstMisfit, macroblocks_of_record, VectorRefused}
use Rattle.theorems_picture.proofs.Demand1.{stands_at}
use Rattle.theorems_picture.proofs.Demand2.{refusal-given, accepted-or-refused}
use Rattle.theorems_picture.proofs.DecidingLaws.{RefusedByVector, why-refused, vectors-decide, is-macroblock, OfVector}
use Rattle.theorems_picture.proofs.FileStartLaws.{NeitherEndNorVector, StartListed, ListedAt, start-listed}
use Rattle.theorems_picture.proofs.MisfitLaws.{plan-misfit, plan-refused, backward-in-B}
use Rattle.theorems_picture.proofs.PassingLaws.{begun}

-- 18 and 23 are not the refusals of reading or of the file's end
neither-vector : {refusal : Refusal} → OfVector refusal → (number_of refusal ≡ number_of ForwardVectorOutside → ⊥) → (number_of refusal ≡ number_of BackwardVectorOutside → ⊥) → ⊥
neither-vector (inl e) not-forward not-backward = not-forward (ap number_of e)
neither-vector (inr e) not-forward not-backward = not-backward (ap number_of e)

not_end : {refusal : Refusal} → OfVector refusal → FileEnds ≡ refusal → ⊥
not_end (inl e) same = omega (arith, ap number_of same, ap number_of e)
not_end (inr e) same = omega (arith, ap number_of same, ap number_of e)

module _ (limit : ℕ) (transform : List ℤ → ℕ → ℤ) (file forward backward output : List ℕ) where
  abbrev picture : Picture
  picture = picture_within limit transform file forward backward output

  -- the record that a vector refuses
  record AtRecord (refusal : Refusal) : Type 0 where
    header : Header
    end : ℕ
    header_read : file_start limit file forward backward output ≡ Ok (record { header = header; end = end })
    reached : Reached
    passing : Passing file header end reached
    in-file : reached.offset < length file
    verdict : verdict_at file reached ≡ Err refusal
    vector : RefusedByVector file reached.offset reached.state reached.matrices refusal

  at-record : {refusal given : Refusal} {place : ℕ} {before : List MadeMacroblock} → OfVector refusal → given ≡ refusal → Applies limit file forward backward output given place before → AtRecord refusal
  at-record {refusal} of same (to_start given place e) = absurd (neither-vector (subst OfVector (sym same) of) listed.not-forward listed.not-backward)
    where
      listed : ListedAt limit file given place
      listed = subst (StartListed limit file) e (start-listed limit file (length output) (length forward) (length backward))
  at-record {refusal} of same (to-record h end e r passing inside given v) = go (why-refused file r.offset r.state r.matrices refusal (v ∙ ap Err same))
    where
      go : NeitherEndNorVector refusal ⊎ RefusedByVector file r.offset r.state r.matrices refusal → AtRecord refusal
      go (inl neither) = absurd (neither-vector of neither.not-forward (λ e. omega (arith, neither.is-listed, e)))
      go (inr vector) = record { header = h; end = end; header_read = e; reached = r; passing = passing; in-file = inside; verdict = v ∙ ap Err same; vector = vector }
  at-record of same (to_end h end e r passing past missing) = absurd (not_end of same)

  by_number_lem : {refusal : Refusal} → OfVector refusal → picture.number ≡ number_of refusal → AtRecord refusal
  by_number_lem {refusal} of number = go (accepted-or-refused limit transform file forward backward output)
    where
      go : (picture.number ≡ accepted) ⊎ AppliesTo limit file forward backward output → AtRecord refusal
      go (inl none) = absurd (never-accepted refusal (sym number ∙ none))
      go (inr a) =
          let given = refusal-given limit transform file forward backward output a.refusal a.place a.before a.applies in
          at-record of (numbers-differ a.refusal refusal (sym (number-given limit transform file forward backward output given) ∙ number)) a.applies

  -- ---- 18 and 23 exactly when a record's first misfit is forward or backward
  pub vector-refused : {refusal : Refusal} → OfVector refusal → picture.number ≡ number_of refusal → VectorRefused limit file forward backward output refusal
  vector-refused {refusal} of number =
      let a = by_number_lem of number in
      let x = a.vector.read in
      let there = stands_at limit transform file forward backward output a.header_read a.passing in
      let kind = is-macroblock file a.reached.offset a.reached.state a.reached.matrices x (begun file a.header a.end a.passing) in
      record {
        header = a.header;
        end = a.end;
        header_read = a.header_read;
        reached = a.reached;
        passing = a.passing;
        start = x.start;
        count = x.count;
        found = x.found ∙ ap (λ (k : ℕ). Ok (record { kind = k; start = x.start; length = x.count })) kind;
        in-turn = subst (λ (k : ℕ). in_turn a.reached.state.turn k ≡ true) kind x.in-turn;
        symbols = x.symbols;
        legal = x.legal;
        misfit = subst (λ (h : Header). FirstMisfit h.size refusal (macroblocks_of_record a.reached x.symbols)) there.header (plan-misfit _ _ _ refusal a.vector.verdict);
      }

  pub refused-vector : {refusal : Refusal} → VectorRefused limit file forward backward output refusal → picture.number ≡ number_of refusal
  refused-vector {refusal} x =
      let r = x.reached in
      let there = stands_at limit transform file forward backward output x.header_read x.passing in
      let misfit = subst (λ (h : Header). FirstMisfit h.size refusal (macroblocks_of_record r x.symbols)) (sym there.header) x.misfit in
      let v = vectors-decide file r.offset r.state r.matrices x.found x.in-turn x.legal ∙ plan-refused _ _ _ refusal misfit in
      number-given limit transform file forward backward output (refusal-given limit transform file forward backward output refusal _ _ (to-record x.header x.end x.header_read r x.passing in-file refusal v))
    where
      in-file : x.reached.offset < length file
      in-file =
          let fits = (subst (Inside file) x.found (inside file x.reached.offset)).fits in
          omega (arith, fits, found_after file x.reached.offset _ x.found)

  -- ---- 23 only for a B picture
  pub backward-only-in-B : picture.number ≡ number_of BackwardVectorOutside → (h : Header) (end : ℕ) → file_start limit file forward backward output ≡ Ok (record { header = h; end = end }) → h.coding_type ≡ type_b
  backward-only-in-B number h end e =
      let a = by_number_lem (inr refl) number in
      let r = a.reached in
      let there = stands_at limit transform file forward backward output a.header_read a.passing in
      let x = a.vector.read in
      let legal = all-at (macroblock-legal (context_of r.state) _) x.legal in
      let used = backward-in-B r.state there.within x.symbols legal a.vector.verdict in
      let least = leb-true type_b r.state.header.coding_type used in
      let read : ◌≡◌ {A = FileStart} (record { header = a.header; end = a.end }) (record { header = h; end = end }) = cc in
      let same = ap (λ (s : FileStart). s.header) read in
      subst (λ (g : Header). g.coding_type ≡ type_b) (there.header ∙ same) (omega (arith, least, there.within.header.last-type))
