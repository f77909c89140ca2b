-- The macroblocks that records make are those that clause 2.4.4 makes of the records' symbols. Assumes nothing.
use mathlib.Core.Bool.{Bool, true, false, cond}
use mathlib.Core.List.{List, [], ◌∷◌, ◌++◌, append_assoc}
use mathlib.Core.Path.{◌≡◌, refl, sym, ◌∙◌, subst}
use Prim.Native.Nat.{ℕ, zero, suc}
use native.Mathlib.Omega.{arith}
use lib.Dec.{T, eqb, leb}
use lib.ListN.{length}
use Rattle.std.specs.Prelude.{Result, Ok, Err, ⊤}
use Rattle.math.specs.Joined.{joined}
use Rattle.refusals.specs.declared.Refusal.{Refusal}
use Rattle.symbols.specs.Size.{macroblock_count}
use Rattle.symbols.specs.declared.header.Header.{Header}
use Rattle.symbols.specs.Macroblock.{Macroblock}
use Rattle.decode_coefficients.specs.Matrices.{default_matrices}
use Rattle.decode_coefficients.specs.declared.matrices.Matrices.{Matrices}
use Rattle.decode_macroblock.specs.Macroblock.{MadeMacroblock}
use Rattle.format3_records.specs.Record.{matrix_kind, macroblock_kind}
use Rattle.format3_records.specs.Turn.{in_turn, turn_after}
use Rattle.format3_records.specs.declared.turn.Turn.TheVariants as Turn
use Rattle.format3_picture.specs.State.{start_state}
use Rattle.format3_picture.specs.declared.state.PictureState.{PictureState}
use Rattle.format3_picture.specs.Reconstruction.{macroblocks_made_from, macroblocks_of_slice, macroblocks_of}
use Rattle.format3_picture.specs.Picture.{Answered, answered_by, end_answer, refused_at, followed, records_from, records_from_refusing, records_after, symbols_of}
use Rattle.format3_picture.specs.Step.{RecordStep, step_at}
use Rattle.format3_picture.specs.Symbols.{Symbol, symbol_at, Gathered, put_in_front}
use Rattle.format3_picture.proofs.RecordLaws.{made_record, StepCases, refuses, matrix-passes, slice-starts, macroblocks-made, step-cases}

-- what 2.4.4 makes of the symbols of some records, in the state before them
abbrev pub made_of : PictureState → Gathered → List MadeMacroblock
made_of s g = macroblocks_made_from s.header g.matrices s.next s.slice g.further ++ joined (macroblocks_of_slice s.header g.matrices) g.slices

-- no matrix record is in turn after a macroblock
none_after : (q : Matrices) (s : PictureState) (m : Macroblock) → in_turn (made_record q s m).state.turn matrix_kind ≡ false
none_after q s m = go (eqb (made_record q s m).state.next (macroblock_count s.header.size))
  where
    go : (complete : Bool) → in_turn (turn_after macroblock_kind complete) matrix_kind ≡ false
    go true = refl
    go false = refl

-- ---- over all records
module _ (file : List ℕ) where
  -- induction over the records: at the file's end, at a refused record, and at a record that passes with the records after it
  pub by-records : (P : PictureState → Matrices → Answered → Type 0)
      → ((s : PictureState) (q : Matrices) → P s q (answered_by (end_answer (length file) s) q))
      → ((s : PictureState) (q : Matrices) (refusal : Refusal) (at : ℕ) → P s q (answered_by (refused_at refusal at s.made s.rows) q))
      → ((s : PictureState) (q : Matrices) (symbol : Symbol) (t : RecordStep) → StepCases q s symbol t → t.applied.verdict ≡ Ok tt
      → (rest : Answered) → P t.applied.state t.matrices rest → P s q (record { answer = rest.answer; gathered = put_in_front symbol rest.gathered }))
      → (n at : ℕ) (s : PictureState) (q : Matrices) → P s q (records_from file n at s q)
  unfolding records_from_refusing
  by-records P ends stops passes zero at s q = ends s q
  by-records P ends stops passes (suc n) at s q = over (leb (length file) at) (let t = step_at file at s q in by-records P ends stops passes n t.end t.applied.state t.matrices)
    where
      rest : Answered
      rest = let t = step_at file at s q in records_from file n t.end t.applied.state t.matrices

      by-verdict : P (step_at file at s q).applied.state (step_at file at s q).matrices rest → (v : Result ⊤ Refusal) → (step_at file at s q).applied.verdict ≡ v
          → P s q (followed v (λ refusal. answered_by (refused_at refusal at s.made s.rows) q) (symbol_at file at s) rest)
      by-verdict later (Err refusal) e = stops s q refusal at
      by-verdict later (Ok passed) e = passes s q _ _ (step-cases file at s q) e rest later

      over : (b : Bool) → P (step_at file at s q).applied.state (step_at file at s q).matrices rest
          → P s q (cond b (answered_by (end_answer (length file) s) q) (followed (step_at file at s q).applied.verdict (λ refusal. answered_by (refused_at refusal at s.made s.rows) q) (symbol_at file at s) rest))
      over true later = ends s q
      over false later = by-verdict later (step_at file at s q).applied.verdict refl

-- if no matrix record is in turn, the matrices stay
abbrev pub Stays : PictureState → Matrices → Answered → Type 0
Stays s q a = in_turn s.turn matrix_kind ≡ false → a.gathered.matrices ≡ q

pub stay : (s : PictureState) (q : Matrices) {symbol : Symbol} {t : RecordStep} → StepCases q s symbol t → t.applied.verdict ≡ Ok tt
    → (rest : Answered) → Stays t.applied.state t.matrices rest → in_turn s.turn matrix_kind ≡ false → (put_in_front symbol rest.gathered).matrices ≡ q
stay s q (refuses refusal) v rest later e = let z : ◌≡◌ {A = ℕ} 0 1 = cc in absurd (omega arith)
stay s q (matrix-passes turn body) v rest later e = absurd (subst T (sym turn ∙ e) tt)
stay s q (slice-starts turn header legal start) v rest later e = later refl
stay s q (macroblocks-made begun m legal) v rest later e = later (none_after q s m)

pub matrices-stay : (file : List ℕ) (n at : ℕ) (s : PictureState) (q : Matrices) → Stays s q (records_from file n at s q)
matrices-stay file = by-records file Stays (λ s q e. refl) (λ s q refusal at e. refl) (λ s q symbol t. stay s q)

-- after the header, the first macroblock needs a slice
abbrev Starts : PictureState → Matrices → Answered → Type 0
Starts s q a = s.turn ≡ Turn.Header → a.gathered.further ≡ []

start : (s : PictureState) (q : Matrices) {symbol : Symbol} {t : RecordStep} → StepCases q s symbol t → t.applied.verdict ≡ Ok tt
    → (rest : Answered) → Starts t.applied.state t.matrices rest → s.turn ≡ Turn.Header → (put_in_front symbol rest.gathered).further ≡ []
start s q (refuses refusal) v rest later e = let z : ◌≡◌ {A = ℕ} 0 1 = cc in absurd (omega arith)
start s q (matrix-passes turn body) v rest later e = later refl
start s q (slice-starts turn header legal begins) v rest later e = refl
start s q (macroblocks-made begun m legal) v rest later e = absurd (begun e)

slice_first : (file : List ℕ) (n at : ℕ) (s : PictureState) (q : Matrices) → Starts s q (records_from file n at s q)
slice_first file = by-records file Starts (λ s q e. refl) (λ s q refusal at e. refl) (λ s q symbol t. start s q)

-- ---- a record that passes makes the macroblocks of its symbol, before those of the records after it
pub made-next : (s : PictureState) (q : Matrices) {symbol : Symbol} {t : RecordStep} → StepCases q s symbol t → t.applied.verdict ≡ Ok tt
    → (g : Gathered) → (in_turn t.applied.state.turn matrix_kind ≡ false → g.matrices ≡ t.matrices)
    → made_of s (put_in_front symbol g) ≡ t.applied.macroblocks ++ made_of t.applied.state g
unfolding macroblocks_made_from joined
made-next s q (refuses refusal) v g stays = let z : ◌≡◌ {A = ℕ} 0 1 = cc in absurd (omega arith)
made-next s q (matrix-passes turn body) v g stays = refl
made-next s q (slice-starts turn header legal begins) v g stays = rw begins
made-next s q (macroblocks-made begun m legal) v g stays =
    let after : PictureState = (made_record q s m).state in
    let P : Matrices → Type 0 = λ matrices.
    macroblocks_made_from s.header matrices s.next s.slice (m ∷ g.further) ++ joined (macroblocks_of_slice s.header matrices) g.slices
    ≡ (made_record q s m).macroblocks ++ (macroblocks_made_from after.header matrices after.next after.slice g.further ++ joined (macroblocks_of_slice after.header matrices) g.slices) in
    subst P (sym (stays (none_after q s m))) (rw append_assoc)

-- ---- the whole
pub made-of-symbols : (file : List ℕ) (h : Header) (end : ℕ) → macroblocks_of h (symbols_of file h end) ≡ made_of (start_state h) (records_after file h end).gathered
unfolding macroblocks_made_from
made-of-symbols file h end = rw (slice_first file (length file) end (start_state h) default_matrices refl)
