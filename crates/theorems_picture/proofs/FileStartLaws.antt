-- Reading a record causes refusals up to 21, never 18. So does reading a file's start, which also causes 27 beyond the reader's limit, and 7 only at
-- the file's end. Assumes nothing.
use mathlib.Core.Bool.{Bool, true, false, cond, ◌&&◌}
use mathlib.Core.List.{List}
use mathlib.Core.Logic.{◌⊎◌, inl, inr}
use mathlib.Core.Path.{◌≡◌, refl, ap, subst}
use Prim.Native.Nat.{ℕ, ◌≤◌, ◌<◌}
use native.Mathlib.Omega.{arith}
use borrow.Author.Tests.{leb-true, leb-false}
use lib.Dec.{T, leb, eqb, lit≤}
use lib.ListN.{length, get_or, take, drop}
use Rattle.std.specs.Prelude.{Result, Ok, Err, ⊤}
use Rattle.refusals.specs.Refusal.{number_of}
use Rattle.refusals.specs.declared.Refusal.{Refusal}
use Rattle.refusals.specs.declared.Refusal.TheVariants.{FileEmpty, Version, FileEnds, ForwardVectorOutside, BackwardVectorOutside, MacroblockLimit}
use Rattle.refusals.proofs.Laws.{of_reading}
use Rattle.symbols.specs.Guard.{require◌else◌then◌}
use Rattle.symbols.specs.Header.{header_with}
use Rattle.symbols.specs.Size.{max_macroblocks, macroblock_count}
use Rattle.symbols.specs.declared.header.Header.{Header}
use Rattle.symbols.proofs.Guard.{require-cases, require-all}
use Rattle.format3_records.specs.Record.{record_of}
use Rattle.format3_records.specs.declared.record.Record.{Record}
use Rattle.format3_header.specs.Header.{header_of}
use Rattle.format3_header.specs.Lengths.{caller_verdict}
use Rattle.format3_header.specs.FileStart.{version, placed_at, first_record, first_header, file_start_of}
use Rattle.format3_header.specs.declared.file_start.FileStart.{FileStart}
use Rattle.format3_header.specs.declared.file_start.RefusedAt.{RefusedAt}
use Rattle.format3_header.proofs.Laws.FileStart.{begun}
use Rattle.format3_picture.proofs.CallerLaws.{CallerRefusal, RefusedByCaller, caller-refusal}
use Rattle.theorems_picture.proofs.RefusalLaws.{FoundOf, of-found}

-- ---- at most 21, and neither the file's end (7) nor a vector (18)
abbrev neither_test : ℕ → Bool
neither_test n = leb n 21 && cond (eqb n (number_of FileEnds)) false (cond (eqb n (number_of ForwardVectorOutside)) false true)

pub record NeitherEndNorVector (refusal : Refusal) : Type 0 where
  pub is-listed : number_of refusal ≤ 21
  pub not_end : number_of refusal ≡ number_of FileEnds → ⊥
  pub not-forward : number_of refusal ≡ number_of ForwardVectorOutside → ⊥

pub neither : (refusal : Refusal) → T (neither_test (number_of refusal)) → NeitherEndNorVector refusal
neither refusal t = record {
  is-listed = go (leb (number_of refusal) 21) refl t;
  not_end = λ e. subst (λ (n : ℕ). T (neither_test n)) e t;
  not-forward = λ e. subst (λ (n : ℕ). T (neither_test n)) e t;
}
  where
    go : (b : Bool) → leb (number_of refusal) 21 ≡ b → T (b && cond (eqb (number_of refusal) (number_of FileEnds)) false (cond (eqb (number_of refusal) (number_of ForwardVectorOutside)) false true)) → number_of refusal ≤ 21
    go true e p = leb-true (number_of refusal) 21 e
    go false e p = absurd p

-- a refusal of reading a record: 3 to 6, and 9 to 17
pub of-reading : (refusal : Refusal) → T (of_reading refusal) → NeitherEndNorVector refusal
of-reading refusal t = go (leb 3 n) (leb n 6) (leb 9 n) (leb n 17) refl refl refl t
  where
    n : ℕ
    n = number_of refusal

    go : (a b c d : Bool) → leb n 6 ≡ b → leb 9 n ≡ c → leb n 17 ≡ d → T (a && cond b true (c && d)) → NeitherEndNorVector refusal
    go true true c d e f g p = let few = leb-true n 6 e in record { is-listed = omega (arith, few); not_end = λ q. omega (arith, few); not-forward = λ q. omega (arith, few) }
    go true false true true e f g p =
        let some = leb-true 9 n f in
        let few = leb-true n 17 g in
        record { is-listed = omega (arith, few); not_end = λ q. omega (arith, some); not-forward = λ q. omega (arith, few) }
    go true false true false e f g p = absurd p
    go true false false d e f g p = absurd p
    go false b c d e f g p = absurd p

-- those of a header's body
abbrev HeaderNeither : Result Header Refusal → Type 0
HeaderNeither (Ok h) = T true
HeaderNeither (Err refusal) = NeitherEndNorVector refusal

header-neither : (body : List ℕ) → HeaderNeither (header_of body)
unfolding header_of header_with
header-neither body =
    require-all HeaderNeither _ _ _ (neither _ tt) λ long.
    require-all HeaderNeither _ _ _ (neither _ tt) λ legal. tt

-- ---- the file's start
module _ (limit : ℕ) (file : List ℕ) where
  pub record ListedAt (refusal : Refusal) (place : ℕ) : Type 0 where
    pub is-listed : (number_of refusal ≤ 21) ⊎ ((refusal ≡ MacroblockLimit) × (limit < max_macroblocks))
    pub not-forward : number_of refusal ≡ number_of ForwardVectorOutside → ⊥
    pub not-backward : number_of refusal ≡ number_of BackwardVectorOutside → ⊥
    pub at-end : number_of refusal ≡ number_of FileEnds → place ≡ length file

  abbrev pub StartListed : Result FileStart RefusedAt → Type 0
  StartListed (Ok start) = T true
  StartListed (Err stop) = ListedAt stop.refusal stop.place

  anywhere : {refusal : Refusal} {place : ℕ} → NeitherEndNorVector refusal → ListedAt refusal place
  anywhere o = record { is-listed = inl o.is-listed; not-forward = o.not-forward; not-backward = λ e. omega (arith, o.is-listed); at-end = λ e. absurd (o.not_end e) }

  tests-listed : (rest : Result FileStart RefusedAt) → StartListed rest → StartListed (
      require leb 1 (length file) else Err (record { refusal = FileEmpty; place = 0 }) then
      require eqb (get_or file 0 0) version else Err (record { refusal = Version; place = 0 }) then
      require leb 2 (length file) else Err (record { refusal = FileEnds; place = 1 }) then
      rest)
  tests-listed rest p =
      require-cases StartListed _ _ _ (λ f. anywhere (neither _ tt)) λ some.
      require-cases StartListed _ _ _ (λ f. anywhere (neither _ tt)) λ same.
      require-cases StartListed _ _ _ (λ f. record { is-listed = inl (lit≤ tt); not-forward = λ e. omega arith; not-backward = λ e. omega arith; at-end = λ e. omega (arith, leb-true 1 (length file) some, leb-false 2 (length file) f) }) λ more. p

  abbrev RecordNeither : Result FileStart Refusal → Type 0
  RecordNeither (Ok start) = T true
  RecordNeither (Err refusal) = NeitherEndNorVector refusal

  record-neither : RecordNeither (first_record file)
  unfolding first_record
  record-neither = found (record_of file 1) refl (of-found file 1)
    where
      legal : (r : Record) → record_of file 1 ≡ Ok r → (a : Result Header Refusal) → header_of (take r.length (drop r.start file)) ≡ a → HeaderNeither a → RecordNeither (first_record file)
      legal r e (Err refusal) l o = rw (e, l) (require-all RecordNeither _ _ _ (neither _ tt) λ turn. o)
      legal r e (Ok h) l o = rw (e, l) (require-all RecordNeither _ _ _ (neither _ tt) λ turn. tt)

      found : (r : Result Record Refusal) → record_of file 1 ≡ r → FoundOf r → RecordNeither (first_record file)
      found (Err refusal) e t = rw e (of-reading refusal t)
      found (Ok r) e t = legal r e (header_of (take r.length (drop r.start file))) refl (header-neither (take r.length (drop r.start file)))

  placed : (x : Result FileStart Refusal) → RecordNeither x → StartListed (placed_at 1 x)
  placed (Ok start) o = tt
  placed (Err refusal) o = anywhere o

  first-listed : StartListed (first_header file)
  unfolding first_header
  first-listed = tests-listed _ (placed (first_record file) record-neither)

  -- the reader's limit, and the lengths of the lent buffers
  by-caller : {refusal : Refusal} (h : Header) → macroblock_count h.size ≤ max_macroblocks → CallerRefusal limit h refusal → ListedAt refusal 1
  by-caller {refusal} h few (inl (same, more)) = record {
    is-listed = inr (same, omega (arith, few, more));
    not-forward = λ e. omega (arith, ap number_of same, e);
    not-backward = λ e. omega (arith, ap number_of same, e);
    at-end = λ e. absurd (omega (arith, ap number_of same, e));
  }
  by-caller h few (inr (low, high)) = anywhere (record { is-listed = high; not_end = λ e. omega (arith, low, e); not-forward = λ e. omega (arith, low, e) })

  pub start-listed : (output forward backward : ℕ) → StartListed (file_start_of limit file output forward backward)
  unfolding file_start_of
  start-listed output forward backward = go (first_header file) refl first-listed
    where
      lent : (start : FileStart) → first_header file ≡ Ok start → (v : Result ⊤ Refusal) → caller_verdict limit start.header output forward backward ≡ v → RefusedByCaller limit start.header v
          → StartListed (file_start_of limit file output forward backward)
      lent start e (Ok passed) l o = rw (e, l) tt
      lent start e (Err refusal) l o = rw (e, l) (by-caller start.header (begun file e).header.size.few o)

      go : (x : Result FileStart RefusedAt) → first_header file ≡ x → StartListed x → StartListed (file_start_of limit file output forward backward)
      go (Err stop) e p = rw e p
      go (Ok start) e p = lent start e (caller_verdict limit start.header output forward backward) refl (caller-refusal limit start.header output forward backward)
