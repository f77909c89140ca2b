-- The entry `read_header` and the reader of pictures read a file's start alike: they refuse the same ones, by 1 to 8, and accept legal headers only.
-- Assumes nothing.
use mathlib.Core.Bool.{true}
use mathlib.Core.List.{List}
use mathlib.Core.Logic.{inl, inr}
use mathlib.Core.Path.{◌≡◌, refl, sym, ◌∙◌, ap, subst}
use Prim.Native.Nat.{ℕ, ◌*◌, ◌≤◌, ◌<◌}
use native.Mathlib.Omega.{arith}
use lib.Dec.{T, leb, eqb, lit≤}
use lib.IntN.{ℤ}
use lib.ListN.{length, get_or, take, drop}
use Rattle.std.specs.Prelude.{Result, Ok, Err, ⊤}
use Rattle.refusals.specs.Refusal.{accepted, number_of}
use Rattle.refusals.specs.declared.Refusal.{Refusal}
use Rattle.refusals.specs.declared.Refusal.TheVariants.{FileEmpty, Version, FileEnds}
use Rattle.refusals.proofs.Laws.{never-accepted}
use Rattle.symbols.specs.Guard.{require◌else◌then◌}
use Rattle.symbols.specs.Header.{type_i, type_b, legal_header, header_with}
use Rattle.symbols.specs.Size.{legal_size, macroblock_count, picture_bytes}
use Rattle.symbols.specs.declared.header.Header.{Header}
use Rattle.symbols.proofs.Guard.{require-all, both}
use Rattle.symbols.proofs.Laws.Size.{SizeLegal, size-legal}
use Rattle.format3_records.specs.Record.{record_of}
use Rattle.format3_records.specs.declared.record.Record.{Record}
use Rattle.format3_header.specs.Header.{header_of}
use Rattle.format3_header.specs.Lengths.{caller_verdict}
use Rattle.format3_header.specs.FileStart.{version, placed_at, first_record, first_header, file_start_of, file_header_of}
use Rattle.format3_header.specs.declared.file_start.FileStart.{FileStart}
use Rattle.format3_header.specs.declared.file_start.RefusedAt.{RefusedAt}
use Rattle.format3_header.proofs.Laws.FileStart.{begun}
use Rattle.format3_picture.specs.Picture.{Picture, picture_within}
use Rattle.format3_picture.proofs.InvariantLaws.{step-ends}
use Rattle.format3_picture.proofs.PictureLaws.{no_header, header-read-is}
use Rattle.format3_picture.proofs.StartLaws.{header_read}
use Rattle.format3_picture.proofs.CallerLaws.{CallerRefusal, RefusedByCaller, caller-refusal}
use Rattle.theorems_picture.specs.Applies.{Reached, Passing, none, one_more, file_start}
use Rattle.theorems_picture.proofs.PassingLaws.{Stop, at-record, at-end, answer_at, stops, stopped}

-- ---- the refusals of a start are 1 to 8, and a header that is read has a legal size
abbrev FoundFew : Result Record Refusal → Type 0
FoundFew (Ok found) = T true
FoundFew (Err refusal) = number_of refusal ≤ 8

found-few : (file : List ℕ) (at : ℕ) → FoundFew (record_of file at)
unfolding record_of
found-few file at =
    require-all FoundFew _ _ _ (lit≤ tt) λ head.
    require-all FoundFew _ _ _ (lit≤ tt) λ some.
    require-all FoundFew _ _ _ (lit≤ tt) λ fits.
    require-all FoundFew _ _ _ (lit≤ tt) λ kind. tt

abbrev HeaderFew : Result Header Refusal → Type 0
HeaderFew (Ok h) = SizeLegal h.size.width h.size.height
HeaderFew (Err refusal) = number_of refusal ≤ 8

header-few : (body : List ℕ) → HeaderFew (header_of body)
unfolding header_of header_with legal_header
header-few body =
    require-all HeaderFew _ _ _ (lit≤ tt) λ long.
    require-all HeaderFew _ _ _ (lit≤ tt) λ legal. size-legal _ _ (both (legal_size (get_or body 0 0) (get_or body 1 0)) _ legal).0

module _ (file : List ℕ) where
  abbrev StartFew : Result FileStart RefusedAt → Type 0
  StartFew (Ok start) = SizeLegal start.header.size.width start.header.size.height
  StartFew (Err stop) = number_of stop.refusal ≤ 8

  tests-few : (rest : Result FileStart RefusedAt) → StartFew rest → StartFew (
      require leb 1 (length file) else Err (record { refusal = FileEmpty; place = 0 }) then
      require eqb (get_or file 0 0) version else Err (record { refusal = Version; place = 0 }) then
      require leb 2 (length file) else Err (record { refusal = FileEnds; place = 1 }) then
      rest)
  tests-few rest p =
      require-all StartFew _ _ _ (lit≤ tt) λ some.
      require-all StartFew _ _ _ (lit≤ tt) λ same.
      require-all StartFew _ _ _ (lit≤ tt) λ more. p

  abbrev RecordFew : Result FileStart Refusal → Type 0
  RecordFew (Ok start) = SizeLegal start.header.size.width start.header.size.height
  RecordFew (Err refusal) = number_of refusal ≤ 8

  record-few : RecordFew (first_record file)
  unfolding first_record
  record-few = found (record_of file 1) refl (found-few file 1)
    where
      legal : (r : Record) → record_of file 1 ≡ Ok r → (a : Result Header Refusal) → header_of (take r.length (drop r.start file)) ≡ a → HeaderFew a → RecordFew (first_record file)
      legal r e (Err refusal) l few = rw (e, l) (require-all RecordFew _ _ _ (lit≤ tt) λ turn. few)
      legal r e (Ok h) l few = rw (e, l) (require-all RecordFew _ _ _ (lit≤ tt) λ turn. few)

      found : (r : Result Record Refusal) → record_of file 1 ≡ r → FoundFew r → RecordFew (first_record file)
      found (Err refusal) e few = rw e few
      found (Ok r) e few = legal r e (header_of (take r.length (drop r.start file))) refl (header-few (take r.length (drop r.start file)))

  placed-few : (x : Result FileStart Refusal) → RecordFew x → StartFew (placed_at 1 x)
  placed-few (Ok start) few = few
  placed-few (Err refusal) few = few

  first-few : StartFew (first_header file)
  unfolding first_header
  first-few = tests-few _ (placed-few (first_record file) record-few)

  pub number-at-most-8 : (file_header_of (first_header file)).number ≤ 8
  number-at-most-8 = go (first_header file) first-few
    where
      go : (x : Result FileStart RefusedAt) → StartFew x → (file_header_of x).number ≤ 8
      go (Ok start) few = lit≤ tt
      go (Err stop) few = few

-- ---- the reader of pictures refuses the same starts, and refuses an accepted one within its limit only for the lengths of the lent buffers
lengths-within : (limit : ℕ) (h : Header) {refusal : Refusal} → CallerRefusal limit h refusal → macroblock_count h.size ≤ limit → (19 ≤ number_of refusal) × (number_of refusal ≤ 21)
lengths-within limit h (inl (same, more)) within = absurd (omega (arith, more, within))
lengths-within limit h (inr lengths) within = lengths

module _ (limit : ℕ) (transform : List ℤ → ℕ → ℤ) (file forward backward output : List ℕ) where
  abbrev picture : Picture
  picture = picture_within limit transform file forward backward output

  -- if the start is read, the picture's place is the next record or after it
  place_after : {h : Header} {end : ℕ} → file_start limit file forward backward output ≡ Ok (record { header = h; end = end }) → end ≤ picture.place
  place_after {h} {end} e =
      let s = stopped file h end in
      rw (header-read-is limit transform file forward backward output e, (stops file h end s.passing s.stop).answer) (by-stop s.passing s.stop)
    where
      passed : {r : Reached} → Passing file h end r → end ≤ r.offset
      passed none = omega arith
      passed (one_more {r} passing v) = omega (arith, passed passing, (step-ends file r.offset r.state r.matrices v).beyond)

      by-stop : {r : Reached} → Passing file h end r → (s : Stop file h end r) → end ≤ (answer_at file h end s).place
      by-stop passing (at-record inside refusal v) = passed passing
      by-stop passing (at-end past) = (header_read limit file forward backward output e).in-file

  pub record AsRead (x : Result FileStart RefusedAt) : Type 0 where
    pub same_number : ¬ ((file_header_of x).number ≡ accepted) → picture.number ≡ (file_header_of x).number
    pub nothing-made : ¬ ((file_header_of x).number ≡ accepted) → picture.made ≡ 0
    pub unchanged : ¬ ((file_header_of x).number ≡ accepted) → picture.output ≡ output
    pub type-legal : (file_header_of x).number ≡ accepted → (type_i ≤ (file_header_of x).coding_type) × ((file_header_of x).coding_type ≤ type_b)
    pub size-legal : (file_header_of x).number ≡ accepted → SizeLegal (file_header_of x).width (file_header_of x).height
    pub lengths-only : (file_header_of x).number ≡ accepted → (file_header_of x).width * (file_header_of x).height ≤ limit → picture.place < (file_header_of x).records_start → (19 ≤ picture.number) × (picture.number ≤ 21)
    pub output-length : picture.number ≡ accepted → length output ≡ picture_bytes (record { width = (file_header_of x).width; height = (file_header_of x).height })

  pub as_read : AsRead (first_header file)
  unfolding file_start_of
  as_read = go (first_header file) refl
    where
      read : {h : Header} {end : ℕ} → first_header file ≡ Ok (record { header = h; end = end }) → (v : Result ⊤ Refusal) → caller_verdict limit h (length output) (length forward) (length backward) ≡ v → RefusedByCaller limit h v
          → (macroblock_count h.size ≤ limit → picture.place < end → (19 ≤ picture.number) × (picture.number ≤ 21)) × (picture.number ≡ accepted → length output ≡ picture_bytes h.size)
      read {h} e (Err refusal) l few =
          let start : file_start limit file forward backward output ≡ Err (record { refusal = refusal; place = 1 }) = rw (e, l) in
          let r = no_header limit transform file forward backward output start in
          ((λ within early. rw r (lengths-within limit h few within)), (λ a. absurd (never-accepted refusal (sym (ap (λ (p : Picture). p.number) r) ∙ a))))
      read {h} {end} e (Ok passed) l few =
          let start : file_start limit file forward backward output ≡ Ok (record { header = h; end = end }) = rw (e, l) in
          ((λ within early. absurd (omega (arith, place_after start))), (λ a. (header_read limit file forward backward output start).caller.lent.output-whole))

      go : (x : Result FileStart RefusedAt) → first_header file ≡ x → AsRead x
      go (Ok start) e =
          let h = start.header in
          let legal = (begun file e).header in
          let lent = read e (caller_verdict limit h (length output) (length forward) (length backward)) refl (caller-refusal limit h (length output) (length forward) (length backward)) in
          record {
            same_number = λ no. absurd (no refl);
            nothing-made = λ no. absurd (no refl);
            unchanged = λ no. absurd (no refl);
            type-legal = λ a. (legal.first-type, legal.last-type);
            size-legal = λ a. subst (StartFew file) e (first-few file);
            lengths-only = λ a within. lent.0 within;
            output-length = lent.1;
          }
      go (Err stop) e =
          let start : file_start limit file forward backward output ≡ Err stop = rw e in
          let r = no_header limit transform file forward backward output start in
          record {
            same_number = λ no. ap (λ (p : Picture). p.number) r;
            nothing-made = λ no. ap (λ (p : Picture). p.made) r;
            unchanged = λ no. ap (λ (p : Picture). p.output) r;
            type-legal = λ a. absurd (never-accepted stop.refusal a);
            size-legal = λ a. absurd (never-accepted stop.refusal a);
            lengths-only = λ a. absurd (never-accepted stop.refusal a);
            output-length = λ a. absurd (never-accepted stop.refusal (sym (ap (λ (p : Picture). p.number) r) ∙ a));
          }
