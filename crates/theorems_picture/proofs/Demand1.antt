-- Demand 1 of a picture: what the lent output holds, and the numbers that are given. Assumes nothing.
use mathlib.Core.Bool.{Bool, true, false}
use mathlib.Core.List.{List}
use mathlib.Core.Logic.{◌⊎◌, inl, inr}
use mathlib.Core.Path.{◌≡◌, refl, sym, ap, ◌∙◌, subst}
use Prim.Native.Nat.{ℕ, ◌≤◌, ◌<◌}
use native.Mathlib.Omega.{arith}
use lib.Dec.{lit≤}
use lib.IntN.{ℤ}
use lib.ListN.{length, get_or}
use Rattle.std.specs.Prelude.{Result, Ok, Err}
use Rattle.math.specs.Each.{Each}
use Rattle.math.proofs.Each.{each_map}
use Rattle.refusals.specs.Refusal.{number_of, number_in}
use Rattle.refusals.specs.declared.Refusal.{Refusal}
use Rattle.refusals.specs.declared.Refusal.TheVariants.{FileEnds, BackwardVectorOutside, MacroblockLimit}
use Rattle.symbols.specs.Pattern.{is_coded}
use Rattle.symbols.specs.Size.{max_macroblocks, macroblock_count}
use Rattle.symbols.specs.declared.header.Header.{Header}
use Rattle.decode_macroblock.specs.Block.{coefficients_at}
use Rattle.decode_macroblock.specs.Byte.{byte_of}
use Rattle.decode_macroblock.specs.Compensation.{references}
use Rattle.decode_macroblock.specs.Macroblock.{MadeMacroblock, with_macroblocks, InOrder}
use Rattle.decode_macroblock.specs.Owner.{owner_of}
use Rattle.format3_header.specs.declared.file_start.FileStart.{FileStart}
use Rattle.format3_header.specs.declared.file_start.RefusedAt.{RefusedAt}
use Rattle.format3_picture.specs.Picture.{Picture, is_complete, end_verdict, with_output, symbols_of, picture_within}
use Rattle.format3_picture.specs.Reconstruction.{macroblocks_of}
use Rattle.format3_picture.proofs.PictureLaws.{no_header, header-read-is, header-read-byte, header-read-long}
use Rattle.format3_picture.proofs.StartLaws.{Started, header_read}
use Rattle.theorems_accuracy.specs.ExactSum.{CoefficientsInRange}
use Rattle.theorems_picture.specs.Applies.{Reached, verdict_at, Passing, file_start, Applies, to_start, to-record, to_end}
use Rattle.theorems_picture.proofs.AmongLaws.{order-count, among-own, among-others}
use Rattle.theorems_picture.proofs.DecidingLaws.{RefusedByVector, why-refused, OfVector, refused-of}
use Rattle.theorems_picture.proofs.FileStartLaws.{NeitherEndNorVector, StartListed, start-listed}
use Rattle.theorems_picture.proofs.PassingLaws.{Stands, stands, Stop, at-record, at-end, answer_at, stops, stopped}

-- the numbers of a reader with this limit: up to 21, 23, and 27 if the limit is less than the format's
abbrev pub Listed : ℕ → ℕ → Type 0
Listed limit n = (n ≤ 21) ⊎ (n ≡ number_of BackwardVectorOutside) ⊎ ((n ≡ number_of MacroblockLimit) × (limit < max_macroblocks))

-- a record is refused by a listed refusal that is not 7
module _ (file : List ℕ) (r : Reached) {refusal : Refusal} (v : verdict_at file r ≡ Err refusal) where
  why : NeitherEndNorVector refusal ⊎ OfVector refusal
  why = go (why-refused file r.offset r.state r.matrices refusal v)
    where
      go : NeitherEndNorVector refusal ⊎ RefusedByVector file r.offset r.state r.matrices refusal → NeitherEndNorVector refusal ⊎ OfVector refusal
      go (inl neither) = inl neither
      go (inr vector) = inr (refused-of vector)

  pub record-listed : (limit : ℕ) → Listed limit (number_of refusal)
  record-listed limit = go why
    where
      go : NeitherEndNorVector refusal ⊎ OfVector refusal → Listed limit (number_of refusal)
      go (inl neither) = inl neither.is-listed
      go (inr (inl e)) = inl (subst (λ (n : ℕ). n ≤ 21) (sym (ap number_of e)) (lit≤ tt))
      go (inr (inr e)) = inr (inl (ap number_of e))

  pub record-not-end : number_of refusal ≡ number_of FileEnds → ⊥
  record-not-end seven = go why
    where
      go : NeitherEndNorVector refusal ⊎ OfVector refusal → ⊥
      go (inl neither) = neither.not_end seven
      go (inr (inl e)) = omega (arith, seven, ap number_of e)
      go (inr (inr e)) = omega (arith, seven, ap number_of e)

module _ (limit : ℕ) (transform : List ℤ → ℕ → ℤ) (file forward backward output : List ℕ) where
  abbrev picture : Picture
  picture = picture_within limit transform file forward backward output

  -- ---- a picture whose header is read, at the record that is refused or at the file's end
  module _ {h : Header} {end : ℕ} (e : file_start limit file forward backward output ≡ Ok (record { header = h; end = end })) where
    pub start : Started limit file forward backward output h end
    start = header_read limit file forward backward output e

    pub stands_at : {r : Reached} → Passing file h end r → Stands file h end r
    stands_at passing = stands file h end start.header start.in-file passing

    module _ {r : Reached} (passing : Passing file h end r) where
      pub made-few : r.state.next ≤ macroblock_count h.size
      made-few = let s = stands_at passing in subst (λ (g : Header). r.state.next ≤ macroblock_count g.size) s.header s.within.inside

      -- the count of the macroblocks
      pub made-count : r.state.made ≡ length r.macroblocks
      made-count = let s = stands_at passing in omega (arith, s.within.counted, order-count 0 r.state.next r.macroblocks s.order)

      pub in_order : InOrder 0 r.macroblocks (length r.macroblocks)
      in_order =
          let s = stands_at passing in
          let all : r.state.next ≡ length r.macroblocks = omega (arith, order-count 0 r.state.next r.macroblocks s.order) in
          subst (InOrder 0 r.macroblocks) all s.order

      pub stopped-is : (s : Stop file h end r) → picture ≡ with_output (answer_at file h end s) (with_macroblocks transform (references forward backward) h.size r.macroblocks output)
      stopped-is s =
          let ends = stops file h end passing s in
          header-read-is limit transform file forward backward output e
          ∙ (λ i. with_output (ends.answer i) (with_macroblocks transform (references forward backward) h.size (ends.macroblocks i) output))

      stopped-listed : Stop file h end r → Listed limit picture.number
      stopped-listed s = rw (stopped-is s) (by-stop s)
        where
          by-stop : (x : Stop file h end r) → Listed limit (number_in (answer_at file h end x).verdict)
          by-stop (at-record inside refusal v) = record-listed file r v limit
          by-stop (at-end past) = go (is_complete r.state.turn)
            where
              go : (complete : Bool) → Listed limit (number_in (end_verdict complete))
              go true = inl (lit≤ tt)
              go false = inl (lit≤ tt)

    header-read-listed : Listed limit picture.number
    header-read-listed = let s = stopped file h end in stopped-listed s.passing s.stop

    -- ---- its bytes, by the macroblocks of its symbols
    symbols-order : InOrder 0 (macroblocks_of h (symbols_of file h end)) (length (macroblocks_of h (symbols_of file h end)))
    symbols-order = let s = stopped file h end in rw (stops file h end s.passing s.stop).macroblocks (in_order s.passing)

    pub symbols-own : Each (λ m. (i : ℕ) → i < length output → owner_of h.size i ≡ m.address → get_or picture.output i 0 ≡ byte_of transform (references forward backward) h.size m i) (macroblocks_of h (symbols_of file h end))
    symbols-own =
        each_map (λ m own i low owner. header-read-byte limit transform file forward backward output e i low ∙ own i (get_or output i 0) owner) (macroblocks_of h (symbols_of file h end))
        (among-own transform (references forward backward) h.size 0 _ (macroblocks_of h (symbols_of file h end)) symbols-order)

    symbols-others : (i : ℕ) → i < length output → length (macroblocks_of h (symbols_of file h end)) ≤ owner_of h.size i → get_or picture.output i 0 ≡ get_or output i 0
    symbols-others i low past =
        header-read-byte limit transform file forward backward output e i low
        ∙ among-others transform (references forward backward) h.size 0 _ (macroblocks_of h (symbols_of file h end)) symbols-order i (get_or output i 0) past

    -- the coefficients of each coded block are in range
    pub symbols-in-range : Each (λ m. (block : ℕ) → is_coded m.pattern block ≡ true → CoefficientsInRange (coefficients_at m.coefficients block)) (macroblocks_of h (symbols_of file h end))
    symbols-in-range =
        let s = stopped file h end in
        rw (stops file h end s.passing s.stop).macroblocks
        (each_map (λ m range block coded. record { each = λ k low. (range.all block).all k }) s.reached.macroblocks (stands_at s.passing).in-range)

  keeps : (x : Result FileStart RefusedAt) → file_start limit file forward backward output ≡ x → length picture.output ≡ length output
  keeps (Err stop) e = rw (no_header limit transform file forward backward output e)
  keeps (Ok read) e = header-read-long limit transform file forward backward output e

  listed : (x : Result FileStart RefusedAt) → file_start limit file forward backward output ≡ x → StartListed limit file x → Listed limit picture.number
  listed (Err stop) e p = rw (no_header limit transform file forward backward output e) (go p.is-listed)
    where
      go : (number_of stop.refusal ≤ 21) ⊎ ((stop.refusal ≡ MacroblockLimit) × (limit < max_macroblocks)) → Listed limit (number_of stop.refusal)
      go (inl few) = inl few
      go (inr (same, less)) = inr (inr (ap number_of same, less))
  listed (Ok read) e p = header-read-listed e

  -- ---- the lent memory keeps its length, and the numbers are 0 to 21, 23 and 27
  pub keeps-length : length picture.output ≡ length output
  keeps-length = keeps _ refl

  pub number-listed : Listed limit picture.number
  number-listed = listed _ refl (start-listed limit file (length output) (length forward) (length backward))

  -- ---- a refusal applies
  -- the macroblocks of the records before the refused one are those of the symbols
  pub before-of-symbols : {refusal : Refusal} {place : ℕ} {before : List MadeMacroblock} → Applies limit file forward backward output refusal place before
      → (h : Header) (end : ℕ) → file_start limit file forward backward output ≡ Ok (record { header = h; end = end }) → before ≡ macroblocks_of h (symbols_of file h end)
  before-of-symbols (to_start refusal place e) g start other = let z : ◌≡◌ {A = ℕ} 0 1 = cc in absurd (omega arith)
  before-of-symbols (to-record h end e r passing inside refusal v) g start other =
      let same : ◌≡◌ {A = FileStart} (record { header = h; end = end }) (record { header = g; end = start }) = cc in
      rw (sym (ap (λ (s : FileStart). s.header) same), sym (ap (λ (s : FileStart). s.end) same)) (sym (stops file h end passing (at-record inside refusal v)).macroblocks)
  before-of-symbols (to_end h end e r passing past missing) g start other =
      let same : ◌≡◌ {A = FileStart} (record { header = h; end = end }) (record { header = g; end = start }) = cc in
      rw (sym (ap (λ (s : FileStart). s.header) same), sym (ap (λ (s : FileStart). s.end) same)) (sym (stops file h end passing (at-end past)).macroblocks)

  pub before-in-order : {refusal : Refusal} {place : ℕ} {before : List MadeMacroblock} → Applies limit file forward backward output refusal place before → InOrder 0 before (length before)
  before-in-order (to_start refusal place e) = refl
  before-in-order (to-record h end e r passing inside refusal v) = in_order e passing
  before-in-order (to_end h end e r passing past missing) = in_order e passing

  -- each of their bytes
  pub before-own : {refusal : Refusal} {place : ℕ} {before : List MadeMacroblock} → Applies limit file forward backward output refusal place before
      → (h : Header) (end : ℕ) → file_start limit file forward backward output ≡ Ok (record { header = h; end = end })
      → Each (λ m. (i : ℕ) → i < length output → owner_of h.size i ≡ m.address → get_or picture.output i 0 ≡ byte_of transform (references forward backward) h.size m i) before
  before-own a h end e = rw (before-of-symbols a h end e) (symbols-own e)

  -- every other byte
  pub before-others : {refusal : Refusal} {place : ℕ} {before : List MadeMacroblock} → Applies limit file forward backward output refusal place before
      → (i : ℕ) → i < length output
      → ((h : Header) (end : ℕ) → file_start limit file forward backward output ≡ Ok (record { header = h; end = end }) → length before ≤ owner_of h.size i)
      → get_or picture.output i 0 ≡ get_or output i 0
  before-others {before = before} a i low none = go (file_start limit file forward backward output) refl
    where
      go : (x : Result FileStart RefusedAt) → file_start limit file forward backward output ≡ x → get_or picture.output i 0 ≡ get_or output i 0
      go (Err stop) e = rw (no_header limit transform file forward backward output e)
      go (Ok read) e = symbols-others e i low (subst (λ (l : List MadeMacroblock). length l ≤ owner_of read.header.size i) (before-of-symbols a read.header read.end e) (none read.header read.end e))
