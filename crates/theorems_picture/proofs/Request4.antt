-- Request No. 4 of a picture: 27 exactly beyond the limit, and the same picture within any two limits. Assumes nothing.
use mathlib.Core.List.{List}
use mathlib.Core.Logic.{inl, inr}
use mathlib.Core.Path.{◌≡◌, refl, sym, ap, ◌∙◌}
use Prim.Native.Nat.{ℕ, ◌≤◌}
use native.Mathlib.Decide.{dec_lt}
use native.Mathlib.Omega.{arith}
use borrow.Author.Tests.{le-leb, lt-leb}
use lib.IntN.{ℤ}
use Rattle.std.specs.Prelude.{Result, Ok, Err}
use Rattle.refusals.specs.Refusal.{number_of}
use Rattle.refusals.specs.declared.Refusal.TheVariants.{MacroblockLimit}
use Rattle.symbols.specs.Guard.{require◌else◌then◌}
use Rattle.symbols.specs.Size.{max_macroblocks, macroblock_count}
use Rattle.symbols.specs.declared.header.Header.{Header}
use Rattle.format3_header.specs.Lengths.{caller_verdict}
use Rattle.format3_header.specs.FileStart.{first_header, file_start_of}
use Rattle.format3_header.specs.declared.file_start.FileStart.{FileStart}
use Rattle.format3_header.specs.declared.file_start.RefusedAt.{RefusedAt}
use Rattle.format3_header.proofs.Laws.FileStart.{begun}
use Rattle.format3_picture.specs.Picture.{Picture, picture_within, picture_refusing}
use Rattle.theorems_picture.specs.Applies.{file_start}
use Rattle.theorems_picture.specs.Limit.{BeyondLimit}
use Rattle.theorems_picture.proofs.Demand1.{Listed, number-listed}

-- with the format's limit, no listed number is 27
not-limit : {n : ℕ} → Listed max_macroblocks n → n ≡ number_of MacroblockLimit → ⊥
not-limit (inl few) e = omega (arith, few, e)
not-limit (inr (inl other)) e = omega (arith, other, e)
not-limit (inr (inr (same, less))) e = omega (arith, less)

pub never-at-396 : (transform : List ℤ → ℕ → ℤ) (file forward backward output : List ℕ) → (picture_within max_macroblocks transform file forward backward output).number ≡ number_of MacroblockLimit → ⊥
never-at-396 transform file forward backward output = not-limit (number-listed max_macroblocks transform file forward backward output)

-- ---- files that are not beyond a limit
-- the header, if there is a legal one, is within the limit
within-limit : {limit : ℕ} {file : List ℕ} → (BeyondLimit limit file → ⊥) → {h : Header} {end : ℕ} → first_header file ≡ Ok (record { header = h; end = end }) → macroblock_count h.size ≤ limit
within-limit {limit} none {h} {end} e = elim (dec_lt limit (macroblock_count h.size)) [
  | yes more ↦ absurd (none (record { header = h; end = end; legal = e; more = more }))
  | no few ↦ omega (arith, few)
]

-- no file is beyond the format's limit
pub never-beyond-396 : (file : List ℕ) → BeyondLimit max_macroblocks file → ⊥
never-beyond-396 file b = omega (arith, b.more, (begun file b.legal).header.size.few)

module _ (file forward backward output : List ℕ) where
  pub beyond-start : (limit : ℕ) → BeyondLimit limit file → file_start limit file forward backward output ≡ Err (record { refusal = MacroblockLimit; place = 1 })
  unfolding file_start_of caller_verdict require◌else◌then◌
  beyond-start limit b = rw (b.legal, lt-leb (macroblock_count b.header.size) limit b.more)

  -- ---- two limits, and a file that is beyond neither
  module _ (limit other : ℕ) (here : BeyondLimit limit file → ⊥) (there : BeyondLimit other file → ⊥) where
    same_start : file_start limit file forward backward output ≡ file_start other file forward backward output
    unfolding file_start_of caller_verdict require◌else◌then◌
    same_start = go (first_header file) refl
      where
        go : (x : Result FileStart RefusedAt) → first_header file ≡ x → file_start limit file forward backward output ≡ file_start other file forward backward output
        go (Err stop) e = rw e
        go (Ok start) e =
            rw (e, le-leb (macroblock_count start.header.size) limit (within-limit here e), le-leb (macroblock_count start.header.size) other (within-limit there e))

    pub same-picture : (transform : List ℤ → ℕ → ℤ) → picture_within limit transform file forward backward output ≡ picture_within other transform file forward backward output
    unfolding picture_refusing
    same-picture transform = go (file_start other file forward backward output) refl
      where
        go : (x : Result FileStart RefusedAt) → file_start other file forward backward output ≡ x → picture_within limit transform file forward backward output ≡ picture_within other transform file forward backward output
        go (Err stop) e = rw (same_start, e)
        go (Ok start) e = rw (same_start, e)

  -- ---- 27 is given only beyond the limit
  pub only-beyond : (limit : ℕ) (transform : List ℤ → ℕ → ℤ) → (picture_within limit transform file forward backward output).number ≡ number_of MacroblockLimit → BeyondLimit limit file
  only-beyond limit transform number = go (first_header file) refl
    where
      -- were the file not beyond the limit, the reader with 396 would give 27 too
      not_within : (BeyondLimit limit file → ⊥) → ⊥
      not_within none =
          let same = same-picture limit max_macroblocks none (never-beyond-396 file) transform in
          never-at-396 transform file forward backward output (ap (λ (p : Picture). p.number) (sym same) ∙ number)

      go : (x : Result FileStart RefusedAt) → first_header file ≡ x → BeyondLimit limit file
      go (Err stop) e = absurd (not_within (λ b. let read = b.legal in let z : ◌≡◌ {A = ℕ} 0 1 = cc in omega arith))
      go (Ok start) e = elim (dec_lt limit (macroblock_count start.header.size)) [
        | yes more ↦ record { header = start.header; end = start.end; legal = e; more = more }
        | no few ↦ absurd (not_within (λ b.
            let read = b.legal in
            let equal : ◌≡◌ {A = Header} b.header start.header = cc in
            omega (arith, few, b.more, ap (λ (k : Header). macroblock_count k.size) equal)))
      ]
