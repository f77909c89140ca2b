-- Facts about the picture's size, for any limit on its macroblocks. Assumes nothing.
use mathlib.Core.Path.{◌≡◌, refl}
use mathlib.Core.Bool.{Bool, true, false}
use Prim.Native.Nat.{ℕ, ◌*◌, ◌≤◌, ◌<◌}
use native.Mathlib.Omega.{arith}
use native.Mathlib.Nat.{le_trans, le-mul_of_pos_right, div-lt_iff_lt-mul, mod-lt, mul_comm, mul-le-mul_left}
use lib.Dec.{leb}
use borrow.Author.Tests.{leb-true}
use Rattle.symbols.specs.Guard.{require◌else◌then◌}
use Rattle.symbols.specs.declared.size.PictureSize.{PictureSize}
use Rattle.std.specs.Prelude.{Some, None, is_some}
use Rattle.symbols.specs.Size.{max_width, max_height, max_macroblocks, legal_size, size_of, within_limit, size_within, macroblock_count, picture_bytes, column_of_address, row_of_address}
use Rattle.symbols.specs.Requires.{SizeWithin}
use Rattle.symbols.proofs.Guard.{both}

-- the tests of a legal size, as facts
abbrev pub SizeLegal : ℕ → ℕ → Type 0
SizeLegal w h = (1 ≤ w) × (w ≤ max_width) × (1 ≤ h) × (h ≤ max_height) × (w * h ≤ max_macroblocks)

pub size-legal : (w h : ℕ) → legal_size w h ≡ true → SizeLegal w h
unfolding legal_size
size-legal w h e =
    let all = both _ (leb (w * h) max_macroblocks) e in
    let high = both _ (leb h max_height) all.0 in
    let low = both _ (leb 1 h) high.0 in
    let wide = both (leb 1 w) _ low.0 in
    (leb-true 1 w wide.0, leb-true w max_width wide.1, leb-true 1 h low.1, leb-true h max_height high.1, leb-true (w * h) max_macroblocks all.1)

pub legal-within : (w h : ℕ) → legal_size w h ≡ true → SizeWithin max_macroblocks (record { width = w; height = h })
legal-within w h e = let legal = size-legal w h e in record { wide = legal.0; high = legal.2; few = legal.4 }

-- ---- what a constructor's answer implies
some-if : (test : Bool) (made s : PictureSize) → (require test else None then Some made) ≡ Some s → (test ≡ true) × (s ≡ made)
unfolding require◌else◌then◌
some-if true made s e = (refl, cc)
some-if false made s e = absurd (let z : ◌≡◌ {A = ℕ} 0 1 = cc in omega arith)

none-if : (test : Bool) (made : PictureSize) → (require test else None then Some made) ≡ None → test ≡ false
unfolding require◌else◌then◌
none-if true made e = absurd (let z : ◌≡◌ {A = ℕ} 0 1 = cc in omega arith)
none-if false made e = refl

pub made : (w h : ℕ) (s : PictureSize) → size_of w h ≡ Some s → (legal_size w h ≡ true) × (s ≡ record { width = w; height = h })
unfolding size_of
made w h s e = some-if (legal_size w h) (record { width = w; height = h }) s e

pub not_made : (w h : ℕ) → size_of w h ≡ None → legal_size w h ≡ false
unfolding size_of
not_made w h e = none-if (legal_size w h) (record { width = w; height = h }) e

pub kept-within : (limit : ℕ) (t s : PictureSize) → size_within limit t ≡ Some s → (within_limit limit t ≡ true) × (s ≡ t)
unfolding size_within
kept-within limit t s e = some-if (within_limit limit t) t s e

pub not_within : (limit : ℕ) (t : PictureSize) → size_within limit t ≡ None → within_limit limit t ≡ false
unfolding size_within
not_within limit t e = none-if (within_limit limit t) t e

pub within_some : (limit : ℕ) (t : PictureSize) → is_some (size_within limit t) ≡ within_limit limit t
unfolding size_within require◌else◌then◌
within_some limit t = go (within_limit limit t)
  where
    go : (test : Bool) → is_some {T = PictureSize} (require test else None then Some t) ≡ test
    go true = refl
    go false = refl

-- a size is within any limit that its count is within, and so within a larger one
pub few-within : {a b : ℕ} {s : PictureSize} → SizeWithin a s → macroblock_count s ≤ b → SizeWithin b s
few-within size few = record { wide = size.wide; high = size.high; few = few }

pub within_more : {a b : ℕ} {s : PictureSize} → SizeWithin a s → a ≤ b → SizeWithin b s
within_more size h = few-within size (le_trans size.few h)

module _ {limit : ℕ} {s : PictureSize} (size : SizeWithin limit s) where
  -- neither side is longer than the limit
  pub width_few : s.width ≤ limit
  width_few = omega (arith, le-mul_of_pos_right s.width size.high, size.few)

  pub height-few : s.height ≤ limit
  height-few = omega (arith, le-mul_of_pos_right s.height size.wide, mul_comm s.height s.width, size.few)

  -- some of the picture's rows have no more macroblocks than the limit
  pub rows-within : (rows : ℕ) → rows ≤ s.height → rows * s.width ≤ limit
  rows-within rows h = rw (mul_comm rows s.width) (omega (arith, mul-le-mul_left s.width h, size.few))

  -- the picture fits memory for the limit
  pub bytes-few : picture_bytes s ≤ 384 * limit
  bytes-few = omega (arith, size.few)

  -- the column and the row of an address are inside the picture
  pub column-inside : (address : ℕ) → column_of_address s address < s.width
  column-inside address = mod-lt address size.wide

  pub row_inside : (address : ℕ) → address < macroblock_count s → row_of_address s address < s.height
  row_inside address h = (div-lt_iff_lt-mul size.wide).1 (rw (mul_comm s.height s.width) h)
