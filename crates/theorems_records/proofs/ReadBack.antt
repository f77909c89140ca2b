-- Parts that the writer wrote are read back: a law for each way to put parsers together, and one for each field. Assumes nothing.
use mathlib.Core.Bool.{Bool, true, false, cond}
use mathlib.Core.List.{List, [], ◌∷◌, ◌++◌}
use mathlib.Core.Path.{◌≡◌, refl, ap, ◌∙◌}
use Prim.Native.Nat.{ℕ, suc, ◌+◌, ◌-◌, ◌*◌, ◌/◌, ◌%◌, ◌<◌}
use native.Mathlib.Omega.{arith}
use borrow.Author.Tests.{lt-ltb, le-ltb}
use lib.IntN.{ℤ, pos, negsuc, neg_ℤ, ◌+ℤ◌}
use lib.Signed.{mag}
use mir.Syntax.{w8, w16}
use mir.Val.{Fits, SFits}
use Rattle.math.proofs.Test.{clash}
use Rattle.math.proofs.Difference.{up, dn, parts_add, parts-neg, same_of}
use Rattle.refusals.specs.declared.Refusal.{Refusal}
use Rattle.refusals.specs.Refusal.{number_of}
use Rattle.symbols.specs.Guard.{require◌else◌then◌}
use Rattle.symbols.specs.Parsed.{Parsed, Parser, bind, refuse, optional◌default◌read◌}
use Rattle.format3_records.specs.Field.{big_endian, twos_complement, byte, two_bytes, signed_byte, signed_two_bytes}
use Rattle.format3_writer.specs.Bytes.{complement, big_endian_bytes, signed_big_endian_bytes}
use Rattle.format3_writer.specs.Bytes as Bytes
use Rattle.format3_writer.proofs.Laws.Bytes.{complement-below}
use Rattle.theorems_records.specs.FieldFit.{WhereGiven}
use Rattle.theorems_records.specs.ReadBack.{ReadBack, back, other}
use Rattle.theorems_records.proofs.Framed.{framing, framed}

module _ {A : Type 0} {P : A → Type 0} {Legal : Type 0} {behind : List ℕ} where
  pub back-then : {B : Type 0} {Q : B → Type 0} {Before : Type 0} {rest : List ℕ} {x : Parsed B} (f : B → Parser A) → ReadBack Q Before rest x → (Legal → Before)
      → ((b : B) → Q b → ReadBack P Legal behind (f b rest)) → ReadBack P Legal behind (bind x f)
  back-then f (back q) l r = r _ q
  back-then f (other o not) l r = other o (λ legal. not (l legal))

  pub back-need : (test : Bool) (refusal : Refusal) (p : Parser A) (bytes : List ℕ) → framing (number_of refusal) ≡ false → (Legal → test ≡ true)
      → (test ≡ true → ReadBack P Legal behind (p bytes)) → ReadBack P Legal behind ((require test else refuse refusal then p) bytes)
  unfolding require◌else◌then◌
  back-need true refusal p bytes o l r = r refl
  back-need false refusal p bytes o l r = other (framed _ o) (λ legal. clash (l legal) refl)

  pub back_more : {Q : A → Type 0} {x : Parsed A} → ReadBack Q Legal behind x → ((a : A) → Q a → P a) → ReadBack P Legal behind x
  back_more (back q) r = back (r _ q)
  back_more (other o not) r = other o not

  pub back-less : {More : Type 0} {x : Parsed A} → ReadBack P More behind x → (Legal → More) → ReadBack P Legal behind x
  back-less (back p) l = back p
  back-less (other o not) l = other o (λ legal. not (l legal))

pub back-given : {A : Type 0} {Fit Legal : Type 0} (present : Bool) (absent field : A) (p : Parser A) (bytes behind : List ℕ) → ReadBack (λ a. Fit → a ≡ field) Legal behind (p (bytes ++ behind))
    → ReadBack (λ a. WhereGiven present Fit absent field → a ≡ field) (WhereGiven present Legal absent field) behind ((optional present default absent read p) (cond present bytes [] ++ behind))
back-given true absent field p bytes behind r = r
back-given false absent field p bytes behind r = back (λ same. same)

-- ---- fields
pub word_same : (n : ℕ) → n < 65536 → big_endian (n / 256 % 256) (n % 256) ≡ n
word_same n h = omega arith

pub word_back : (n : ℕ) (behind : List ℕ) → ReadBack (λ m. Fits w16 n → m ≡ n) (Unit {0}) behind (two_bytes (big_endian_bytes n ++ behind))
unfolding two_bytes big_endian_bytes
word_back n behind = back (λ f. word_same n f.fits)

-- two's complement, written and read back
complement-same : (half : ℕ) (z : ℤ) → mag z < half → twos_complement half (complement half z) ≡ z
unfolding twos_complement complement
complement-same half (pos n) h = rw (lt-ltb n half h)
complement-same half (negsuc n) h =
    let a = 2 * half - suc n in
    let less = neg_ℤ (pos (2 * half)) in
    let z = pos a +ℤ less in
    let sum : up z + (0 + dn less) ≡ a + up less + dn z = parts_add (pos a) less in
    let neg = parts-neg (pos (2 * half)) in
    rw (le-ltb a half (omega arith)) (same_of z (negsuc n) (omega (arith, sum, neg)))

pub signed-byte-back : (z : ℤ) (behind : List ℕ) → ReadBack (λ y. SFits w8 z → y ≡ z) (Unit {0}) behind (signed_byte (Bytes.complement_byte z ∷ behind))
unfolding signed_byte byte
signed-byte-back z behind = back (λ f. complement-same 128 z f.sfits)

pub signed-word-back : (z : ℤ) (behind : List ℕ) → ReadBack (λ y. SFits w16 z → y ≡ z) (Unit {0}) behind (signed_two_bytes (signed_big_endian_bytes z ++ behind))
unfolding signed_two_bytes two_bytes big_endian_bytes
signed-word-back z behind = back (λ f. ap (twos_complement 32768) (word_same (complement 32768 z) (complement-below 32768 z f.sfits)) ∙ complement-same 32768 z f.sfits)
