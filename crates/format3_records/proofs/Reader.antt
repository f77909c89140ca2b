-- How the code's readers follow a parser's steps. Assumes nothing.
use mathlib.Core.Path.{◌≡◌, refl, ap, ◌∙◌}
use mathlib.Core.List.{List}
use Prim.Native.Nat.{ℕ, ◌+◌}
use native.Mathlib.Omega.{arith}
use lib.ListN.{drop, length-drop}
use lib.Seq.{drop-drop}
use Rattle.std.specs.Prelude.{Ok, Err}
use Rattle.refusals.specs.declared.Refusal.{Refusal}
use Rattle.symbols.specs.Parsed.{Parsed, parsed, refused, Parser, bind, ◌then◌, give}
use Rattle.format3_records.specs.declared.field.Cursor.{Cursor}
use Rattle.format3_records.specs.Reader.{ParsesAs}

-- ---- two readers in sequence
module _ {A B : Type 0} (p : Parser A) (f : A → Parser B) (part : List ℕ) where
  pub first_stops : {refusal : Refusal} → ParsesAs p part (Err refusal) → ParsesAs (p then f) part (Err refusal)
  first_stops e = rw e

  module _ {a : A} {first : Cursor} (found : ParsesAs p part (Ok (a, first))) where
    pub second-stops : {refusal : Refusal} → ParsesAs (f a) (drop first.at part) (Err refusal) → ParsesAs (p then f) part (Err refusal)
    second-stops e = rw found.0 e

    pub second-finds : {b : B} {second : Cursor} → ParsesAs (f a) (drop first.at part) (Ok (b, second)) → ParsesAs (p then f) part (Ok (b, record { at = first.at + second.at }))
    second-finds {b} {second} next =
        (rw (found.0, ← drop-drop second.at first.at part) next.0, omega (arith, found.1, next.1, length-drop first.at part))

-- a function of the last reader's value
pub last-finds : {A B : Type 0} (p : Parser A) (g : A → B) (part : List ℕ) {a : A} {end : Cursor} → ParsesAs p part (Ok (a, end)) → ParsesAs (p then λ x. give (g x)) part (Ok (g a, end))
last-finds p g part found = (rw found.0, found.1)

-- ---- a value computed from a parsed one: which one that was
pub record MadeOf {A B : Type 0} (p : Parser A) (g : A → B) (part : List ℕ) (b : B) (end : Cursor) : Type 0 where
  pub source : A
  pub found : ParsesAs p part (Ok (source, end))
  pub is : g source ≡ b

module _ {A B : Type 0} (p : Parser A) (g : A → B) (part : List ℕ) where
  pub made_of : {b : B} {end : Cursor} → ParsesAs (p then λ x. give (g x)) part (Ok (b, end)) → MadeOf p g part b end
  made_of {b} {end} found = go (p part) refl found.0
    where
      go : (x : Parsed A) → p part ≡ x → bind x (λ a. give (g a)) ≡ parsed b (drop end.at part) → MadeOf p g part b end
      go (parsed a rest) e same =
          let left : rest ≡ drop end.at part = cc in
          record { source = a; found = (e ∙ ap (parsed a) left, found.1); is = cc }
      go (refused refusal) e same = absurd (let z : ◌≡◌ {A = ℕ} 0 1 = cc in omega arith)

  pub stopped-before : {refusal : Refusal} → ParsesAs (p then λ x. give (g x)) part (Err refusal) → ParsesAs p part (Err refusal)
  stopped-before {refusal} found = go (p part) refl found
    where
      go : (x : Parsed A) → p part ≡ x → bind x (λ a. give (g a)) ≡ refused refusal → p part ≡ refused refusal
      go (parsed a rest) e same = absurd (let z : ◌≡◌ {A = ℕ} 0 1 = cc in omega arith)
      go (refused other) e same = let q : other ≡ refusal = cc in e ∙ ap refused q
