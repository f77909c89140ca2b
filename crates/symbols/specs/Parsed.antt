-- What parsing bytes or bits gives, and how parsers are chained.
use Rattle.std.specs.Prelude.{Bool, cond, List, ℕ}
use Rattle.refusals.specs.declared.Refusal.{Refusal}

-- a value and the input left after it, or the reason why there is none
pub data Result (Left Reason A : Type 0) : Type 0 where
  parsed : A → Left → Result Left Reason A
  refused : Reason → Result Left Reason A

abbrev pub bind : {Left Reason A B : Type 0} → Result Left Reason A → (A → Left → Result Left Reason B) → Result Left Reason B
bind (parsed a rest) f = f a rest
bind (refused reason) f = refused reason

infixr 5 ◌then◌
-- parse on with the value, from where it ends; the first refusal decides
abbrev pub ◌then◌ : {Left Reason A B : Type 0} → (Left → Result Left Reason A) → (A → Left → Result Left Reason B) → Left → Result Left Reason B
p then f = λ left. bind (p left) f

-- a value that takes no input
abbrev pub give : {Left Reason A : Type 0} → A → Left → Result Left Reason A
give a left = parsed a left

abbrev pub refuse : {Left Reason A : Type 0} → Reason → Left → Result Left Reason A
refuse reason left = refused reason

infixr 6 optional◌default◌read◌
-- parse a field only if it is present, otherwise give a default value
abbrev pub optional◌default◌read◌ : {Left Reason A : Type 0} → Bool → A → (Left → Result Left Reason A) → Left → Result Left Reason A
optional present default absent read p = cond present p (give absent)

-- P holds for the value and the input left, if there is a value
pub data All {Left Reason A : Type 0} (P : A → Left → Type 0) : Result Left Reason A → Type 0 where
  here : {a : A} {left : Left} → P a left → All P (parsed a left)
  none : {reason : Reason} → All P (refused reason)

-- ---- parsing bytes: a value and the bytes left after it, or a refusal
abbrev pub Parsed : Type 0 → Type 0
Parsed A = Result (List ℕ) Refusal A

-- a parser takes the bytes that are left
abbrev pub Parser : Type 0 → Type 0
Parser A = List ℕ → Parsed A
