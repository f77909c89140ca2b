-- Laws of parsing: what holds for every parsed value. Assumes nothing.
use mathlib.Core.Path.{◌≡◌, refl, sym, ap, subst}
use mathlib.Core.Bool.{Bool, true, false, cond}
use mathlib.Core.List.{List, [], ◌++◌, append_assoc}
use Rattle.symbols.specs.Guard.{require◌else◌then◌}
pub use Rattle.symbols.specs.Parsed.{All, here, none}
use Rattle.symbols.specs.Parsed.{Result, parsed, refused, bind, give, refuse}

module _ {Left Reason A : Type 0} {P : A → Left → Type 0} where
  pub all_then : {B : Type 0} {Q : B → Left → Type 0} {x : Result Left Reason B} {f : B → Left → Result Left Reason A}
      → All Q x → ((b : B) (left : Left) → Q b left → All P (f b left)) → All P (bind x f)
  all_then (here q) r = r _ _ q
  all_then none r = none

  pub all-require : (test : Bool) (reason : Reason) (p : Left → Result Left Reason A) (left : Left) → (test ≡ true → All P (p left)) → All P ((require test else refuse reason then p) left)
  unfolding require◌else◌then◌
  all-require true reason p left r = r refl
  all-require false reason p left r = none

  pub all-cond : (test : Bool) (p q : Left → Result Left Reason A) (left : Left) → (test ≡ true → All P (p left)) → (test ≡ false → All P (q left)) → All P (cond test p q left)
  all-cond true p q left r s = r refl
  all-cond false p q left r s = s refl

  pub all_more : {Q : A → Left → Type 0} {x : Result Left Reason A} → All Q x → ((a : A) (left : Left) → Q a left → P a left) → All P x
  all_more (here q) r = here (r _ _ q)
  all_more none r = none

  pub all_both : {Q : A → Left → Type 0} {x : Result Left Reason A} → All P x → All Q x → All (λ a left. P a left × Q a left) x
  all_both (here p) (here q) = here (p, q)
  all_both none none = none

  pub all-at : {x : Result Left Reason A} {a : A} {left : Left} → All P x → x ≡ parsed a left → P a left
  all-at all e = go (subst (All P) e all)
    where
      go : {b : A} {rest : Left} → All {Reason = Reason} P (parsed b rest) → P b rest
      go (here p) = p

  pub all-as : {x : Result Left Reason A} {a : A} {left : Left} → x ≡ parsed a left → P a left → All P x
  all-as e p = subst (All P) (sym e) (here p)

  pub all_none : {x : Result Left Reason A} {reason : Reason} → x ≡ refused reason → All P x
  all_none e = subst (All P) (sym e) none

pub all_any : {Left Reason A : Type 0} (x : Result Left Reason A) → All (λ a left. Unit {0}) x
all_any (parsed a left) = here tt
all_any (refused reason) = none

-- ---- a list parsed element by element: the rest of the list follows what was parsed
module _ {Left Reason A : Type 0} where
  abbrev pub after : List A → Result Left Reason (List A) → Result Left Reason (List A)
  after some x = bind x λ more. give (some ++ more)

  pub nothing-after : (x : Result Left Reason (List A)) → after [] x ≡ x
  nothing-after (parsed more left) = refl
  nothing-after (refused reason) = refl

  pub after-after : (a b : List A) (x : Result Left Reason (List A)) → after a (after b x) ≡ after (a ++ b) x
  after-after a b (parsed more left) = ap (λ (l : List A). parsed l left) (sym (append_assoc a b more))
  after-after a b (refused reason) = refl
