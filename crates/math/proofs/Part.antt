-- Laws of `part`: its length, the elements before, inside and after the part, and lending the same part twice. Assumes nothing.
use mathlib.Core.Path.{◌≡◌, ap, ◌∙◌, sym, subst}
use mathlib.Core.List.{List, ◌++◌}
use Prim.Native.Nat.{ℕ, ◌+◌, ◌<◌, ◌≤◌}
use native.Mathlib.Omega.{arith}
use lib.ListN.{length, get_or, take, drop, length-append, length-drop, take-append-drop, get_or-append}
use lib.Seq.{length-take-le, take-append_seam, drop-append_seam, get_or-append-add, get_or-take, get_or-drop}
use Rattle.math.specs.Part.{part}

module _ {A : Type 0} (from n : ℕ) (f : List A → List A) (l : List A) (fits : from + n ≤ length l) (keeps : length (f (take n (drop from l))) ≡ n) where
  front : length (take from l) ≡ from
  front = length-take-le from l (omega arith)

  pub part_length : length (part from n f l) ≡ length l
  unfolding part
  part_length = simp (length-append, length-drop) (omega (arith, front, keeps))

  pub part-before : (i : ℕ) (d : A) → i < from → get_or (part from n f l) i d ≡ get_or l i d
  unfolding part
  part-before i d h = get_or-append (take from l) _ d i (omega (arith, front)) ∙ get_or-take from l i d h

  pub part_in : (i : ℕ) (d : A) → i < n → get_or (part from n f l) (from + i) d ≡ get_or (f (take n (drop from l))) i d
  unfolding part
  part_in i d h =
      subst (λ (a : ℕ). get_or (take from l ++ (f (take n (drop from l)) ++ drop n (drop from l))) (a + i) d ≡ get_or (f (take n (drop from l)) ++ drop n (drop from l)) i d) front (get_or-append-add (take from l) _ i d)
      ∙ get_or-append (f (take n (drop from l))) _ d i (omega (arith, keeps))

  pub part-after : (i : ℕ) (d : A) → get_or (part from n f l) (from + (n + i)) d ≡ get_or l (from + (n + i)) d
  unfolding part
  part-after i d =
      subst (λ (a : ℕ). get_or (take from l ++ (f (take n (drop from l)) ++ drop n (drop from l))) (a + (n + i)) d ≡ get_or (f (take n (drop from l)) ++ drop n (drop from l)) (n + i) d) front (get_or-append-add (take from l) _ (n + i) d)
      ∙ subst (λ (a : ℕ). get_or (f (take n (drop from l)) ++ drop n (drop from l)) (a + i) d ≡ get_or (drop n (drop from l)) i d) keeps (get_or-append-add (f (take n (drop from l))) _ i d)
      ∙ get_or-drop n (drop from l) i d ∙ get_or-drop from l (n + i) d

  -- a second loan of the part sees what the first gave back
  back-before : take from (part from n f l) ≡ take from l
  unfolding part
  back-before = ap (λ (a : ℕ). take a (take from l ++ (f (take n (drop from l)) ++ drop n (drop from l)))) (sym front) ∙ take-append_seam (take from l) _

  back-rest : drop from (part from n f l) ≡ f (take n (drop from l)) ++ drop n (drop from l)
  unfolding part
  back-rest = ap (λ (a : ℕ). drop a (take from l ++ (f (take n (drop from l)) ++ drop n (drop from l)))) (sym front) ∙ drop-append_seam (take from l) _

  back_in : take n (drop from (part from n f l)) ≡ f (take n (drop from l))
  back_in = ap (take n) back-rest ∙ ap (λ (a : ℕ). take a (f (take n (drop from l)) ++ drop n (drop from l))) (sym keeps) ∙ take-append_seam (f (take n (drop from l))) _

  back-after : drop n (drop from (part from n f l)) ≡ drop n (drop from l)
  back-after = ap (drop n) back-rest ∙ ap (λ (a : ℕ). drop a (f (take n (drop from l)) ++ drop n (drop from l))) (sym keeps) ∙ drop-append_seam (f (take n (drop from l))) _

  pub part-twice : (g : List A → List A) → part from n g (part from n f l) ≡ part from n (λ q. g (f q)) l
  unfolding part
  part-twice g = λ i. back-before i ++ (g (back_in i) ++ back-after i)

module _ {A : Type 0} (from n : ℕ) (l : List A) where
  pub part_none : part from n (λ q. q) l ≡ l
  unfolding part
  part_none = ap (λ (r : List A). take from l ++ r) (take-append-drop n (drop from l)) ∙ take-append-drop from l

  pub part_same : (f g : List A → List A) → f (take n (drop from l)) ≡ g (take n (drop from l)) → part from n f l ≡ part from n g l
  unfolding part
  part_same f g e = λ i. take from l ++ (e i ++ drop n (drop from l))
