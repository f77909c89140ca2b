-- Laws of lists joined, and of a list that is made of numbered blocks. Assumes nothing.
use mathlib.Core.List.{List, [], ◌∷◌, ◌++◌, append_assoc, append-nil}
use mathlib.Core.Logic.{◌⊎◌, inl, inr}
use mathlib.Core.Path.{◌≡◌, refl, sym, ap, ap₂, ◌∙◌}
use Prim.Native.Nat.{ℕ, zero, suc, ◌+◌, ◌-◌, ◌*◌, ◌≤◌, ◌<◌}
use native.Mathlib.Decide.{ℕ_discrete, dec_lt}
use native.Mathlib.Numerals.{add-one}
use native.Mathlib.Omega.{arith}
use lib.ListN.{length, get_or, length-append, get_or-append}
use lib.Seq.{get_or-append-add}
use Rattle.math.specs.Joined.{joined}
use Rattle.math.specs.Tab.{tab}
use Rattle.math.proofs.Tab.{tab-more}

pub joined-append : {A B : Type 0} (f : A → List B) (l m : List A) → joined f (l ++ m) ≡ joined f l ++ joined f m
unfolding joined
joined-append f [] m = refl
joined-append f (first ∷ l) m = rw (joined-append f l m) (sym (append_assoc (f first) (joined f l) (joined f m)))

pub joined_same : {A B : Type 0} (f g : A → List B) (l : List A) → ((a : A) → f a ≡ g a) → joined f l ≡ joined g l
unfolding joined
joined_same f g [] e = refl
joined_same f g (first ∷ l) e = ap₂ ◌++◌ (e first) (joined_same f g l e)

pub joined-joined : {A B C : Type 0} (f : B → List C) (g : A → List B) (l : List A) → joined f (joined g l) ≡ joined (λ a. joined f (g a)) l
unfolding joined
joined-joined f g [] = refl
joined-joined f g (first ∷ l) = joined-append f (g first) (joined g l) ∙ ap (λ m. joined f (g first) ++ m) (joined-joined f g l)

-- the length is at most b for each part, if no part has more than b elements
pub joined-most : {A B : Type 0} (f : A → List B) (l : List A) (b : ℕ) → ((k : ℕ) (d : A) → k < length l → length (f (get_or l k d)) ≤ b) → length (joined f l) ≤ b * length l
unfolding joined
joined-most f [] b h = omega arith
joined-most f (first ∷ l) b h = simp length-append (omega (arith, h 0 first (omega arith), joined-most f l b (λ k d e. h (suc k) d (omega arith))))

-- ---- block 0, block 1, .., block (n - 1), one after the other
unfoldable pub blocks : {A : Type 0} → (ℕ → List A) → ℕ → List A
blocks block zero = []
blocks block (suc n) = blocks block n ++ block n

-- a list joined over a table is made of blocks
pub joined-tab : {A B : Type 0} (f : A → List B) (n : ℕ) (h : ℕ → A) → joined f (tab n h) ≡ blocks (λ k. f (h k)) n
unfolding joined tab blocks
joined-tab f zero h = refl
joined-tab f (suc n) h =
    ap (joined f) (rw add-one at (tab-more n h))
    ∙ joined-append f (tab n h) (h n ∷ [])
    ∙ ap₂ ◌++◌ (joined-tab f n h) (append-nil (f (h n)))

module _ {A : Type 0} (block : ℕ → List A) where
  pub blocks_more : (n : ℕ) → blocks block (n + 1) ≡ blocks block n ++ block n
  unfolding blocks
  blocks_more n = rw add-one

  pub length_more : (n : ℕ) → length (blocks block (suc n)) ≡ length (blocks block n) + length (block n)
  unfolding blocks
  length_more n = length-append (blocks block n) (block n)

  -- a block ends no later than all of them
  pub blocks_end : (k n : ℕ) → k < n → length (blocks block k) + length (block k) ≤ length (blocks block n)
  blocks_end k zero h = absurd (omega arith)
  blocks_end k (suc n) h = elim (ℕ_discrete k n) [ yes e ↦ rw e (omega (arith, length_more n)) | no e ↦ omega (arith, length_more n, blocks_end k n (omega arith)) ]

  -- element j of block k
  pub blocks_at : (k n j : ℕ) (d : A) → k < n → j < length (block k) → get_or (blocks block n) (length (blocks block k) + j) d ≡ get_or (block k) j d
  unfolding blocks
  blocks_at k zero j d h i = absurd (omega arith)
  blocks_at k (suc n) j d h i = elim (ℕ_discrete k n) [
    | yes e ↦ rw e (get_or-append-add (blocks block n) (block n) j d)
    | no e ↦
        get_or-append (blocks block n) (block n) d (length (blocks block k) + j) (omega (arith, blocks_end k n (omega arith)))
        ∙ blocks_at k n j d (omega arith) i
  ]

  -- which block an index is in, and where in that block
  pub record InBlock (n index : ℕ) : Type 0 where
    pub number : ℕ
    pub offset : ℕ
    pub below : number < n
    pub inside : offset < length (block number)
    pub sum : index ≡ length (blocks block number) + offset

  pub in_block : (n index : ℕ) → index < length (blocks block n) → InBlock n index
  unfolding blocks
  in_block zero index h = absurd (omega arith)
  in_block (suc n) index h = elim (dec_lt index (length (blocks block n))) [
    | yes e ↦ let b = in_block n index e in record { number = b.number; offset = b.offset; below = omega (arith, b.below); inside = b.inside; sum = b.sum }
    | no e ↦ record {
      number = n;
      offset = index - length (blocks block n);
      below = omega arith;
      inside = omega (arith, length_more n);
      sum = omega arith;
    }
  ]

  -- of two elements, the earlier is in an earlier block, or earlier in the same block
  pub blocks-order : (k m i j : ℕ) → i < length (block k) → j < length (block m) → length (blocks block k) + i < length (blocks block m) + j
      → (k < m) ⊎ ((k ≡ m) × (i < j))
  blocks-order k m i j a b h = elim (dec_lt k m) [
    | yes e ↦ inl e
    | no e ↦ elim (ℕ_discrete k m) [
      | yes same ↦ inr (same, let less : length (blocks block m) + i < length (blocks block m) + j = rw same at h in omega arith)
      | no other ↦ absurd (omega (arith, blocks_end m k (omega arith)))
    ]
  ]

  -- blocks of one length
  pub blocks-length : (n size : ℕ) → ((k : ℕ) → k < n → length (block k) ≡ size) → length (blocks block n) ≡ n * size
  unfolding blocks
  blocks-length zero size e = omega arith
  blocks-length (suc n) size e = omega (arith, length_more n, e n (omega arith), blocks-length n size (λ k h. e k (omega arith)))
