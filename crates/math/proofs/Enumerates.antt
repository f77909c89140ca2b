-- A list made of blocks enumerates a set if each block enumerates a part of it. Assumes nothing.
use mathlib.Core.List.{List}
use mathlib.Core.Path.{◌≡◌, refl, sym, ap, ◌∙◌}
use Prim.Native.Nat.{ℕ, ◌+◌, ◌<◌}
use native.Mathlib.Omega.{arith}
use lib.ListN.{length, get_or}
use Rattle.math.specs.Enumerates.{Enumerates}
use Rattle.math.proofs.Joined.{blocks, blocks_end, blocks_at, InBlock, in_block}

-- the index may be any function that agrees on the members
pub enumerates-by : {A : Type 0} {Member : A → Type 0} {index other : A → ℕ} {l : List A} → ((a : A) → Member a → index a ≡ other a) → Enumerates Member index l → Enumerates Member other l
enumerates-by {l = l} same e = record {
  member = e.member;
  index_back = λ k d h. sym (same (get_or l k d) (e.member k d h)) ∙ e.index_back k d h;
  inside = λ a m. rw (← same a m) (e.inside a m);
  member_back = λ a d m. rw (← same a m) (e.member_back a d m);
}

-- the members may be described in another way
pub enumerates-as : {A : Type 0} {Member Other : A → Type 0} {index : A → ℕ} {l : List A} → ((a : A) → Member a → Other a) → ((a : A) → Other a → Member a)
    → Enumerates Member index l → Enumerates Other index l
enumerates-as {l = l} to from e = record {
  member = λ k d h. to (get_or l k d) (e.member k d h);
  index_back = e.index_back;
  inside = λ a m. e.inside a (from a m);
  member_back = λ a d m. e.member_back a d (from a m);
}

module _ {A : Type 0} (block : ℕ → List A) (n : ℕ) (Member : A → Type 0) (number offset : A → ℕ)
    (below : (a : A) → Member a → number a < n) (each : (k : ℕ) → k < n → Enumerates (λ a. Member a × (number a ≡ k)) offset (block k)) where
  -- an element of the list, by its block
  element : (index : ℕ) (d : A) (b : InBlock block n index) → get_or (blocks block n) index d ≡ get_or (block b.number) b.offset d
  element index d b = ap (λ (i : ℕ). get_or (blocks block n) i d) b.sum ∙ blocks_at block b.number n b.offset d b.below b.inside

  -- a member's index: the length of the blocks before its own, plus its offset in that one
  pub enumerates-blocks : Enumerates Member (λ a. length (blocks block (number a)) + offset a) (blocks block n)
  enumerates-blocks = record {
    member = λ index d h. let b = in_block block n index h in rw (element index d b) ((each b.number b.below).member b.offset d b.inside).0;
    index_back = λ index d h.
        let b = in_block block n index h in
        let part = each b.number b.below in
        rw (element index d b, (part.member b.offset d b.inside).1, part.index_back b.offset d b.inside) (sym b.sum);
    inside = λ a m. omega (arith, blocks_end block (number a) n (below a m), (each (number a) (below a m)).inside a (m, refl));
    member_back = λ a d m.
        let part = each (number a) (below a m) in
        blocks_at block (number a) n (offset a) d (below a m) (part.inside a (m, refl)) ∙ part.member_back a d (m, refl);
  }
