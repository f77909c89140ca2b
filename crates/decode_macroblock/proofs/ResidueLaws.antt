-- Laws of adding residues in place: block by block, predictions become pels, and other blocks are unchanged. Assumes nothing.
use mathlib.Core.Path.{◌≡◌, refl, ap, ◌∙◌, sym}
use mathlib.Core.Bool.{Bool, true, false, cond}
use mathlib.Core.List.{List, []}
use Prim.Native.Nat.{ℕ, zero, suc, ◌+◌, ◌≤◌, ◌<◌}
use native.Mathlib.Decide.{ℕ_discrete, dec_lt}
use native.Mathlib.Omega.{arith}
use borrow.Author.Tests.{lt-ltb, le-ltb}
use lib.Dec.{ltb}
use lib.IntN.{ℤ}
use lib.ListN.{length, get_or, replicate}
use lib.Seq.{ext_get_or}
use Rattle.std.specs.Prelude.{Option, Some, None, is_some}
use Rattle.math.proofs.Tab.{tab-ext}
use Rattle.math.specs.Bound.{at}
use Rattle.symbols.specs.Pattern.{is_coded}
use Rattle.symbols.specs.Size.{picture_bytes}
use Rattle.decode_idct.specs.Transform.{residues_by}
use Rattle.decode_macroblock.specs.Pel.{reconstructed_block, reconstructed_pel}
use Rattle.decode_macroblock.specs.declared.location.MacroblockPosition.{MacroblockPosition}
use Rattle.decode_macroblock.specs.declared.compensation.Vector.{Vector}
use Rattle.decode_macroblock.specs.declared.compensation.Motion.{Motion}
use Rattle.decode_macroblock.specs.Location.{block_location, read_at, put_at}
use Rattle.decode_macroblock.specs.Requires.{Inside, BlockInside}
use Rattle.decode_macroblock.specs.Compensation.{References, predicted_block}
use Rattle.decode_macroblock.specs.Block.{coefficients_at, with_residue, pels_of}
use Rattle.decode_macroblock.specs.Macroblock.{with_blocks}
use Rattle.decode_macroblock.specs.Byte.{pel_index_at}
use Rattle.decode_macroblock.proofs.PutLaws.{in_location, put_keeps, put-at, read-put}
use Rattle.decode_macroblock.proofs.BlocksLaws.{blocks-same, block-uncoded}
use Rattle.decode_macroblock.proofs.ByteLaws.{put-others, put-own, holds, blocks-length, own-byte}

module _ (p : MacroblockPosition) (inside : Inside p) (k : ℕ) (low : k < 6) (l : List ℕ) (long : length l ≡ picture_bytes p.size) where
  -- ---- six blocks, of which block k is put again
  module _ (before after : ℕ → List ℕ) (same : (b : ℕ) → (b ≡ k → ⊥) → before b ≡ after b) where
    -- a byte outside block k
    kept_byte : (n i : ℕ) → n ≤ 6 → (in_location (block_location p k) i ≡ true → ⊥) → get_or (with_blocks p before n l) i 0 ≡ get_or (with_blocks p after n l) i 0
    unfolding with_blocks
    kept_byte zero i h out = refl
    kept_byte (suc n) i h out =
        let was = with_blocks p before n l in
        let is = with_blocks p after n l in
        let was-holds = holds p inside before n was (omega arith) (blocks-length p inside before n l (omega arith) long) in
        let is-holds = holds p inside after n is (omega arith) (blocks-length p inside after n l (omega arith) long) in
        elim (ℕ_discrete n k) [
          | yes e ↦ put-others (block_location p n) (before n) was i was-holds (rw e out) ∙ kept_byte n i (omega arith) out ∙ sym (put-others (block_location p n) (after n) is i is-holds (rw e out))
          | no e ↦ put-at (block_location p n) (before n) was was-holds i
              ∙ (λ j. cond (in_location (block_location p n) i) (get_or (same n e j) (pel_index_at (block_location p n) i) 0) (kept_byte n i (omega arith) out j))
              ∙ sym (put-at (block_location p n) (after n) is is-holds i)
        ]

    pub blocks-changed : put_at (block_location p k) (after k) (with_blocks p before 6 l) ≡ with_blocks p after 6 l
    blocks-changed =
        ext_get_or 0 _ _ (put_keeps (block_location p k) (after k) was fits ∙ was-long ∙ sym (blocks-length p inside after 6 l (omega arith) long)) (λ i h. go i (in_location (block_location p k) i) refl)
      where
        was : List ℕ
        was = with_blocks p before 6 l

        was-long : length was ≡ picture_bytes p.size
        was-long = blocks-length p inside before 6 l (omega arith) long

        fits : BlockInside (block_location p k) (length was)
        fits = holds p inside before k was low was-long

        go : (i : ℕ) (here : Bool) → in_location (block_location p k) i ≡ here → get_or (put_at (block_location p k) (after k) was) i 0 ≡ get_or (with_blocks p after 6 l) i 0
        go i true e = put-own (block_location p k) (after k) was i fits e ∙ sym (own-byte p inside after 6 l i k (omega arith) long low e)
        go i false e = let out : in_location (block_location p k) i ≡ true → ⊥ = λ t. (let z : ◌≡◌ {A = ℕ} 0 1 = cc in omega arith) in
            put-others (block_location p k) (after k) was i fits out ∙ kept_byte 6 i (omega arith) out

  -- each block can be read back at its location
  pub blocks-read : (blocks : ℕ → List ℕ) (j : ℕ) → j < 64 → get_or (read_at (block_location p k) (with_blocks p blocks 6 l)) j 0 ≡ get_or (blocks k) j 0
  blocks-read blocks j h =
      let six = with_blocks p blocks 6 l in
      ap (λ (q : List ℕ). get_or (read_at (block_location p k) q) j 0) (sym (blocks-changed blocks blocks (λ b e. refl)))
      ∙ read-put (block_location p k) six (holds p inside blocks k six low (blocks-length p inside blocks 6 l (omega arith) long)) (blocks k) j h

unused : (vector : Option Vector) → is_some vector ≡ false → vector ≡ None
unused None e = refl
unused (Some v) e = absurd (let z : ◌≡◌ {A = ℕ} 0 1 = cc in omega arith)

module _ (transform : List ℤ → ℕ → ℤ) (r : References) (p : MacroblockPosition) (m : Motion) (pattern : ℕ) (c : List (List ℤ)) where
  -- ---- if neither direction is used, each block is its residue
  pub intra-blocks : (l : List ℕ) → is_some m.forward ≡ false → is_some m.backward ≡ false
      → with_blocks p (λ block. with_residue transform pattern c block (replicate 64 0)) 6 l ≡ with_blocks p (pels_of transform r p m pattern c) 6 l
  unfolding pels_of predicted_block
  intra-blocks l forward backward = blocks-same p _ _ 6 l (λ b h. rw (unused m.forward forward, unused m.backward backward))

  -- ---- the residues of the first n blocks have been added
  pub partly_added : ℕ → ℕ → List ℕ
  partly_added n block = cond (ltb block n) (pels_of transform r p m pattern c block) (pels_of transform r p m 0 [] block)

  pub added_none : (l : List ℕ) → with_blocks p (pels_of transform r p m 0 []) 6 l ≡ with_blocks p (partly_added 0) 6 l
  unfolding partly_added
  added_none l = blocks-same p _ _ 6 l (λ b h. rw (le-ltb b 0 (omega arith)))

  pub added-all : (n : ℕ) (l : List ℕ) → 6 ≤ n → with_blocks p (partly_added n) 6 l ≡ with_blocks p (pels_of transform r p m pattern c) 6 l
  unfolding partly_added
  added-all n l few = blocks-same p _ _ 6 l (λ b h. rw (lt-ltb b n (omega arith)))

  others : (k b : ℕ) → (b ≡ k → ⊥) → partly_added k b ≡ partly_added (k + 1) b
  unfolding partly_added
  others k b n = elim (dec_lt b k) [
    | yes h ↦ rw (lt-ltb b k h, lt-ltb b (k + 1) (omega arith))
    | no h ↦ rw (le-ltb b k (omega arith), le-ltb b (k + 1) (omega arith))
  ]

  predicted : (k : ℕ) → partly_added k k ≡ predicted_block r.forward r.backward m (block_location p k) k
  unfolding partly_added
  predicted k = rw (le-ltb k k (omega arith)) (block-uncoded transform r p m [] k)

  added : (k : ℕ) → partly_added (k + 1) k ≡ pels_of transform r p m pattern c k
  unfolding partly_added
  added k = rw (lt-ltb k (k + 1) (omega arith))

  pub added_more : (inside : Inside p) (k : ℕ) → k < 6 → (l : List ℕ) → length l ≡ picture_bytes p.size
      → let six = with_blocks p (partly_added k) 6 l in
      cond (is_coded pattern k) (put_at (block_location p k) (reconstructed_block (read_at (block_location p k) six) (residues_by transform (coefficients_at c k))) six) six ≡ with_blocks p (partly_added (k + 1)) 6 l
  unfolding pels_of with_residue
  added_more inside k low l long = go (is_coded pattern k) refl
    where
      six : List ℕ
      six = with_blocks p (partly_added k) 6 l

      residue : List ℤ
      residue = residues_by transform (coefficients_at c k)

      pels : is_coded pattern k ≡ true → reconstructed_block (read_at (block_location p k) six) residue ≡ partly_added (k + 1) k
      pels e =
          tab-ext 64 _ _ (λ j h. ap (λ (pel : ℕ). reconstructed_pel pel (at residue j)) (blocks-read p inside k low l long (partly_added k) j h ∙ ap (λ (q : List ℕ). get_or q j 0) (predicted k)))
          ∙ sym (added k ∙ rw e)

      left : is_coded pattern k ≡ false → (b : ℕ) → partly_added k b ≡ partly_added (k + 1) b
      left e b = elim (ℕ_discrete b k) [
        | yes q ↦ rw q (predicted k ∙ sym (added k ∙ rw e))
        | no q ↦ others k b q
      ]

      go : (t : Bool) → is_coded pattern k ≡ t → cond t (put_at (block_location p k) (reconstructed_block (read_at (block_location p k) six) residue) six) six ≡ with_blocks p (partly_added (k + 1)) 6 l
      go true e = ap (λ (q : List ℕ). put_at (block_location p k) q six) (pels e) ∙ blocks-changed p inside k low l long (partly_added k) (partly_added (k + 1)) (others k)
      go false e = blocks-same p _ _ 6 l (λ b h. left e b)
