-- Each byte of a written macroblock is prediction plus residue, limited; every other byte is unchanged. Assumes nothing.
use mathlib.Core.Path.{◌≡◌, refl, ap, ◌∙◌, sym, subst}
use mathlib.Core.Bool.{Bool, true, false, cond}
use mathlib.Core.List.{List, [], ◌∷◌}
use Prim.Native.Nat.{ℕ, zero, suc, ◌+◌, ◌-◌, ◌*◌, ◌/◌, ◌%◌, ◌≤◌, ◌<◌}
use native.Mathlib.Decide.{ℕ_discrete}
use native.Mathlib.Omega.{arith}
use borrow.Author.Tests.{lt-ltb, le-ltb, eq-eqb, ne_eqb}
use lib.Dec.{eqb}
use lib.IntN.{ℤ}
use lib.ListN.{length, get_or}
use Rattle.math.proofs.Tab.{tab-at}
use Rattle.symbols.specs.Pattern.{is_coded}
use Rattle.symbols.specs.declared.size.PictureSize.{PictureSize}
use Rattle.symbols.specs.Requires.{SizeWithin}
use Rattle.symbols.specs.Size.{max_macroblocks, macroblock_count, picture_bytes, start_of_cb, start_of_cr}
use Rattle.decode_idct.specs.Transform.{limited_residue, residues_by}
use Rattle.decode_macroblock.specs.Pel.{reconstructed_block, reconstructed_pel}
use Rattle.decode_macroblock.specs.declared.location.MacroblockPosition.{MacroblockPosition}
use Rattle.decode_macroblock.specs.declared.location.BlockLocation.{BlockLocation}
use Rattle.decode_macroblock.specs.Location.{macroblock_position, luma_location, chroma_location, block_location, put_at}
use Rattle.decode_macroblock.specs.Requires.{Inside, BlockInside}
use Rattle.decode_macroblock.specs.Compensation.{References}
use Rattle.decode_macroblock.specs.Block.{coefficients_at, with_residue, pels_of}
use Rattle.decode_macroblock.specs.Macroblock.{MadeMacroblock, with_blocks, with_macroblock, with_macroblocks, InOrder}
use Rattle.decode_macroblock.specs.Owner.{owner_of}
use Rattle.decode_macroblock.specs.Byte.{block_of_byte, pel_index_at, pel_of_byte, byte_of, byte_among}
use Rattle.decode_macroblock.proofs.LocationLaws.{position-inside, location-inside, by-block}
use Rattle.decode_macroblock.proofs.PutLaws.{in_location, put_keeps, put-at}
use Rattle.decode_macroblock.proofs.OwnerLaws.{in-location, block-owner, owned}
use Rattle.decode_macroblock.proofs.OrderLaws.{order_below}

-- ---- one block
module _ (p : BlockLocation) (block l : List ℕ) (i : ℕ) (holds : BlockInside p (length l)) where
  pub put-others : (in_location p i ≡ true → ⊥) → get_or (put_at p block l) i 0 ≡ get_or l i 0
  put-others h = put-at p block l holds i ∙ go (in_location p i) refl
    where
      go : (t : Bool) → in_location p i ≡ t → cond t (get_or block (pel_index_at p i) 0) (get_or l i 0) ≡ get_or l i 0
      go true e = absurd (h e)
      go false e = refl

  pub put-own : in_location p i ≡ true → get_or (put_at p block l) i 0 ≡ get_or block (pel_index_at p i) 0
  put-own e = put-at p block l holds i ∙ ap (λ (t : Bool). cond t (get_or block (pel_index_at p i) 0) (get_or l i 0)) e

-- ---- a byte is in one block only
module _ (p : MacroblockPosition) (i : ℕ) where
  luma-block : (block : ℕ) → block < 4 → in_location (luma_location p block) i ≡ true → block ≡ block_of_byte p.size i
  unfolding block_of_byte
  luma-block block l e =
      let b = in-location (luma_location p block) i e in
      let same : i - 0 ≡ i = omega arith in
      let q = b.square in
      let across : i % (16 * p.size.width) / 8 % 2 ≡ block % 2 = subst (λ (n : ℕ). n % (16 * p.size.width) / 8 % 2 ≡ block % 2) same (omega (arith, q)) in
      let down : i / (16 * p.size.width) / 8 % 2 ≡ block / 2 = subst (λ (n : ℕ). n / (16 * p.size.width) / 8 % 2 ≡ block / 2) same (omega (arith, q)) in
      rw (lt-ltb i (start_of_cb p.size) b.before) (omega (arith, across, down))

  one_block : (block : ℕ) → block < 6 → in_location (block_location p block) i ≡ true → block ≡ block_of_byte p.size i
  unfolding block_of_byte
  one_block block h = by-block (λ q. in_location q i ≡ true → block ≡ block_of_byte p.size i) p block h (luma-block block)
      (λ four e. let b = in-location (chroma_location p (start_of_cb p.size)) i e in
      rw (le-ltb i (start_of_cb p.size) b.after, lt-ltb i (start_of_cr p.size) (omega (arith, b.before))) four)
      (λ five e. let b = in-location (chroma_location p (start_of_cr p.size)) i e in
      rw (le-ltb i (start_of_cb p.size) (omega (arith, b.after)), le-ltb i (start_of_cr p.size) b.after) five)

-- ---- any blocks of a macroblock, put in sequence
module _ (p : MacroblockPosition) (inside : Inside p) (blocks : ℕ → List ℕ) where
  pub holds : (n : ℕ) (l : List ℕ) → n < 6 → length l ≡ picture_bytes p.size → BlockInside (block_location p n) (length l)
  holds n l h e = rw e (location-inside p n inside h)

  pub blocks-length : (n : ℕ) (l : List ℕ) → n ≤ 6 → length l ≡ picture_bytes p.size → length (with_blocks p blocks n l) ≡ picture_bytes p.size
  unfolding with_blocks
  blocks-length zero l h e = e
  blocks-length (suc n) l h e =
      let before = blocks-length n l (omega arith) e in
      put_keeps (block_location p n) (blocks n) (with_blocks p blocks n l) (holds n (with_blocks p blocks n l) (omega arith) before) ∙ before

  -- once block b is put, each of its bytes is that block's pel
  pub own-byte : (n : ℕ) (l : List ℕ) (i b : ℕ) → n ≤ 6 → length l ≡ picture_bytes p.size → b < n → in_location (block_location p b) i ≡ true
      → get_or (with_blocks p blocks n l) i 0 ≡ get_or (blocks b) (pel_index_at (block_location p b) i) 0
  unfolding with_blocks
  own-byte zero l i b h e low here = absurd (omega arith)
  own-byte (suc n) l i b h e low here =
      let location = block_location p n in
      let first = with_blocks p blocks n l in
      let fits = holds n first (omega arith) (blocks-length n l (omega arith) e) in
      elim (ℕ_discrete b n) [
        | yes q ↦ subst (λ (j : ℕ). get_or (put_at location (blocks n) first) i 0 ≡ get_or (blocks j) (pel_index_at (block_location p j) i) 0) (sym q)
            (put-own location (blocks n) first i fits (subst (λ (j : ℕ). in_location (block_location p j) i ≡ true) q here))
        | no q ↦ put-others location (blocks n) first i fits (λ also. q (one_block p i b (omega arith) here ∙ sym (one_block p i n (omega arith) also)))
            ∙ own-byte n l i b (omega arith) e (omega arith) here
      ]

-- a byte of another macroblock is unchanged
other_byte : {limit : ℕ} (s : PictureSize) → limit ≤ max_macroblocks → SizeWithin limit s → (address : ℕ) (inside : address < macroblock_count s) (blocks : ℕ → List ℕ) (n : ℕ) (l : List ℕ) (i : ℕ)
    → n ≤ 6 → length l ≡ picture_bytes s → (owner_of s i ≡ address → ⊥) → get_or (with_blocks (macroblock_position s address) blocks n l) i 0 ≡ get_or l i 0
unfolding with_blocks
other_byte s bounded size address inside blocks zero l i h e other = refl
other_byte s bounded size address inside blocks (suc n) l i h e other =
    let p = macroblock_position s address in
    let within = position-inside address bounded size inside in
    let first = with_blocks p blocks n l in
    put-others (block_location p n) (blocks n) first i
    (holds p within blocks n first (omega arith) (blocks-length p within blocks n l (omega arith) e))
    (λ q. other (block-owner s size address i n (omega arith) q))
    ∙ other_byte s bounded size address inside blocks n l i (omega arith) e other

-- ---- a macroblock written at its address
module _ (transform : List ℤ → ℕ → ℤ) (r : References) {limit : ℕ} (s : PictureSize) (bounded : limit ≤ max_macroblocks) (size : SizeWithin limit s) where
  pel-low : (p : BlockLocation) (i : ℕ) → in_location p i ≡ true → pel_index_at p i < 64
  pel-low p i e = let q = (in-location p i e).square in omega (arith, q)

  -- a pel of a block: prediction plus residue, if the block is coded
  pel-is : (pattern : ℕ) (c : List (List ℤ)) (block k : ℕ) (predicted : List ℕ) → k < 64
      → get_or (with_residue transform pattern c block predicted) k 0
      ≡ cond (is_coded pattern block) (reconstructed_pel (get_or predicted k 0) (limited_residue (transform (coefficients_at c block) k))) (get_or predicted k 0)
  unfolding with_residue residues_by
  pel-is pattern c block k predicted h = go (is_coded pattern block)
    where
      go : (b : Bool) → get_or (cond b (reconstructed_block predicted (residues_by transform (coefficients_at c block))) predicted) k 0
          ≡ cond b (reconstructed_pel (get_or predicted k 0) (limited_residue (transform (coefficients_at c block) k))) (get_or predicted k 0)
      go true = tab-at 64 _ k 0 h ∙ ap (reconstructed_pel (get_or predicted k 0)) (tab-at 64 _ k _ h)
      go false = refl

  pub macroblock-length : (m : MadeMacroblock) (l : List ℕ) → m.address < macroblock_count s → length l ≡ picture_bytes s → length (with_macroblock transform r s m l) ≡ picture_bytes s
  macroblock-length m l inside long = blocks-length (macroblock_position s m.address) (position-inside m.address bounded size inside) _ 6 l (omega arith) long

  -- the macroblock's own bytes are prediction plus residue, all others are unchanged
  macroblock-byte : (m : MadeMacroblock) (l : List ℕ) (i : ℕ) → m.address < macroblock_count s → length l ≡ picture_bytes s → i < picture_bytes s
      → get_or (with_macroblock transform r s m l) i 0 ≡ cond (eqb m.address (owner_of s i)) (byte_of transform r s m i) (get_or l i 0)
  unfolding byte_of pel_of_byte pels_of
  macroblock-byte m l i inside long low = elim (ℕ_discrete m.address (owner_of s i)) [
    | yes q ↦
        let o = owned s size m.address i low (sym q) in
        let b = one_block (macroblock_position s m.address) i o.block o.below o.here in
        let here = subst (λ (n : ℕ). in_location (block_location (macroblock_position s m.address) n) i ≡ true) b o.here in
        let six : block_of_byte s i < 6 = subst (λ (n : ℕ). n < 6) b o.below in
        rw (eq-eqb m.address (owner_of s i) q, ← q) (own-byte (macroblock_position s m.address) (position-inside m.address bounded size inside) _ 6 l i (block_of_byte s i) (omega arith) long six here
        ∙ pel-is m.pattern m.coefficients (block_of_byte s i) _ _ (pel-low _ i here))
    | no q ↦ rw (ne_eqb m.address (owner_of s i) q) (other_byte s bounded size m.address inside _ 6 l i (omega arith) long (λ e. q (sym e)))
  ]

  -- ---- several macroblocks, at consecutive addresses
  pub macroblocks-length : (first last : ℕ) (macroblocks : List MadeMacroblock) (l : List ℕ) → InOrder first macroblocks last → last ≤ macroblock_count s → length l ≡ picture_bytes s → length (with_macroblocks transform r s macroblocks l) ≡ picture_bytes s
  unfolding with_macroblocks
  macroblocks-length first last [] l order few long = long
  macroblocks-length first last (m ∷ macroblocks) l order few long =
      macroblocks-length (first + 1) last macroblocks _ order.1 few (macroblock-length m l (omega (arith, order.0, order_below (first + 1) last macroblocks order.1)) long)

  -- none of these macroblocks owns a byte of an earlier one
  none-own : (first last : ℕ) (macroblocks : List MadeMacroblock) (i old : ℕ) → InOrder first macroblocks last → owner_of s i < first → byte_among transform r s macroblocks i old ≡ old
  unfolding byte_among
  none-own first last [] i old order before = refl
  none-own first last (m ∷ macroblocks) i old order before =
      rw (ne_eqb m.address (owner_of s i) (λ e. omega (arith, order.0))) (none-own (first + 1) last macroblocks i old order.1 (omega arith))

  pub macroblocks-byte : (first last : ℕ) (macroblocks : List MadeMacroblock) (l : List ℕ) (i : ℕ) → InOrder first macroblocks last → last ≤ macroblock_count s → length l ≡ picture_bytes s → i < picture_bytes s
      → get_or (with_macroblocks transform r s macroblocks l) i 0 ≡ byte_among transform r s macroblocks i (get_or l i 0)
  unfolding with_macroblocks byte_among
  macroblocks-byte first last [] l i order few long low = refl
  macroblocks-byte first last (m ∷ macroblocks) l i order few long low =
      let inside : m.address < macroblock_count s = omega (arith, order.0, order_below (first + 1) last macroblocks order.1) in
      macroblocks-byte (first + 1) last macroblocks (with_macroblock transform r s m l) i order.1 few (macroblock-length m l inside long) low
      ∙ ap (byte_among transform r s macroblocks i) (macroblock-byte m l i inside long low)
      ∙ go (ℕ_discrete m.address (owner_of s i))
    where
      go : Dec (m.address ≡ owner_of s i)
          → byte_among transform r s macroblocks i (cond (eqb m.address (owner_of s i)) (byte_of transform r s m i) (get_or l i 0))
          ≡ cond (eqb m.address (owner_of s i)) (byte_of transform r s m i) (byte_among transform r s macroblocks i (get_or l i 0))
      go (yes q) = rw (eq-eqb m.address (owner_of s i) q) (none-own (first + 1) last macroblocks i _ order.1 (omega (arith, order.0)))
      go (no q) = rw (ne_eqb m.address (owner_of s i) q)
