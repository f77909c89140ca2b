-- What holds for a macroblock that was read: legal symbols and DC pasts, and coefficients in range. Assumes nothing.
-- Its blocks end with its body.
use mathlib.Core.Path.{◌≡◌, refl}
use mathlib.Core.Bool.{Bool, true, false, cond, ◌&&◌}
use mathlib.Core.List.{List, [], ◌∷◌}
use Prim.Native.Nat.{ℕ, ◌+◌, ◌<◌, ◌≤◌}
use native.Mathlib.Omega.{arith}
use borrow.Author.Tests.{leb-true}
use lib.Dec.{leb, ltb}
use lib.ListN.{length, drop, replicate, length-drop, drop_of_length-le}
use Rattle.std.specs.Prelude.{Ok, Err}
use Rattle.refusals.specs.declared.Refusal.{Refusal}
use Rattle.refusals.specs.declared.Refusal.TheVariants.{BodyLength}
use Rattle.symbols.specs.Parsed.{Parsed, Parser, parsed, refused, bind, give}
use Rattle.symbols.specs.MacroblockType.{has_scale, is_intra, legal_type}
use Rattle.symbols.specs.Block.{Block, uncoded}
use Rattle.symbols.specs.Pattern.{is_coded}
use Rattle.symbols.specs.declared.macroblock.MacroblockSymbols.{MacroblockSymbols}
use Rattle.symbols.specs.Macroblock.{Macroblock}
use Rattle.symbols.proofs.Guard.{both}
use Rattle.symbols.proofs.Parsed.{All, here, none, all_then}
use Rattle.decode_coefficients.specs.Matrices.{matrix_for}
use Rattle.decode_coefficients.specs.declared.matrices.Matrices.{Matrices}
use Rattle.decode_coefficients.specs.declared.dc.DcPasts.{DcPasts}
use Rattle.decode_coefficients.specs.Dc.{dc_pasts_through, reset_dc_pasts, starting_dc_pasts, dc_pasts_left}
use Rattle.decode_coefficients.specs.Requires.{BlocksInRange}
use Rattle.decode_coefficients.specs.Macroblock.{scale_after, block_coding, macroblock_coefficients, symbols_with_dc}
use Rattle.format3_records.specs.declared.field.Cursor.{Cursor}
use Rattle.format3_records.specs.Reader.{ParsesAs}
use Rattle.format3_records.proofs.Reader.{made_of, stopped-before}
use Rattle.format3_macroblock.specs.declared.blocks.BlocksCoding.{BlocksCoding}
use Rattle.format3_macroblock.specs.Blocks.{legal_dc, blocks_of, six_blocks_of}
use Rattle.format3_macroblock.specs.Requires.{LegalDcPasts}
use Rattle.format3_macroblock.specs.Decoding.{DecodedBlocks, decoded_blocks, decoded_blocks_of, decoded_to_end_of}
use Rattle.format3_macroblock.proofs.Laws.Blocks.{LegalBlocks, blocks-legal, through-legal, in-range}
use Rattle.format3_macroblock.specs.declared.macroblock_head.HeadContext.{HeadContext}
use Rattle.format3_macroblock.specs.MacroblockHead.{must_follow, legal_increment}
use Rattle.format3_macroblock.specs.Slice.{legal_scale}
use Rattle.format3_macroblock.specs.declared.macroblock.MacroblockContext.{MacroblockContext}
use Rattle.format3_macroblock.specs.Macroblock.{coded_pattern_of, macroblock_symbols_of, at_end, blocks_to_end_of, macroblock_of}
use Rattle.format3_macroblock.proofs.Laws.MacroblockHead.{head-legal}
use Rattle.format3_macroblock.proofs.Laws.Vectors.{CodesKnown, vectors-known}

-- ---- the symbols before the blocks
pub record SymbolsLegal (c : MacroblockContext) (m : MacroblockSymbols) : Type 0 where
  pub type-legal : legal_type c.head.coding_type m.macroblock_type ≡ true
  pub increment-some : 1 ≤ m.increment
  pub address-inside : c.head.next + m.increment ≤ c.head.macroblocks
  pub scale-legal : has_scale m.macroblock_type ≡ true → legal_scale m.scale ≡ true
  pub forward-known : CodesKnown c.forward_f m.forward
  pub backward-known : CodesKnown c.backward_f m.backward
  pub inter-if-uncoded : m.pattern ≡ 0 → is_intra m.macroblock_type ≡ false

-- a macroblock without a coded block is not intra: an intra one has all six coded
pattern-inter : (type : ℕ) (part : List ℕ) → All (λ pattern rest. pattern ≡ 0 → is_intra type ≡ false) (coded_pattern_of type part)
pattern-inter type part = go (is_intra type) refl
  where
    every : (x : Parsed ℕ) → is_intra type ≡ false → All (λ pattern rest. pattern ≡ 0 → is_intra type ≡ false) x
    every (parsed pattern rest) inter = here {a = pattern} (λ e. inter)
    every (refused refusal) inter = none

    go : (intra : Bool) → is_intra type ≡ intra → All (λ pattern rest. pattern ≡ 0 → is_intra type ≡ false) (coded_pattern_of type part)
    go true e = rw e (here {a = 63} (λ z. absurd (omega (arith, z))))
    go false e = every (coded_pattern_of type part) e

module _ (c : HeadContext) (increment : ℕ) (e : legal_increment c increment ≡ true) where
  tests : (leb 1 increment ≡ true) × (leb (c.next + increment) c.macroblocks ≡ true)
  unfolding legal_increment
  tests =
      both (leb 1 increment) (leb (c.next + increment) c.macroblocks)
      (both (leb 1 increment && leb (c.next + increment) c.macroblocks) (cond (must_follow c) (leb increment 1) true) e).0

pub symbols-legal : (c : MacroblockContext) (body : List ℕ) → All (λ m rest. SymbolsLegal c m) (macroblock_symbols_of c body)
unfolding macroblock_symbols_of
symbols-legal c body =
    all_then (head-legal c.head body) λ head rest h.
    all_then (vectors-known head.macroblock_type c.forward_f c.backward_f rest) λ vectors left v.
    all_then (pattern-inter head.macroblock_type left) λ pattern end inter.
    here (record {
      type-legal = h.type;
      increment-some = leb-true _ _ (tests c.head head.increment h.increment).0;
      address-inside = leb-true _ _ (tests c.head head.increment h.increment).1;
      scale-legal = h.scale;
      forward-known = v.forward;
      backward-known = v.backward;
      inter-if-uncoded = inter;
    })

-- ---- the scale and the pasts that apply
pub scale-legal-after : (before : ℕ) (m : MacroblockSymbols) → legal_scale before ≡ true → (has_scale m.macroblock_type ≡ true → legal_scale m.scale ≡ true) → legal_scale (scale_after before m) ≡ true
scale-legal-after before m old new = go (has_scale m.macroblock_type) new
  where
    go : (b : Bool) → (b ≡ true → legal_scale m.scale ≡ true) → legal_scale (cond b m.scale before) ≡ true
    go true f = f refl
    go false f = old

reset-legal : LegalDcPasts reset_dc_pasts
unfolding legal_dc
reset-legal = record { legal-y = refl; legal-cb = refl; legal-cr = refl }

pub starting-legal : (pasts : DcPasts) (increment : ℕ) → LegalDcPasts pasts → LegalDcPasts (starting_dc_pasts pasts increment)
unfolding starting_dc_pasts
starting-legal pasts increment p = go (ltb 1 increment)
  where
    go : (skipped : Bool) → LegalDcPasts (cond skipped reset_dc_pasts pasts)
    go true = reset-legal
    go false = p

left-legal : (intra : Bool) (running : DcPasts) → LegalDcPasts running → LegalDcPasts (dc_pasts_left intra running)
left-legal true running p = p
left-legal false running p = reset-legal

-- ---- the whole macroblock
pub whole-legal : (m : MacroblockSymbols) (pasts : DcPasts) (bytes : List ℕ) → All (λ blocks rest. LegalBlocks (is_intra m.macroblock_type) pasts 0 blocks) (blocks_to_end_of m pasts bytes)
unfolding blocks_to_end_of
whole-legal m pasts bytes = all_then (blocks-legal (is_intra m.macroblock_type) m.pattern 6 pasts 0 bytes) last
  where
    last : (blocks : List Block) (rest : List ℕ) → LegalBlocks (is_intra m.macroblock_type) pasts 0 blocks → All (λ blocks rest. LegalBlocks (is_intra m.macroblock_type) pasts 0 blocks) (at_end blocks rest)
    last blocks [] legal = here legal
    last blocks (b ∷ rest) legal = none

-- it leaves legal pasts, and its coefficients are in range
pub pasts-after-legal : (before : DcPasts) (m : Macroblock) → LegalDcPasts before → LegalBlocks (is_intra m.symbols.macroblock_type) (starting_dc_pasts before m.symbols.increment) 0 m.blocks → LegalDcPasts (symbols_with_dc before m).dc
pasts-after-legal before m p legal =
    left-legal (is_intra m.symbols.macroblock_type) _ (through-legal (is_intra m.symbols.macroblock_type) _ 0 m.blocks (starting-legal before m.symbols.increment p) legal)

pub coefficients-in-range : (matrices : Matrices) (scale : ℕ) (pasts : DcPasts) (m : Macroblock) → LegalBlocks (is_intra m.symbols.macroblock_type) pasts 0 m.blocks → BlocksInRange (macroblock_coefficients matrices scale pasts m)
coefficients-in-range matrices scale pasts m legal = in-range (block_coding m.symbols scale) _ pasts 0 m.blocks legal

pub record MacroblockLegal (c : MacroblockContext) (m : Macroblock) : Type 0 where
  pub symbols : SymbolsLegal c m.symbols
  pub blocks : LegalBlocks (is_intra m.symbols.macroblock_type) (starting_dc_pasts c.dc m.symbols.increment) 0 m.blocks

pub macroblock-legal : (c : MacroblockContext) (body : List ℕ) → All (λ m rest. MacroblockLegal c m) (macroblock_of c body)
unfolding macroblock_of
macroblock-legal c body =
    all_then (symbols-legal c body) λ m rest s.
    all_then (whole-legal m (starting_dc_pasts c.dc m.increment) rest) λ blocks end legal.
    here (record { symbols = s; blocks = legal })

-- ---- the blocks, with nothing after them
module _ (m : MacroblockSymbols) (scale : ℕ) (matrices : Matrices) (pasts : DcPasts) (part : List ℕ) where
  abbrev pub blocks_coding : BlocksCoding
  blocks_coding = record { pattern = m.pattern; intra = is_intra m.macroblock_type; scale = scale }

  abbrev pub six : Parser DecodedBlocks
  six = decoded_blocks_of blocks_coding (matrix_for (is_intra m.macroblock_type) matrices) pasts

  pub six-stop : {refusal : Refusal} → ParsesAs six part (Err refusal) → ParsesAs (decoded_to_end_of m scale matrices pasts) part (Err refusal)
  unfolding blocks_to_end_of
  six-stop found = rw (stopped-before (six_blocks_of (is_intra m.macroblock_type) m.pattern pasts) _ part found)

  module _ {d : DecodedBlocks} {end : Cursor} (found : ParsesAs six part (Ok (d, end))) where
    pub bytes_left : end.at < length part → ParsesAs (decoded_to_end_of m scale matrices pasts) part (Err BodyLength)
    unfolding blocks_to_end_of
    bytes_left more = rw (made_of (six_blocks_of (is_intra m.macroblock_type) m.pattern pasts) _ part found).found.0 (go (drop end.at part) (omega (arith, length-drop end.at part)))
      where
        go : (rest : List ℕ) → 0 < length rest → bind (at_end (made_of (six_blocks_of (is_intra m.macroblock_type) m.pattern pasts) _ part found).source rest) (λ blocks. give (decoded_blocks (block_coding m scale) (matrix_for (is_intra m.macroblock_type) matrices) pasts blocks)) ≡ refused BodyLength
        go [] h = absurd (omega arith)
        go (b ∷ rest) h = refl

    pub no-byte-left : length part ≤ end.at → ParsesAs (decoded_to_end_of m scale matrices pasts) part (Ok (d, end))
    unfolding blocks_to_end_of
    no-byte-left None-more =
        let b = made_of (six_blocks_of (is_intra m.macroblock_type) m.pattern pasts) _ part found in
        (rw (b.found.0, drop_of_length-le part None-more, b.is), found.1)

-- ---- if no block is coded, none is read, and the pasts stay
abbrev pub none_coded : List Block
none_coded = replicate 6 uncoded

module _ (m : MacroblockSymbols) (pasts : DcPasts) (none-given : m.pattern ≡ 0) where
  none_read : (bytes : List ℕ) → six_blocks_of (is_intra m.macroblock_type) m.pattern pasts bytes ≡ parsed none_coded bytes
  unfolding blocks_of is_coded
  none_read bytes = rw none-given

  pub none-then-end : blocks_to_end_of m pasts [] ≡ parsed none_coded []
  unfolding blocks_to_end_of
  none-then-end = rw (none_read [])

  pub none-then-more : (bytes : List ℕ) → 0 < length bytes → blocks_to_end_of m pasts bytes ≡ refused BodyLength
  unfolding blocks_to_end_of
  none-then-more [] h = absurd (omega arith)
  none-then-more (b ∷ bytes) h = rw (none_read (b ∷ bytes))

pub none-through : (intra : Bool) (pasts : DcPasts) → dc_pasts_through intra pasts 0 none_coded ≡ pasts
unfolding dc_pasts_through
none-through intra pasts = refl
