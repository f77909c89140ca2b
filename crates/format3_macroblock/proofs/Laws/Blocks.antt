-- What holds for blocks that were read: numbers and coefficients are in range, and DC pasts stay legal. Assumes nothing.
use mathlib.Core.Path.{◌≡◌, refl}
use mathlib.Core.Bool.{Bool, true, false, cond}
use mathlib.Core.List.{List, [], ◌∷◌}
use Prim.Native.Nat.{ℕ, zero, suc, ◌+◌, ◌≤◌}
use native.Mathlib.Omega.{arith}
use lib.Dec.{ltb, eqb}
use lib.IntN.{ℤ, pos, negsuc}
use lib.ListN.{get_or}
use mir.ValLaws.{to_z-of_z}
use Rattle.math.specs.Bound.{Within, AllBetween}
use Rattle.math.proofs.Bound.{within-literal}
use Rattle.math.proofs.Difference.{le_of, of_le}
use Rattle.math.proofs.Limit.{range-between, between-within}
use Rattle.refusals.specs.declared.Refusal.TheVariants.{DcCoefficient}
use Rattle.symbols.specs.Parsed.{give}
use Rattle.symbols.specs.Pair.{first_position}
use Rattle.symbols.specs.Block.{Block, uncoded, coded}
use Rattle.symbols.specs.Pattern.{is_coded}
use Rattle.symbols.proofs.Guard.{passes, fails}
use Rattle.symbols.proofs.Parsed.{All, here, all_then, all-require, all_more, all_any}
use Rattle.decode_coefficients.specs.Scaling.{intra_dc}
use Rattle.decode_coefficients.specs.declared.block.BlockCoding.{BlockCoding}
use Rattle.decode_coefficients.proofs.Range.{zeros-between, block-between}
use Rattle.decode_coefficients.specs.declared.dc.DcPasts.{DcPasts}
use Rattle.decode_coefficients.specs.Dc.{dc_past_of, with_dc_past, dc_of, dc_pasts_after, dc_pasts_through}
use Rattle.decode_coefficients.specs.Block.{coefficients_of}
use Rattle.decode_coefficients.specs.Macroblock.{coefficients_from}
use Rattle.decode_coefficients.specs.Requires.{BlocksInRange}
use Rattle.format3_records.specs.Field.{signed_two_bytes}
use Rattle.format3_macroblock.specs.Blocks.{legal_difference, legal_dc, difference_of, levels_of, given_difference_of, block_of, given_block_of, blocks_of}
use Rattle.format3_macroblock.specs.Requires.{LegalDcPasts}

pub difference-within : (difference : ℤ) → legal_difference difference ≡ true → Within 255 difference
unfolding legal_difference
difference-within difference e = between-within (range-between (negsuc 254) (pos 255) difference e) (within-literal tt) (within-literal tt)

pub dc-within : (dc : ℤ) → legal_dc dc ≡ true → Within 2040 dc
unfolding legal_dc
dc-within dc e = between-within (range-between (pos 0) (pos 2040) dc e) (within-literal tt) (within-literal tt)

-- what a function needs that makes the tests of a DC
pub ruleset dc_reads = (passes, fails, to_z-of_z, difference-within, dc-within)

pub first-near : (intra : Bool) → first_position intra ≤ 64
unfolding first_position
first-near true = omega arith
first-near false = omega arith

-- ---- the pasts stay legal
pub past-legal : (pasts : DcPasts) (block : ℕ) → LegalDcPasts pasts → legal_dc (dc_past_of pasts block) ≡ true
unfolding dc_past_of
past-legal pasts block p = go (ltb block 4) (eqb block 4)
  where
    go : (y cb : Bool) → legal_dc (cond y pasts.y (cond cb pasts.cb pasts.cr)) ≡ true
    go true cb = p.legal-y
    go false true = p.legal-cb
    go false false = p.legal-cr

past-kept : (pasts : DcPasts) (block : ℕ) (dc : ℤ) → LegalDcPasts pasts → legal_dc dc ≡ true → LegalDcPasts (with_dc_past pasts block dc)
unfolding with_dc_past
past-kept pasts block dc p e = go (ltb block 4) (eqb block 4)
  where
    go : (y cb : Bool) → LegalDcPasts (cond y (record { y = dc; cb = pasts.cb; cr = pasts.cr }) (cond cb (record { y = pasts.y; cb = dc; cr = pasts.cr }) (record { y = pasts.y; cb = pasts.cb; cr = dc })))
    go true cb = record { legal-y = e; legal-cb = p.legal-cb; legal-cr = p.legal-cr }
    go false true = record { legal-y = p.legal-y; legal-cb = e; legal-cr = p.legal-cr }
    go false false = record { legal-y = p.legal-y; legal-cb = p.legal-cb; legal-cr = e }

difference-legal : (past : ℤ) (bytes : List ℕ) → All (λ difference rest. legal_dc (intra_dc past difference) ≡ true) (difference_of past bytes)
unfolding difference_of
difference-legal past bytes =
    all_then (all_any (signed_two_bytes bytes)) λ difference rest u.
    all-require (legal_difference difference) DcCoefficient _ rest λ small.
    all-require (legal_dc (intra_dc past difference)) DcCoefficient _ rest λ legal.
    here legal

given-legal : (intra : Bool) (past : ℤ) (bytes : List ℕ) → All (λ difference rest. legal_dc (dc_of intra past difference) ≡ true) (given_difference_of intra past bytes)
unfolding legal_dc
given-legal true past bytes = difference-legal past bytes
given-legal false past bytes = here refl

-- ---- the DC of a block that was read is legal, and so are the pasts after it
abbrev LegalBlock : Bool → ℤ → Block → Type 0
LegalBlock intra past uncoded = Unit {0}
LegalBlock intra past (coded difference pairs) = legal_dc (dc_of intra past difference) ≡ true

block-legal : (intra : Bool) (pattern : ℕ) (pasts : DcPasts) (block : ℕ) (bytes : List ℕ) → All (λ b rest. LegalBlock intra (dc_past_of pasts block) b) (given_block_of intra pattern pasts block bytes)
unfolding block_of
block-legal intra pattern pasts block bytes = go (is_coded pattern block)
  where
    go : (given : Bool) → All (λ b rest. LegalBlock intra (dc_past_of pasts block) b) (cond given (block_of intra (dc_past_of pasts block)) (give uncoded) bytes)
    go true =
        all_then (given-legal intra (dc_past_of pasts block) bytes) λ difference rest legal.
        all_then (all_any (levels_of intra rest)) λ pairs end u.
        here legal
    go false = here tt

after-legal : (intra : Bool) (pasts : DcPasts) (block : ℕ) (b : Block) → LegalDcPasts pasts → LegalBlock intra (dc_past_of pasts block) b → LegalDcPasts (dc_pasts_after intra pasts block b)
after-legal intra pasts block uncoded p legal = p
after-legal true pasts block (coded difference pairs) p legal = past-kept pasts block _ p legal
after-legal false pasts block (coded difference pairs) p legal = p

pub pasts-legal : (intra : Bool) (pattern : ℕ) (pasts : DcPasts) (block : ℕ) (bytes : List ℕ) → LegalDcPasts pasts
    → All (λ b rest. LegalDcPasts (dc_pasts_after intra pasts block b)) (given_block_of intra pattern pasts block bytes)
pasts-legal intra pattern pasts block bytes p = all_more (block-legal intra pattern pasts block bytes) λ b rest legal. after-legal intra pasts block b p legal

-- ---- the same for consecutive blocks
abbrev pub LegalBlocks : Bool → DcPasts → ℕ → List Block → Type 0
LegalBlocks intra pasts block [] = Unit {0}
LegalBlocks intra pasts block (b ∷ blocks) = LegalBlock intra (dc_past_of pasts block) b × LegalBlocks intra (dc_pasts_after intra pasts block b) (block + 1) blocks

pub blocks-legal : (intra : Bool) (pattern n : ℕ) (pasts : DcPasts) (block : ℕ) (bytes : List ℕ) → All (λ blocks rest. LegalBlocks intra pasts block blocks) (blocks_of intra pattern n pasts block bytes)
unfolding blocks_of
blocks-legal intra pattern zero pasts block bytes = here tt
blocks-legal intra pattern (suc n) pasts block bytes =
    all_then (block-legal intra pattern pasts block bytes) λ b rest first.
    all_then (blocks-legal intra pattern n (dc_pasts_after intra pasts block b) (block + 1) rest) λ blocks end others.
    here (first, others)

pub through-legal : (intra : Bool) (pasts : DcPasts) (block : ℕ) (blocks : List Block) → LegalDcPasts pasts → LegalBlocks intra pasts block blocks → LegalDcPasts (dc_pasts_through intra pasts block blocks)
unfolding dc_pasts_through
through-legal intra pasts block [] p legal = p
through-legal intra pasts block (b ∷ blocks) p legal = through-legal intra (dc_pasts_after intra pasts block b) (block + 1) blocks (after-legal intra pasts block b p legal.0) legal.1

-- ---- and their coefficients are in range
module _ (c : BlockCoding) (matrix : List ℕ) where
  one-in-range : (past : ℤ) (b : Block) → LegalBlock c.intra past b → AllBetween (negsuc 2047) (pos 2047) (coefficients_of c matrix past b)
  unfolding legal_dc
  one-in-range past uncoded legal = zeros-between 64
  one-in-range past (coded difference pairs) legal =
      let dc = range-between (pos 0) (pos 2040) (dc_of c.intra past difference) legal in
      block-between c matrix pairs (record { lower = le_of _ _ (omega (arith, of_le dc.lower)); upper = le_of _ _ (omega (arith, of_le dc.upper)) })

  each-in-range : (pasts : DcPasts) (block : ℕ) (blocks : List Block) → LegalBlocks c.intra pasts block blocks
      → (k : ℕ) → AllBetween (negsuc 2047) (pos 2047) (get_or (coefficients_from c matrix pasts block blocks) k [])
  unfolding coefficients_from
  each-in-range pasts block [] legal k = zeros-between 0
  each-in-range pasts block (b ∷ blocks) legal zero = one-in-range (dc_past_of pasts block) b legal.0
  each-in-range pasts block (b ∷ blocks) legal (suc k) = each-in-range (dc_pasts_after c.intra pasts block b) (block + 1) blocks legal.1 k

  pub in-range : (pasts : DcPasts) (block : ℕ) (blocks : List Block) → LegalBlocks c.intra pasts block blocks → BlocksInRange (coefficients_from c matrix pasts block blocks)
  in-range pasts block blocks legal = record { all = each-in-range pasts block blocks legal }
