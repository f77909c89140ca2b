-- The blocks of a macroblock, once written, are read back. Assumes nothing.
use mathlib.Core.Bool.{Bool, true}
use mathlib.Core.List.{List, [], ◌∷◌, ◌++◌, append_assoc}
use mathlib.Core.Path.{◌≡◌, refl, ap}
use Prim.Native.Nat.{ℕ, ◌+◌}
use lib.Dec.{leb}
use lib.IntN.{ℤ, pos}
use lib.ListN.{length}
use mir.Syntax.{w16}
use mir.Val.{SFits}
use Rattle.math.specs.Joined.{joined}
use Rattle.refusals.specs.declared.Refusal.TheVariants.{Coefficient, DcCoefficient}
use Rattle.symbols.specs.declared.pair.Pair.{Pair}
use Rattle.symbols.specs.Pair.{first_position, after_pair}
use Rattle.symbols.specs.Block.{Block, uncoded, coded}
use Rattle.symbols.specs.Pattern.{is_coded}
use Rattle.decode_coefficients.specs.Scaling.{intra_dc}
use Rattle.decode_coefficients.specs.declared.dc.DcPasts.{DcPasts}
use Rattle.decode_coefficients.specs.Dc.{dc_past_of, dc_pasts_after}
use Rattle.format3_records.specs.Field.{byte}
use Rattle.format3_macroblock.specs.Pairs.{legal_level, pair_of, pairs_of}
use Rattle.format3_macroblock.specs.Blocks.{legal_difference, legal_dc, difference_of, legal_count, count_of, levels_of, block_of, given_block_of, blocks_of}
use Rattle.format3_writer.specs.Bytes.{signed_big_endian_bytes}
use Rattle.format3_writer.specs.Records.{pair_bytes, pairs_bytes, levels_bytes, block_bytes, blocks_bytes}
use Rattle.theorems_records.specs.FieldFit.{was_coded, CodedBy, none, more, PairsFitFields, BlockFitsFields, BlocksFitFields}
use Rattle.theorems_records.specs.Legal.{LegalPair, LegalPairs, LegalDifference, LegalCoded, LegalBlock, LegalBlocks}
use Rattle.theorems_records.specs.ReadBack.{ReadBack, back}
use Rattle.theorems_records.proofs.Legal.{level-fits, difference-fits, block-fits}
use Rattle.theorems_records.proofs.ReadBack.{back-then, back-need, back-less, back-given, signed-word-back}

pair-back : (next : ℕ) (pair : Pair) (behind : List ℕ) → ReadBack (λ p. SFits w16 pair.level → p ≡ pair) (LegalPair next pair) behind (pair_of next (pair_bytes pair.run pair.level ++ behind))
unfolding pair_of pair_bytes byte
pair-back next pair behind =
    back-need (leb (next + pair.run) 63) Coefficient _ _ refl (λ legal. legal.position) λ low.
    back-then _ (signed-word-back pair.level behind) (λ legal. tt) λ level found.
    back-need (legal_level level) Coefficient _ behind refl (λ legal. rw (found (level-fits _ legal.level)) legal.level) λ good.
    back (λ fits. ap (λ (z : ℤ). record { run = pair.run; level = z }) (found fits))

pairs-back : (next : ℕ) (pairs : List Pair) (behind : List ℕ) → ReadBack (λ l. PairsFitFields pairs → l ≡ pairs) (LegalPairs next pairs) behind (pairs_of (length pairs) next (pairs_bytes pairs ++ behind))
unfolding pairs_of joined
pairs-back next [] behind = back (λ fits. refl)
pairs-back next (pair ∷ pairs) behind =
    rw append_assoc
    (back-then _ (pair-back next pair (pairs_bytes pairs ++ behind)) (λ legal. legal.0) λ p one.
    back-then _ (pairs-back (after_pair next p) pairs behind) (λ legal. rw (one (level-fits _ legal.0.level)) legal.1) λ l others.
    back (λ fits. cc (one fits.0, others fits.1)))

count-back : (intra : Bool) (count : ℕ) (behind : List ℕ) → ReadBack (λ n. n ≡ count) (legal_count intra count ≡ true) behind (count_of intra (count ∷ behind))
unfolding count_of byte
count-back intra count behind = back-need (legal_count intra count) Coefficient _ behind refl (λ legal. legal) λ good. back refl

levels-back : (intra : Bool) (pairs : List Pair) (behind : List ℕ)
    → ReadBack (λ l. PairsFitFields pairs → l ≡ pairs) ((legal_count intra (length pairs) ≡ true) × LegalPairs (first_position intra) pairs) behind (levels_of intra (levels_bytes pairs ++ behind))
unfolding levels_of levels_bytes
levels-back intra pairs behind =
    back-then _ (count-back intra (length pairs) (pairs_bytes pairs ++ behind)) (λ legal. legal.0) λ count same.
    rw same (back-less (pairs-back (first_position intra) pairs behind) λ legal. legal.1)

difference-back : (past difference : ℤ) (behind : List ℕ) → ReadBack (λ z. SFits w16 difference → z ≡ difference) (LegalDifference past difference) behind (difference_of past (signed_big_endian_bytes difference ++ behind))
unfolding difference_of
difference-back past difference behind =
    back-then _ (signed-word-back difference behind) (λ legal. tt) λ z found.
    back-need (legal_difference z) DcCoefficient _ behind refl (λ legal. rw (found (difference-fits _ legal.small)) legal.small) λ small.
    back-need (legal_dc (intra_dc past z)) DcCoefficient _ behind refl (λ legal. rw (found (difference-fits _ legal.small)) legal.dc) λ inside.
    back found

block_back : (intra : Bool) (past difference : ℤ) (pairs : List Pair) (behind : List ℕ)
    → ReadBack (λ b. BlockFitsFields intra (coded difference pairs) → b ≡ coded difference pairs) (LegalCoded intra past difference pairs) behind (block_of intra past (block_bytes intra (coded difference pairs) ++ behind))
unfolding block_of block_bytes
block_back intra past difference pairs behind =
    rw append_assoc
    (back-then _ (back-given intra (pos 0) difference (difference_of past) (signed_big_endian_bytes difference) _ (difference-back past difference _)) (λ legal. legal.difference) λ z first.
    back-then _ (levels-back intra pairs behind) (λ legal. (legal.count, legal.pairs)) λ l others.
    back (λ fits. cc (first fits.0, others fits.1)))

-- a block that is coded, or not, as the pattern says
one-back : (intra : Bool) (pattern : ℕ) (pasts : DcPasts) (block : ℕ) (b : Block) (behind : List ℕ) → was_coded b ≡ is_coded pattern block
    → ReadBack (λ c. BlockFitsFields intra b → c ≡ b) (LegalBlock intra (dc_past_of pasts block) b) behind (given_block_of intra pattern pasts block (block_bytes intra b ++ behind))
unfolding block_bytes
one-back intra pattern pasts block uncoded behind e = rw (← e) (back (λ fits. refl))
one-back intra pattern pasts block (coded difference pairs) behind e = rw (← e) (block_back intra (dc_past_of pasts block) difference pairs behind)

pub blocks-back : (intra : Bool) (pattern : ℕ) {n block : ℕ} {blocks : List Block} → CodedBy pattern n block blocks → (pasts : DcPasts) (behind : List ℕ)
    → ReadBack (λ l. BlocksFitFields intra blocks → l ≡ blocks) (LegalBlocks intra pasts block blocks) behind (blocks_of intra pattern n pasts block (blocks_bytes intra blocks ++ behind))
unfolding blocks_of joined
blocks-back intra pattern none pasts behind = back (λ fits. refl)
blocks-back intra pattern (more {block = block} {b} {blocks} e rest) pasts behind =
    rw append_assoc
    (back-then _ (one-back intra pattern pasts block b (blocks_bytes intra blocks ++ behind) e) (λ legal. legal.0) λ c one.
    back-then _ (blocks-back intra pattern rest (dc_pasts_after intra pasts block c) behind) (λ legal. rw (one (block-fits intra _ b legal.0)) legal.1) λ l others.
    back (λ fits. cc (one fits.0, others fits.1)))
