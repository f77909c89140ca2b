-- A block that is read has at most 64 pairs, which bounds its bytes. Assumes nothing.
use mathlib.Core.Bool.{Bool, true, false, not}
use mathlib.Core.List.{List}
use mathlib.Core.Path.{◌≡◌, refl, ap, subst}
use Rattle.std.specs.Prelude.{Ok}
use Prim.Native.Nat.{ℕ, zero, suc, ◌+◌, ◌*◌, ◌≤◌}
use native.Mathlib.Omega.{arith}
use lib.IntN.{ℤ}
use lib.ListN.{length, length-append}
use Rattle.math.specs.Joined.{joined}
use Rattle.symbols.specs.MacroblockType.{is_intra}
use Rattle.symbols.specs.Pair.{first_position}
use Rattle.symbols.specs.declared.pair.Pair.{Pair}
use Rattle.symbols.specs.Block.{Block, uncoded, coded}
use Rattle.symbols.specs.Pattern.{is_coded}
use Rattle.symbols.proofs.Parsed.{All, here, none, all_then, all-cond, all_any, all-at}
use Rattle.format3_writer.specs.Bytes.{big_endian_bytes}
use Rattle.format3_writer.specs.Records.{levels_bytes, block_bytes, pattern_bytes, blocks_bytes}
use Rattle.format3_writer.proofs.Laws.Lengths.{FewIn, FewPairs, levels-length, pattern-short}
use Rattle.format3_writer.proofs.Laws.Lengths as Few
use Rattle.mpeg1_bits.specs.declared.BitPosition.{BitPosition}
use Rattle.mpeg1_slice.specs.Blocks.{pairs_from, pairs_at, given_difference_at, block_at, given_block_at, blocks_from}
use Rattle.mpeg1_slice.specs.Macroblock.{PatternAndBlocks, VectorsAndBlocks, vectors_at, pattern_at, pattern_and_blocks_at, vectors_and_blocks_at}
use Rattle.mpeg1_slice.proofs.Laws.Coefficient.{Lands, position, next-lands, all-until}
use Rattle.mpeg1_reader.specs.declared.write_answer.Written.{Written}
use Rattle.mpeg1_reader.proofs.Laws.Writing.{part-done}
use Rattle.mpeg1_reader.specs.WriteAnswer.{write_answer, vectors_field_bytes, pattern_and_blocks_field_bytes, vectors_and_blocks_bytes}
use Rattle.mpeg1_reader.proofs.Laws.Lengths.{both-short}

-- ---- pairs
pairs-from : (n : ℕ) (first : Bool) (next : ℕ) → next ≤ 64 → (bytes : List ℕ) (at : BitPosition) → All (λ pairs p. length pairs + next ≤ 64) (pairs_from n first next bytes at)
unfolding pairs_from
pairs-from zero first next h bytes at = none
pairs-from (suc n) first next h bytes at =
    all_then (next-lands first next bytes at) λ found p lands.
    all-until found _ _ (omega (arith, h)) λ pair e.
    let near = position (subst (Lands next) e lands) in
    all_then (pairs-from n false (next + pair.run + 1) (omega (arith, near)) bytes p) λ pairs q k.
    here (omega (arith, k))

position-near : (intra : Bool) → first_position intra ≤ 64
unfolding first_position
position-near true = omega arith
position-near false = omega arith

pub pairs-few : (intra : Bool) (bytes : List ℕ) (at : BitPosition) → All (λ pairs p. length pairs + first_position intra ≤ 64) (pairs_at intra bytes at)
unfolding pairs_at
pairs-few intra bytes at = pairs-from 65 (not intra) (first_position intra) (position-near intra) bytes at

pub pairs-size : (intra : Bool) (bytes : List ℕ) (at : BitPosition) {w : Written} → Ok w ≡ write_answer levels_bytes (pairs_at intra bytes at) → w.size ≤ 193
pairs-size intra bytes at e =
    let part = part-done levels_bytes (pairs_at intra bytes at) e in
    omega (arith, part.size, levels-length part.value, all-at (pairs-few intra bytes at) part.is)

-- ---- blocks: at most 64 pairs and 193 bytes. An intra block has a difference of two bytes, but one pair fewer
pub record ShortBlock (intra : Bool) (block : Block) : Type 0 where
  pub few : FewIn block
  pub short : length (block_bytes intra block) ≤ 193

coded-short : (intra : Bool) (difference : ℤ) (pairs : List Pair) → length pairs + first_position intra ≤ 64 → ShortBlock intra (coded difference pairs)
unfolding block_bytes big_endian_bytes first_position
coded-short true difference pairs h = record { few = omega (arith, h); short = omega (arith, h, levels-length pairs) }
coded-short false difference pairs h = record { few = omega (arith, h); short = omega (arith, h, levels-length pairs) }

uncoded-short : (intra : Bool) → ShortBlock intra uncoded
unfolding block_bytes
uncoded-short intra = record { few = tt; short = omega arith }

block-short : (intra : Bool) (block : ℕ) (bytes : List ℕ) (at : BitPosition) → All (λ b p. ShortBlock intra b) (block_at intra block bytes at)
unfolding block_at
block-short intra block bytes at =
    all_then (all_any (given_difference_at intra block bytes at)) λ difference p u.
    all_then (pairs-few intra bytes p) λ pairs q h.
    here (coded-short intra difference pairs h)

pub given-short : (given intra : Bool) (block : ℕ) (bytes : List ℕ) (at : BitPosition) → All (λ b p. ShortBlock intra b) (given_block_at given intra block bytes at)
unfolding given_block_at
given-short given intra block bytes at = all-cond given _ _ _ (λ t. block-short intra block bytes at) (λ t. here (uncoded-short intra))

-- n such blocks
pub record FewBlocks (intra : Bool) (n : ℕ) (blocks : List Block) : Type 0 where
  pub counted : length blocks ≡ n
  pub few : FewPairs blocks
  pub short : length (blocks_bytes intra blocks) ≤ 193 * n

pub blocks-few : (intra : Bool) (pattern n block : ℕ) (bytes : List ℕ) (at : BitPosition) → All (λ blocks p. FewBlocks intra n blocks) (blocks_from intra pattern n block bytes at)
unfolding blocks_from joined
blocks-few intra pattern zero block bytes at = here (record { counted = refl; few = Few.none; short = omega arith })
blocks-few intra pattern (suc n) block bytes at =
    all_then (given-short (is_coded pattern block) intra block bytes at) λ b p h.
    all_then (blocks-few intra pattern n (block + 1) bytes p) λ blocks q k.
    here (record {
      counted = ap suc k.counted;
      few = Few.more h.few k.few;
      short = omega (arith, length-append (block_bytes intra b) (blocks_bytes intra blocks), h.short, k.short);
    })

pub blocks-size : (intra : Bool) (pattern : ℕ) (bytes : List ℕ) (at : BitPosition) {w : Written} → Ok w ≡ write_answer (blocks_bytes intra) (blocks_from intra pattern 6 0 bytes at) → w.size ≤ 1158
blocks-size intra pattern bytes at e =
    let part = part-done (blocks_bytes intra) (blocks_from intra pattern 6 0 bytes at) e in
    omega (arith, part.size, (all-at (blocks-few intra pattern 6 0 bytes at) part.is).short)

-- ---- bytes
pub record ShortPatternAndBlocks (type : ℕ) (pattern_and_blocks : PatternAndBlocks) : Type 0 where
  pub short : length (pattern_and_blocks_field_bytes type pattern_and_blocks) ≤ 1159

pub pattern-and-blocks-short : (type : ℕ) (bytes : List ℕ) (at : BitPosition) → All (λ pattern_and_blocks p. ShortPatternAndBlocks type pattern_and_blocks) (pattern_and_blocks_at type bytes at)
unfolding pattern_and_blocks_at
pattern-and-blocks-short type bytes at =
    all_then (all_any (pattern_at type bytes at)) λ pattern p t.
    all_then (blocks-few (is_intra type) pattern 6 0 bytes p) λ blocks q h.
    here (record { short = rw (length-append (pattern_bytes type pattern) (blocks_bytes (is_intra type) blocks)) (omega (arith, h.short, pattern-short type pattern)) })

pub pattern-and-blocks-size : (type : ℕ) (bytes : List ℕ) (at : BitPosition) {w : Written} → Ok w ≡ write_answer (pattern_and_blocks_field_bytes type) (pattern_and_blocks_at type bytes at) → w.size ≤ 1159
pattern-and-blocks-size type bytes at e =
    let part = part-done (pattern_and_blocks_field_bytes type) (pattern_and_blocks_at type bytes at) e in
    omega (arith, part.size, (all-at (pattern-and-blocks-short type bytes at) part.is).short)

pub record ShortRest (type : ℕ) (rest : VectorsAndBlocks) : Type 0 where
  pub short : length (vectors_and_blocks_bytes type rest) ≤ 1167

pub rest-short : (type forward backward : ℕ) (bytes : List ℕ) (at : BitPosition) → All (λ rest p. ShortRest type rest) (vectors_and_blocks_at type forward backward bytes at)
unfolding vectors_and_blocks_at
rest-short type forward backward bytes at =
    all_then (all_any (vectors_at type forward backward bytes at)) λ vectors p t.
    all_then (pattern-and-blocks-short type bytes p) λ pattern_and_blocks q h.
    here (record { short = rw (length-append (vectors_field_bytes type vectors) (pattern_and_blocks_field_bytes type pattern_and_blocks)) (omega (arith, h.short, both-short type vectors)) })

pub rest-size : (type forward backward : ℕ) (bytes : List ℕ) (at : BitPosition) {w : Written} → Ok w ≡ write_answer (vectors_and_blocks_bytes type) (vectors_and_blocks_at type forward backward bytes at) → w.size ≤ 1167
rest-size type forward backward bytes at e =
    let part = part-done (vectors_and_blocks_bytes type) (vectors_and_blocks_at type forward backward bytes at) e in
    omega (arith, part.size, (all-at (rest-short type forward backward bytes at) part.is).short)
