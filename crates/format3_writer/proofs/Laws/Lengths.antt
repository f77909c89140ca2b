-- How many bytes each part of a record takes. Assumes nothing.
use mathlib.Core.Bool.{Bool, true, false, cond}
use mathlib.Core.List.{List, [], ◌∷◌, ◌++◌}
use mathlib.Core.Path.{◌≡◌, refl}
use Prim.Native.Nat.{ℕ, ◌+◌, ◌*◌, ◌≤◌}
use native.Mathlib.Omega.{arith}
use lib.IntN.{ℤ}
use lib.ListN.{length, length-append}
use Rattle.math.specs.Joined.{joined}
use Rattle.symbols.specs.declared.vector_codes.VectorCodes.{VectorCodes}
use Rattle.symbols.specs.MacroblockType.{has_scale, has_forward, has_backward, has_pattern, is_intra}
use Rattle.symbols.specs.declared.pair.Pair.{Pair}
use Rattle.symbols.specs.Block.{Block, uncoded, coded}
use Rattle.symbols.specs.Macroblock.{Macroblock}
use Rattle.format3_writer.specs.Bytes.{big_endian_bytes}
use Rattle.format3_writer.specs.Records.{record_head, record_bytes, pair_bytes, pairs_bytes, levels_bytes, block_bytes, blocks_bytes, head_bytes, vector_code_bytes, vector_codes_bytes, given_vector_codes_bytes, pattern_bytes, macroblock_body}

pub record-length : (kind : ℕ) (body : List ℕ) → length (record_bytes kind body) ≡ 3 + length body
unfolding record_bytes record_head big_endian_bytes
record-length kind body = omega arith

pub pairs-length : (pairs : List Pair) → length (pairs_bytes pairs) ≡ 3 * length pairs
unfolding joined pair_bytes big_endian_bytes
pairs-length [] = refl
pairs-length (p ∷ pairs) = omega (arith, pairs-length pairs)

pub levels-length : (pairs : List Pair) → length (levels_bytes pairs) ≡ 1 + 3 * length pairs
unfolding levels_bytes
levels-length pairs = omega (arith, pairs-length pairs)

coded-length : (intra : Bool) (difference : ℤ) (pairs : List Pair) → length (block_bytes intra (coded difference pairs)) ≡ cond intra 3 1 + 3 * length pairs
unfolding block_bytes big_endian_bytes
coded-length true difference pairs = omega (arith, levels-length pairs)
coded-length false difference pairs = levels-length pairs

codes-length : (codes : VectorCodes) → length (vector_codes_bytes codes) ≡ 4
unfolding vector_codes_bytes vector_code_bytes
codes-length codes = refl

-- ---- a macroblock's body takes at most 1183 bytes when each block has at most 64 pairs
abbrev pub FewIn : Block → Type 0
FewIn uncoded = Unit {0}
FewIn (coded difference pairs) = length pairs ≤ 64

pub data FewPairs : List Block → Type 0 where
  none : FewPairs []
  more : {block : Block} {blocks : List Block} → FewIn block → FewPairs blocks → FewPairs (block ∷ blocks)

pub block-short : (intra : Bool) (block : Block) → FewIn block → length (block_bytes intra block) ≤ 195
unfolding block_bytes
block-short intra uncoded few = omega arith
block-short true (coded difference pairs) few = omega (arith, coded-length true difference pairs)
block-short false (coded difference pairs) few = omega (arith, coded-length false difference pairs)

pub blocks-short : (intra : Bool) {blocks : List Block} → FewPairs blocks → length (blocks_bytes intra blocks) ≤ 195 * length blocks
unfolding joined
blocks-short intra none = omega arith
blocks-short intra (more {block} {blocks} few others) =
    omega (arith, length-append (block_bytes intra block) (blocks_bytes intra blocks), block-short intra block few, blocks-short intra others)

byte-short : (given : Bool) (n : ℕ) → length (cond given (n ∷ []) []) ≤ 1
byte-short true n = omega arith
byte-short false n = omega arith

pub head-short : (type increment scale : ℕ) → length (head_bytes type increment scale) ≤ 4
unfolding head_bytes big_endian_bytes
head-short type increment scale = omega (arith, byte-short (has_scale type) scale)

pub given-short : (given : Bool) (codes : VectorCodes) → length (given_vector_codes_bytes given codes) ≤ 4
given-short true codes = omega (arith, codes-length codes)
given-short false codes = omega arith

pub pattern-short : (type pattern : ℕ) → length (pattern_bytes type pattern) ≤ 1
unfolding pattern_bytes
pattern-short type pattern = go (is_intra type)
  where
    go : (intra : Bool) → length (cond intra [] (cond (has_pattern type) (pattern ∷ []) [])) ≤ 1
    go true = omega arith
    go false = byte-short (has_pattern type) pattern

pub macroblock-short : (m : Macroblock) → length m.blocks ≤ 6 → FewPairs m.blocks → length (macroblock_body m) ≤ 1183
unfolding macroblock_body
macroblock-short m six few =
    let type = m.symbols.macroblock_type in
    let head = head_bytes type m.symbols.increment m.symbols.scale in
    let forward = given_vector_codes_bytes (has_forward type) m.symbols.forward in
    let backward = given_vector_codes_bytes (has_backward type) m.symbols.backward in
    let pattern = pattern_bytes type m.symbols.pattern in
    let blocks = blocks_bytes (is_intra type) m.blocks in
    omega (
      arith,
      length-append head ((forward ++ backward) ++ (pattern ++ blocks)),
      length-append (forward ++ backward) (pattern ++ blocks),
      length-append forward backward,
      length-append pattern blocks,
      head-short type m.symbols.increment m.symbols.scale,
      given-short (has_forward type) m.symbols.forward,
      given-short (has_backward type) m.symbols.backward,
      pattern-short type m.symbols.pattern,
      blocks-short (is_intra type) few,
    )
