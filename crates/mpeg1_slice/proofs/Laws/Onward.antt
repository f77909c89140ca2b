-- Each part of a slice ends within the bytes and not before its start. Assumes nothing.
use mathlib.Core.Bool.{Bool, false, not, ◌&&◌}
use mathlib.Core.List.{List}
use Prim.Native.Nat.{ℕ, zero, suc, ◌+◌, ◌-◌}
use lib.Dec.{eqb, ltb, leb}
use lib.ListN.{length}
use Rattle.symbols.specs.Size.{max_macroblocks}
use Rattle.symbols.specs.declared.header.Header.{Header}
use Rattle.symbols.specs.MacroblockType.{has_scale, has_forward, has_backward, has_pattern, is_intra}
use Rattle.symbols.specs.Pair.{first_position}
use Rattle.symbols.specs.Pattern.{is_coded}
use Rattle.symbols.proofs.Parsed.{here, none, all_then, all-require, all-cond}
use Rattle.mpeg1_bits.specs.Bits.{bits_from}
use Rattle.mpeg1_bits.specs.declared.BitPosition.{BitPosition}
use Rattle.mpeg1_tables.specs.AnnexB.{stuffing, increment_escape}
use Rattle.mpeg1_vlc.proofs.Laws.Range.{increment-read, increment-after-escape-read, type-read, pattern-read, motion-code-read}
use Rattle.mpeg1_slice.specs.Increment.{after_stuffing, first_code_at, amount_of, after_escape, increment_at}
use Rattle.mpeg1_slice.specs.Vectors.{residual_at, component_at, vector_codes_at, given_vector_codes_at}
use Rattle.mpeg1_slice.specs.Blocks.{difference_at, pairs_from, pairs_at, given_difference_at, block_at, given_block_at, blocks_from}
use Rattle.mpeg1_slice.specs.Macroblock.{scale_at, head_at, vectors_at, pattern_at, pattern_and_blocks_at, vectors_and_blocks_at, macroblock_at}
use Rattle.mpeg1_slice.specs.Slice.{after_extra, extra_at, next_macroblock_at}
use Rattle.mpeg1_slice.proofs.Laws.Read.{Ahead, Onward, nearer, word-ahead, word-onward, field-onward}
use Rattle.mpeg1_slice.proofs.Laws.Words.{size-read}
use Rattle.mpeg1_slice.proofs.Laws.Coefficient.{next-onward, all-until}

module _ (bytes : List ℕ) where
  -- ---- the increment
  stuffing-ahead : (n : ℕ) {least : ℕ} {at : BitPosition} → Ahead bytes least at → Onward bytes (1 + least) (after_stuffing n bytes at)
  unfolding after_stuffing
  stuffing-ahead zero h = none
  stuffing-ahead (suc n) h =
      all_then (word-ahead h _ increment-read) λ v p k.
      all-cond (eqb v stuffing) _ _ _ (λ t. stuffing-ahead n (nearer k)) (λ t. here k)

  escape-onward : (n sum : ℕ) {least : ℕ} {at : BitPosition} → Ahead bytes least at → Onward bytes least (after_escape n sum bytes at)
  unfolding after_escape
  escape-onward zero sum h = none
  escape-onward (suc n) sum h =
      all_then (word-onward h _ increment-after-escape-read) λ v p k.
      all-require (leb (sum + amount_of v) max_macroblocks) _ _ p λ t.
      all-cond (eqb v increment_escape) _ _ _ (λ t. escape-onward n (sum + 33) k) (λ t. here k)

  module _ {least : ℕ} {at : BitPosition} (h : Ahead bytes least at) where
    pub first-code-ahead : Onward bytes (1 + least) (first_code_at bytes at)
    first-code-ahead = stuffing-ahead (1 + length (bits_from bytes at)) h

    pub increment-ahead : Onward bytes (1 + least) (increment_at bytes at)
    unfolding increment_at
    increment-ahead =
        all_then first-code-ahead λ v p k.
        all-cond (eqb v increment_escape) _ _ _ (λ t. escape-onward 12 33 k) (λ t. here k)

  -- ---- extra information
  extra-from : (n : ℕ) {least : ℕ} {at : BitPosition} → Ahead bytes least at → Onward bytes least (after_extra n bytes at)
  unfolding after_extra
  extra-from zero h = none
  extra-from (suc n) h =
      all_then (field-onward h 1) λ more p k.
      all-cond (eqb more 0) _ _ _ (λ t. here k) (λ t. all_then (field-onward k 8) λ v q l. extra-from n l)

  -- ---- vectors
  module _ (f_code : ℕ) {least : ℕ} where
    residual-onward : (value : ℕ) {at : BitPosition} → Ahead bytes least at → Onward bytes least (residual_at f_code value bytes at)
    unfolding residual_at
    residual-onward value h = all-cond (not (eqb value 16) && ltb 1 f_code) _ _ _ (λ t. field-onward h (f_code - 1)) (λ t. here h)

    pub motion-onward : {at : BitPosition} → Ahead bytes least at → Onward bytes least (component_at f_code bytes at)
    unfolding component_at
    motion-onward h =
        all_then (word-onward h _ motion-code-read) λ v p k.
        all_then (residual-onward v k) λ r q l.
        here l

    vector-onward : {at : BitPosition} → Ahead bytes least at → Onward bytes least (vector_codes_at f_code bytes at)
    unfolding vector_codes_at
    vector-onward h =
        all_then (motion-onward h) λ across p k.
        all_then (motion-onward k) λ down q l.
        here l

    pub given-onward : (given : Bool) {at : BitPosition} → Ahead bytes least at → Onward bytes least (given_vector_codes_at given f_code bytes at)
    unfolding given_vector_codes_at
    given-onward given h = all-cond given _ _ _ (λ t. vector-onward h) (λ t. here h)

  -- ---- blocks
  pairs-onward : (n : ℕ) (first : Bool) (next : ℕ) {least : ℕ} {at : BitPosition} → Ahead bytes least at → Onward bytes least (pairs_from n first next bytes at)
  unfolding pairs_from
  pairs-onward zero first next h = none
  pairs-onward (suc n) first next h =
      all_then (next-onward first next h) λ found p k.
      all-until found _ _ k λ pair e.
      all_then (pairs-onward n false (next + pair.run + 1) k) λ pairs q l.
      here l

  module _ (intra : Bool) {least : ℕ} where
    difference-onward : (block : ℕ) {at : BitPosition} → Ahead bytes least at → Onward bytes least (difference_at block bytes at)
    unfolding difference_at
    difference-onward block h =
        all_then (word-onward h _ (size-read block)) λ size p k.
        all-cond (eqb size 0) _ _ _ (λ t. here k) (λ t. all_then (field-onward k size) λ v q l. here l)

    pub given-difference-onward : (block : ℕ) {at : BitPosition} → Ahead bytes least at → Onward bytes least (given_difference_at intra block bytes at)
    unfolding given_difference_at
    given-difference-onward block h = all-cond intra _ _ _ (λ t. difference-onward block h) (λ t. here h)

    block-onward : (block : ℕ) {at : BitPosition} → Ahead bytes least at → Onward bytes least (block_at intra block bytes at)
    unfolding block_at pairs_at
    block-onward block h =
        all_then (given-difference-onward block h) λ d p k.
        all_then (pairs-onward 65 (not intra) (first_position intra) k) λ pairs q l.
        here l

    pub given-block-onward : (given : Bool) (block : ℕ) {at : BitPosition} → Ahead bytes least at → Onward bytes least (given_block_at given intra block bytes at)
    unfolding given_block_at
    given-block-onward given block h = all-cond given _ _ _ (λ t. block-onward block h) (λ t. here h)

    blocks-onward : (pattern n block : ℕ) {at : BitPosition} → Ahead bytes least at → Onward bytes least (blocks_from intra pattern n block bytes at)
    unfolding blocks_from
    blocks-onward pattern zero block h = here h
    blocks-onward pattern (suc n) block h =
        all_then (given-block-onward (is_coded pattern block) block h) λ first p k.
        all_then (blocks-onward pattern n (block + 1) k) λ rest q l.
        here l

  -- ---- the macroblock
  module _ {least : ℕ} where
    scale-onward : (type : ℕ) {at : BitPosition} → Ahead bytes least at → Onward bytes least (scale_at type bytes at)
    unfolding scale_at
    scale-onward type h = all-cond (has_scale type) _ _ _ (λ t. field-onward h 5) (λ t. here h)

    pub head-onward : (coding_type : ℕ) {at : BitPosition} → Ahead bytes least at → Onward bytes least (head_at coding_type bytes at)
    unfolding head_at
    head-onward coding_type h =
        all_then (word-onward h _ (type-read coding_type)) λ type p k.
        all_then (scale-onward type k) λ scale q l.
        here l

    pub vectors-onward : (type forward_code backward_code : ℕ) {at : BitPosition} → Ahead bytes least at → Onward bytes least (vectors_at type forward_code backward_code bytes at)
    unfolding vectors_at
    vectors-onward type forward_code backward_code h =
        all_then (given-onward forward_code (has_forward type) h) λ forward p k.
        all_then (given-onward backward_code (has_backward type) k) λ backward q l.
        here l

    pub pattern-onward : (type : ℕ) {at : BitPosition} → Ahead bytes least at → Onward bytes least (pattern_at type bytes at)
    unfolding pattern_at
    pattern-onward type h = all-cond (is_intra type) _ _ _ (λ t. here h) (λ t. all-cond (has_pattern type) _ _ _ (λ t. word-onward h _ pattern-read) (λ t. here h))

    residue-onward : (type : ℕ) {at : BitPosition} → Ahead bytes least at → Onward bytes least (pattern_and_blocks_at type bytes at)
    unfolding pattern_and_blocks_at
    residue-onward type h =
        all_then (pattern-onward type h) λ pattern p k.
        all_then (blocks-onward (is_intra type) pattern 6 0 k) λ blocks q l.
        here l

    rest-onward : (type forward_code backward_code : ℕ) {at : BitPosition} → Ahead bytes least at → Onward bytes least (vectors_and_blocks_at type forward_code backward_code bytes at)
    unfolding vectors_and_blocks_at
    rest-onward type forward_code backward_code h =
        all_then (vectors-onward type forward_code backward_code h) λ vectors p k.
        all_then (residue-onward type k) λ pattern_and_blocks q l.
        here l

    pub macroblock-onward : (header : Header) (increment : ℕ) {at : BitPosition} → Ahead bytes least at → Onward bytes least (macroblock_at header increment bytes at)
    unfolding macroblock_at
    macroblock-onward header increment h =
        all_then (head-onward header.coding_type h) λ head p k.
        all_then (rest-onward head.macroblock_type header.forward.f_code header.backward.f_code k) λ rest q l.
        here l

  -- ---- the parts of a slice
  module _ {least : ℕ} {at : BitPosition} (h : Ahead bytes least at) where
    pub extra-onward : Onward bytes least (extra_at bytes at)
    extra-onward = extra-from (1 + length (bits_from bytes at)) h

    pub next-ahead : (header : Header) → Onward bytes (1 + least) (next_macroblock_at header bytes at)
    unfolding next_macroblock_at
    next-ahead header = all_then (increment-ahead h) λ increment p k. macroblock-onward header increment k
