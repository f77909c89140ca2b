-- The records of a slice that is read are put together as document 01 has them, so the strict reader finds no fault with their lengths.
-- Assumes nothing.
use mathlib.Core.Bool.{Bool, true, false}
use mathlib.Core.List.{List}
use mathlib.Core.Path.{◌≡◌, refl}
use Prim.Native.Nat.{ℕ, zero, suc, ◌+◌, ◌≤◌}
use native.Mathlib.Omega.{arith}
use lib.IntN.{ℤ}
use lib.ListN.{length, take, drop}
use lib.Seq.{take-append_seam}
use mir.Syntax.{w16}
use mir.Val.{Fits}
use Rattle.refusals.specs.Refusal.{accepted}
use Rattle.symbols.specs.Parsed.{parsed}
use Rattle.symbols.specs.Requires.{HeaderWithin}
use Rattle.symbols.specs.declared.header.Header.{Header}
use Rattle.symbols.specs.declared.header.HeaderFields.{HeaderFields}
use Rattle.symbols.specs.MacroblockType.{has_pattern, is_intra}
use Rattle.symbols.specs.Pattern.{coded_pattern, is_coded}
use Rattle.symbols.specs.Macroblock.{Macroblock}
use Rattle.symbols.specs.Slice.{Slice}
use Rattle.symbols.proofs.Parsed.{All, here, all_then, all-cond, all_more, all_both, all-at, all_any}
use Rattle.format3_writer.specs.Records.{slice_bytes}
use Rattle.format3_writer.proofs.Laws.Lengths.{FewPairs}
use Rattle.format3_picture.specs.Picture.{picture_within}
use Rattle.mpeg1_bits.specs.Bits.{all_zeros, bits_from}
use Rattle.mpeg1_bits.specs.declared.BitPosition.{BitPosition}
use Rattle.mpeg1_tables.specs.AnnexB.{patterns}
use Rattle.mpeg1_slice.specs.Read.{word_at}
use Rattle.mpeg1_slice.specs.Blocks.{pairs_at, given_difference_at, block_at, given_block_at, blocks_from}
use Rattle.mpeg1_slice.specs.Macroblock.{head_at, vectors_at, pattern_at, pattern_and_blocks_at, vectors_and_blocks_at, macroblock_of_fields, PatternAndBlocks, macroblock_at}
use Rattle.mpeg1_slice.specs.Slice.{next_macroblock_at, macroblocks_from, after_head_at, raw_slice_of}
use Rattle.mpeg1_reader.proofs.Laws.Few.{blocks-few}
use Rattle.mpeg1_reader.specs.Answer.{answer_number, answer_written, raw_slice_outcome}
use Rattle.mpeg1_reader.proofs.Laws.Start.{head-row}
use Rattle.theorems_records.specs.WellFramed.{WellFramed}
use Rattle.theorems_records.specs.FieldFit.{was_coded, CodedBy}
use Rattle.theorems_records.specs.FieldFit as Coded
use Rattle.theorems_records.specs.WellFormed.{WellFormedMacroblock, WellFormedMacroblocks, file_of}
use Rattle.theorems_records.specs.WellFormed as Whole
use Rattle.theorems_records.specs.Slices.{EncodableMacroblock, EncodableMacroblocks}
use Rattle.theorems_records.specs.Slices as Slices
use Rattle.theorems_records.proofs.Picture.{picture-framed, slice-whole, macroblock-whole}
use Rattle.theorems_records.proofs.Fits.{increment-small, macroblock-fits, start_fits}
use Rattle.theorems_records.proofs.Ended.{accepted-is-slice, accepted-slice-written}

-- ---- blocks: those that the pattern says are coded
given-coded : (given intra : Bool) (block : ℕ) (bytes : List ℕ) (at : BitPosition) → All (λ b p. was_coded b ≡ given) (given_block_at given intra block bytes at)
unfolding given_block_at block_at
given-coded true intra block bytes at =
    all_then (all_any (given_difference_at intra block bytes at)) λ difference p u.
    all_then (all_any (pairs_at intra bytes p)) λ pairs q v.
    here refl
given-coded false intra block bytes at = here refl

blocks-coded : (intra : Bool) (pattern n block : ℕ) (bytes : List ℕ) (at : BitPosition) → All (λ blocks p. CodedBy pattern n block blocks) (blocks_from intra pattern n block bytes at)
unfolding blocks_from
blocks-coded intra pattern zero block bytes at = here Coded.none
blocks-coded intra pattern (suc n) block bytes at =
    all_then (given-coded (is_coded pattern block) intra block bytes at) λ b p one.
    all_then (blocks-coded intra pattern n (block + 1) bytes p) λ blocks q others.
    here (Coded.more one others)

-- ---- macroblocks
abbrev Known : ℕ → ℕ → Type 0
Known type pattern = pattern ≡ coded_pattern type (λ known. known) pattern

pattern-of : (type : ℕ) (bytes : List ℕ) (at : BitPosition) → All (λ pattern p. Known type pattern) (pattern_at type bytes at)
unfolding pattern_at
pattern-of type bytes at =
    all-cond (is_intra type) _ _ _ (λ t. here (rw t refl)) λ t.
    all-cond (has_pattern type) _ _ _ (λ u. all_more (all_any (word_at patterns bytes at)) λ pattern p v. rw (t, u) refl) (λ u. here (rw (t, u) refl))

record Residual (type : ℕ) (pattern_and_blocks : PatternAndBlocks) : Type 0 where
  pub known : Known type pattern_and_blocks.pattern
  pub coded : CodedBy pattern_and_blocks.pattern 6 0 pattern_and_blocks.blocks
  pub few : FewPairs pattern_and_blocks.blocks

pattern-and-blocks-of : (type : ℕ) (bytes : List ℕ) (at : BitPosition) → All (λ pattern_and_blocks p. Residual type pattern_and_blocks) (pattern_and_blocks_at type bytes at)
unfolding pattern_and_blocks_at
pattern-and-blocks-of type bytes at =
    all_then (pattern-of type bytes at) λ pattern p known.
    all_then (all_both (blocks-coded (is_intra type) pattern 6 0 bytes p) (blocks-few (is_intra type) pattern 6 0 bytes p)) λ blocks q h.
    here (record { known = known; coded = h.0; few = h.1.few })

rest_of : (type forward backward : ℕ) (bytes : List ℕ) (at : BitPosition) → All (λ rest p. Residual type rest.pattern_and_blocks) (vectors_and_blocks_at type forward backward bytes at)
unfolding vectors_and_blocks_at
rest_of type forward backward bytes at =
    all_then (all_any (vectors_at type forward backward bytes at)) λ vectors p t.
    all_then (pattern-and-blocks-of type bytes p) λ pattern_and_blocks q h.
    here h

whole_of : (h : Header) (increment : ℕ) (bytes : List ℕ) (at : BitPosition) → All (λ m p. WellFormedMacroblock m) (macroblock_at h increment bytes at)
unfolding macroblock_at
whole_of h increment bytes at =
    all_then (all_any (head_at h.coding_type bytes at)) λ head p t.
    all_then (rest_of head.macroblock_type h.forward.f_code h.backward.f_code bytes p) λ rest q k.
    here (macroblock-whole (macroblock_of_fields increment head rest) (record { pattern = k.known; blocks = k.coded }) k.few)

macroblock-of : (h : Header) (increment : ℕ) (bytes : List ℕ) (at : BitPosition) → increment ≤ 431 → All (λ m p. EncodableMacroblock m) (macroblock_at h increment bytes at)
macroblock-of h increment bytes at small =
    all_more (all_both (whole_of h increment bytes at) (macroblock-fits bytes h increment at (record { fits = omega arith }))) λ m p k. record { whole = k.0; fitting = k.1 }

next_of : (h : Header) (bytes : List ℕ) (at : BitPosition) → All (λ m p. EncodableMacroblock m) (next_macroblock_at h bytes at)
unfolding next_macroblock_at
next_of h bytes at = all_then (increment-small bytes at) λ increment p small. macroblock-of h increment bytes p small

macroblocks-of : (n : ℕ) (h : Header) (bytes : List ℕ) (at : BitPosition) → All (λ macroblocks p. EncodableMacroblocks macroblocks) (macroblocks_from n h bytes at)
unfolding macroblocks_from
macroblocks-of zero h bytes at = here Slices.none
macroblocks-of (suc n) h bytes at =
    all-cond (all_zeros (bits_from bytes at)) _ _ _ (λ t. here Slices.none) λ t.
    all_then (next_of h bytes at) λ first p k.
    all_then (macroblocks-of n h bytes p) λ rest q l.
    here (Slices.more k l)

-- ---- the slice
pub record ReadSlice (h : Header) (slice : Slice) : Type 0 where
  pub start : HeaderWithin h → Fits w16 slice.start
  pub each : EncodableMacroblocks slice.macroblocks

pub slice_of : (h : Header) (bytes : List ℕ) → All (λ slice p. ReadSlice h slice) (raw_slice_of h bytes)
unfolding raw_slice_of after_head_at
slice_of h bytes =
    all_then (head-row h.size.height bytes) λ head at row.
    all_then (increment-small bytes at) λ increment next small.
    all_then (macroblock-of h 1 bytes next (omega arith)) λ first after k.
    all_then (macroblocks-of _ h bytes after) λ rest end l.
    here (record { start = λ within. start_fits h head.row increment within row.most small; each = Slices.more k l })

each-whole : {macroblocks : List Macroblock} → EncodableMacroblocks macroblocks → WellFormedMacroblocks macroblocks
each-whole Slices.none = Whole.none
each-whole (Slices.more k l) = Whole.more k.whole (each-whole l)

-- rules out a writer that cuts a record, counts its bytes or its pairs wrongly, or leaves out a field
pub slice-framed : (h : Header) (bytes : List ℕ) (slice : Slice) (end : BitPosition) → raw_slice_of h bytes ≡ parsed slice end
    → (limit : ℕ) (transform : List ℤ → ℕ → ℤ) (fields forward backward output : List ℕ) → length fields ≡ 7
    → WellFramed (picture_within limit transform (file_of fields (slice_bytes slice)) forward backward output).number
slice-framed h bytes slice end e limit transform fields forward backward output seven =
    picture-framed fields (slice_bytes slice) seven limit transform forward backward output (slice-whole slice.scale slice.start (each-whole (all-at (slice_of h bytes) e).each))

-- rules out an entry that counts too many bytes or too few, or writes the records elsewhere
pub accepted-framed : (given : HeaderFields) (bytes buffer : List ℕ) → answer_number (raw_slice_outcome given bytes buffer).answer ≡ accepted
    → (limit : ℕ) (transform : List ℤ → ℕ → ℤ) (fields forward backward output : List ℕ) → length fields ≡ 7
    → WellFramed (picture_within limit transform (file_of fields (take (answer_written (raw_slice_outcome given bytes buffer).answer) (raw_slice_outcome given bytes buffer).buffer)) forward backward output).number
accepted-framed given bytes buffer number limit transform fields forward backward output seven =
    let t = accepted-is-slice given bytes buffer number in
    let records = slice_bytes t.slice in
    rw (accepted-slice-written given bytes buffer t, take-append_seam records (drop (length records) buffer))
    (slice-framed t.header bytes t.slice t.end t.is limit transform fields forward backward output seven)
