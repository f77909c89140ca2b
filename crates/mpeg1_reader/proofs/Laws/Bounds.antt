-- How many bytes the records of a slice that is read take at most. Assumes nothing.
use mathlib.Core.List.{List, []}
use mathlib.Core.Path.{◌≡◌, ap}
use Rattle.std.specs.Prelude.{Ok}
use Prim.Native.Nat.{ℕ, zero, suc, ◌+◌, ◌*◌, ◌≤◌}
use native.Mathlib.Omega.{arith}
use lib.ListN.{length, length-append}
use Rattle.math.specs.Joined.{joined}
use Rattle.symbols.specs.declared.header.Header.{Header}
use Rattle.symbols.specs.Macroblock.{Macroblock}
use Rattle.symbols.specs.Slice.{Slice}
use Rattle.symbols.proofs.Parsed.{All, here, all_then, all-cond, all_any, all-at}
use Rattle.format3_records.specs.Record.{macroblock_kind}
use Rattle.format3_writer.specs.Records.{head_bytes, macroblock_body, macroblock_record, slice_bytes}
use Rattle.format3_writer.proofs.Laws.Lengths.{record-length, head-short}
use Rattle.mpeg1_bits.specs.Bits.{all_zeros, bits_from}
use Rattle.mpeg1_bits.specs.declared.BitPosition.{BitPosition}
use Rattle.mpeg1_slice.specs.Increment.{increment_at}
use Rattle.mpeg1_slice.specs.Macroblock.{HeadFields, VectorsAndBlocks, head_at, macroblock_of_fields, macroblock_at}
use Rattle.mpeg1_slice.specs.Slice.{next_macroblock_at, macroblocks_from, start_address, first_bit, slice_head_at, after_head_at, raw_slice_of}
use Rattle.mpeg1_reader.specs.declared.write_answer.Written.{Written}
use Rattle.mpeg1_reader.proofs.Laws.Writing.{part-done}
use Rattle.mpeg1_reader.specs.WriteAnswer.{write_answer, vectors_and_blocks_bytes}
use Rattle.mpeg1_reader.specs.RecordLengths.{slice_record_bytes, max_macroblock_record_bytes}
use Rattle.mpeg1_reader.proofs.Laws.Few.{rest-short}
use Rattle.mpeg1_reader.proofs.Laws.Macroblock.{body_of}
use Rattle.mpeg1_reader.proofs.Laws.Slice.{slice-length}

-- ---- a macroblock's record
pub record ShortRecord (m : Macroblock) : Type 0 where
  pub short : length (macroblock_record m) ≤ max_macroblock_record_bytes

pub macroblock-short : (h : Header) (increment : ℕ) (bytes : List ℕ) (at : BitPosition) → All (λ m p. ShortRecord m) (macroblock_at h increment bytes at)
unfolding macroblock_at
macroblock-short h increment bytes at =
    all_then (all_any (head_at h.coding_type bytes at)) λ head p u.
    all_then (rest-short head.macroblock_type h.forward.f_code h.backward.f_code bytes p) λ rest q k.
    here (record { short = few head rest k.short })
  where
    few : (head : HeadFields) (rest : VectorsAndBlocks) → length (vectors_and_blocks_bytes head.macroblock_type rest) ≤ 1167 → length (macroblock_record (macroblock_of_fields increment head rest)) ≤ max_macroblock_record_bytes
    few head rest k =
        omega (
          arith,
          record-length macroblock_kind (macroblock_body (macroblock_of_fields increment head rest)),
          ap length (body_of increment head rest),
          length-append (head_bytes head.macroblock_type increment head.scale) (vectors_and_blocks_bytes head.macroblock_type rest),
          head-short head.macroblock_type increment head.scale,
          k,
        )

pub macroblock-size : (h : Header) (increment : ℕ) (bytes : List ℕ) (at : BitPosition) {w : Written} → Ok w ≡ write_answer macroblock_record (macroblock_at h increment bytes at)
    → w.size ≤ max_macroblock_record_bytes
macroblock-size h increment bytes at e =
    let part = part-done macroblock_record (macroblock_at h increment bytes at) e in
    omega (arith, part.size, (all-at (macroblock-short h increment bytes at) part.is).short)

next-short : (h : Header) (bytes : List ℕ) (at : BitPosition) → All (λ m p. ShortRecord m) (next_macroblock_at h bytes at)
unfolding next_macroblock_at
next-short h bytes at = all_then (all_any (increment_at bytes at)) λ increment p u. macroblock-short h increment bytes p

-- ---- the records of some macroblocks, and of a slice
record ShortRecords (macroblocks : List Macroblock) : Type 0 where
  pub short : length (joined macroblock_record macroblocks) ≤ length macroblocks * max_macroblock_record_bytes

none-short : ShortRecords []
unfolding joined
none-short = record { short = omega arith }

macroblocks-short : (n : ℕ) (h : Header) (bytes : List ℕ) (at : BitPosition) → All (λ macroblocks p. ShortRecords macroblocks) (macroblocks_from n h bytes at)
unfolding macroblocks_from joined
macroblocks-short zero h bytes at = here none-short
macroblocks-short (suc n) h bytes at =
    all-cond (all_zeros (bits_from bytes at)) _ _ _ (λ t. here none-short) λ t.
    all_then (next-short h bytes at) λ first p k.
    all_then (macroblocks-short n h bytes p) λ rest q l.
    here (record { short = omega (arith, length-append (macroblock_record first) (joined macroblock_record rest), k.short, l.short) })

pub record ShortSlice (slice : Slice) : Type 0 where
  pub short : length (slice_bytes slice) ≤ slice_record_bytes + length slice.macroblocks * max_macroblock_record_bytes

pub slice-short : (h : Header) (bytes : List ℕ) → All (λ slice p. ShortSlice slice) (raw_slice_of h bytes)
unfolding raw_slice_of after_head_at
slice-short h bytes =
    all_then (all_any (slice_head_at h.size.height bytes first_bit)) λ head at t.
    all_then (all_any (increment_at bytes at)) λ increment next u.
    all_then (macroblock-short h 1 bytes next) λ first after k.
    all_then (macroblocks-short _ h bytes after) λ rest end l.
    here (record { short = omega (arith, slice-length head.scale (start_address h head.row increment) first rest, k.short, l.short) })
