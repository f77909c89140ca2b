-- A slice's records: its own, its first macroblock's, and those of the others. Assumes nothing.
use mathlib.Core.List.{List, ◌∷◌, ◌++◌, append_assoc}
use mathlib.Core.Path.{◌≡◌, refl, sym, ap, subst, ◌∙◌}
use Rattle.std.specs.Prelude.{Result, Ok}
use Prim.Native.Nat.{ℕ, zero, suc, ◌+◌, ◌≤◌}
use native.Mathlib.Omega.{arith}
use lib.Dec.{eqb, leb}
use lib.ListN.{length, length-append}
use borrow.Author.Tests.{leb-true}
use Rattle.symbols.specs.Size.{max_macroblocks}
use Rattle.math.specs.Joined.{joined}
use Rattle.symbols.specs.Parsed.{parsed, refused, bind, ◌then◌, give}
use Rattle.symbols.specs.declared.header.Header.{Header}
use Rattle.symbols.specs.Macroblock.{Macroblock}
use Rattle.symbols.specs.Slice.{Slice}
use Rattle.symbols.proofs.Parsed.{All, here, none, all_then, all-require, all-cond}
use Rattle.format3_writer.specs.Written.{written, saturating_add}
use Rattle.format3_writer.specs.Bytes.{big_endian_bytes}
use Rattle.format3_writer.proofs.Laws.Written.{written-length, written-append}
use Rattle.format3_writer.specs.Records.{record_head, record_bytes, slice_body, slice_record, macroblock_record, slice_records, slice_bytes}
use Rattle.mpeg1_bits.specs.Bits.{bits_from}
use Rattle.mpeg1_bits.specs.declared.BitPosition.{BitPosition}
use Rattle.mpeg1_tables.specs.AnnexB.{stuffing, increment_escape}
use Rattle.mpeg1_vlc.proofs.Laws.Range.{increment-read, increment-after-escape-read}
use Rattle.mpeg1_slice.specs.declared.refused.RefusedAt.{RefusedAt}
use Rattle.mpeg1_slice.specs.Read.{Read}
use Rattle.mpeg1_slice.specs.Increment.{after_stuffing, amount_of, after_escape, increment_at}
use Rattle.mpeg1_slice.specs.Macroblock.{macroblock_at}
use Rattle.mpeg1_slice.specs.Slice.{macroblocks_at, start_address, first_bit, slice_head_at, after_head_at, raw_slice_of}
use Rattle.mpeg1_slice.proofs.Laws.Read.{word-between}
use Rattle.mpeg1_reader.specs.WriteAnswer.{WrittenAt}
use Rattle.mpeg1_reader.specs.declared.write_answer.Checkpoint.{Checkpoint}
use Rattle.mpeg1_reader.specs.declared.write_answer.WrittenRecords.{WrittenRecords}
use Rattle.mpeg1_reader.specs.RecordLengths.{slice_record_bytes}
use Rattle.mpeg1_reader.specs.RecordOffsets.{ResumesAt, RecordsAnswered, done, stopped}

-- ---- an increment that is read is 1 to 396
pub record Legal (v : ℕ) : Type 0 where
  pub least : 1 ≤ v
  pub most : v ≤ max_macroblocks

stuffing-legal : (n : ℕ) (bytes : List ℕ) (at : BitPosition) → All (λ v p. (1 ≤ v) × (v ≤ 35)) (after_stuffing n bytes at)
unfolding after_stuffing
stuffing-legal zero bytes at = none
stuffing-legal (suc n) bytes at =
    all_then (word-between bytes at _ increment-read) λ v p k.
    all-cond (eqb v stuffing) _ _ _ (λ t. stuffing-legal n bytes p) (λ t. here k)

escape-legal : (n sum : ℕ) (bytes : List ℕ) (at : BitPosition) → All (λ v p. Legal v) (after_escape n sum bytes at)
unfolding after_escape amount_of
escape-legal zero sum bytes at = none
escape-legal (suc n) sum bytes at =
    all_then (word-between bytes at _ increment-after-escape-read) λ v p k.
    all-require (leb (sum + amount_of v) max_macroblocks) _ _ p λ few.
    all-cond (eqb v increment_escape) _ _ _
    (λ t. escape-legal n (sum + 33) bytes p)
    (λ t. here (record { least = omega (arith, k.0); most = leb-true (sum + v) max_macroblocks (rw t at few) }))

pub increment-legal : (bytes : List ℕ) (at : BitPosition) → All (λ v p. Legal v) (increment_at bytes at)
unfolding increment_at
increment-legal bytes at =
    all_then (stuffing-legal (1 + length (bits_from bytes at)) bytes at) λ v p k.
    all-cond (eqb v increment_escape) _ _ _ (λ t. escape-legal 12 33 bytes p) (λ t. here (record { least = k.0; most = omega (arith, k.1) }))

-- ---- the parts of a slice after its head
module _ (h : Header) (row scale : ℕ) (bytes : List ℕ) (at : BitPosition) where
  pub no-increment : {reason : RefusedAt} → increment_at bytes at ≡ refused reason → after_head_at h row scale bytes at ≡ refused reason
  unfolding after_head_at
  no-increment e = rw e

  module _ {increment : ℕ} {p : BitPosition} (e : increment_at bytes at ≡ parsed increment p) where
    pub no-first : {reason : RefusedAt} → macroblock_at h 1 bytes p ≡ refused reason → after_head_at h row scale bytes at ≡ refused reason
    unfolding after_head_at
    no-first f = rw (e, f)

    pub first_read : {first : Macroblock} {q : BitPosition} → macroblock_at h 1 bytes p ≡ parsed first q
        → after_head_at h row scale bytes at ≡ (macroblocks_at h bytes then λ rest. give (record { scale = scale; start = start_address h row increment; macroblocks = first ∷ rest })) q
    unfolding after_head_at
    first_read f = rw (e, f)

pub no_start : (h : Header) (bytes : List ℕ) {reason : RefusedAt} → slice_head_at h.size.height bytes first_bit ≡ refused reason → raw_slice_of h bytes ≡ refused reason
unfolding raw_slice_of
no_start h bytes e = rw e

-- ---- the bytes of these parts
pub slice-size : (scale start : ℕ) → length (slice_record scale start) ≡ slice_record_bytes
unfolding record_bytes record_head slice_body big_endian_bytes
slice-size scale start = refl

offset-sum : (a b n : ℕ) → saturating_add (a + b) n ≡ saturating_add 0 (a + (b + n))
unfolding saturating_add
offset-sum a b n = omega arith

module _ (scale start : ℕ) (first : Macroblock) where
  abbrev whole : Read (List Macroblock) → Read Slice
  whole x = bind x λ rest. give (record { scale = scale; start = start; macroblocks = first ∷ rest })

  pub slice-length : (rest : List Macroblock) → length (slice_records scale start (first ∷ rest)) ≡ 6 + (length (macroblock_record first) + length (joined macroblock_record rest))
  unfolding slice_records joined
  slice-length rest =
      length-append (slice_record scale start) (macroblock_record first ++ joined macroblock_record rest)
      ∙ rw (slice-size scale start, length-append (macroblock_record first) (joined macroblock_record rest))

  slice_written : (rest : List Macroblock) {n : ℕ} (before : List ℕ) {one two three : List ℕ} → n ≡ length (macroblock_record first) → one ≡ written 0 (slice_record scale start) before
      → two ≡ written 6 (macroblock_record first) one → three ≡ written (6 + n) (joined macroblock_record rest) two → three ≡ written 0 (slice_records scale start (first ∷ rest)) before
  unfolding slice_records joined
  slice_written rest {n} before {one} {two} {three} e f g k = k ∙ rw (g, f, e) (sym appended)
    where
      appended : written 0 (slice_record scale start ++ (macroblock_record first ++ joined macroblock_record rest)) before
          ≡ written (6 + length (macroblock_record first)) (joined macroblock_record rest) (written 6 (macroblock_record first) (written 0 (slice_record scale start) before))
      appended =
          written-append 0 (slice_record scale start) (macroblock_record first ++ joined macroblock_record rest) before
          ∙ rw (slice-size scale start) (written-append 6 (macroblock_record first) (joined macroblock_record rest) (written 0 (slice_record scale start) before))

  -- a checkpoint among the macroblocks is one of the slice
  slice-resumes : {h : Header} {bytes : List ℕ} {n capacity room : ℕ} (rest : List Macroblock) {p : BitPosition} {checkpoint : Checkpoint} → n ≡ length (macroblock_record first) → capacity ≡ room
      → ResumesAt h bytes (6 + n) capacity (joined macroblock_record rest) p checkpoint → ResumesAt h bytes 0 room (slice_records scale start (first ∷ rest)) p checkpoint
  unfolding slice_records joined
  slice-resumes rest e same-room c = record {
    front = own ++ (one ++ c.front);
    rest = c.rest;
    inside = c.inside;
    read = c.read;
    same = ap (λ (l : List ℕ). own ++ (one ++ l)) c.same ∙ ap (λ (l : List ℕ). own ++ l) (sym (append_assoc one c.front others)) ∙ sym (append_assoc own (one ++ c.front) others);
    counted = omega (arith, c.counted, e, slice-size scale start, length-append own (one ++ c.front), length-append one c.front);
    whole = omega (arith, c.whole, same-room);
  }
    where
      own : List ℕ
      own = slice_record scale start

      one : List ℕ
      one = macroblock_record first

      others : List ℕ
      others = joined macroblock_record c.rest

  pub slice-together : {h : Header} {bytes : List ℕ} (x : Read (List Macroblock)) {r : Result WrittenRecords RefusedAt} {n : ℕ} (before : List ℕ) {one two three : List ℕ} → n ≡ length (macroblock_record first)
      → one ≡ written 0 (slice_record scale start) before → two ≡ written 6 (macroblock_record first) one
      → RecordsAnswered (joined macroblock_record) h bytes (6 + n) (length two) x r × WrittenAt (joined macroblock_record) (6 + n) two three x
      → RecordsAnswered slice_bytes h bytes 0 (length before) (whole x) r × WrittenAt slice_bytes 0 before three (whole x)
  slice-together {h} {bytes} (parsed rest p) {r} {n} before {one} {two} e f g (answered, here k) = (of_slice n r e answered, here (slice_written rest before e f g k))
    where
      same-room : length two ≡ length before
      same-room = ap length g ∙ written-length 6 (macroblock_record first) one ∙ ap length f ∙ written-length 0 (slice_record scale start) before

      size : (m : ℕ) → m ≡ length (macroblock_record first) → saturating_add 0 (length (slice_records scale start (first ∷ rest))) ≡ saturating_add (6 + m) (length (joined macroblock_record rest))
      size m d = sym (offset-sum 6 m (length (joined macroblock_record rest)) ∙ ap (saturating_add 0) (rw d (sym (slice-length rest))))

      of_slice : (m : ℕ) (s : Result WrittenRecords RefusedAt) → m ≡ length (macroblock_record first) → RecordsAnswered (joined macroblock_record) h bytes (6 + m) (length two) (parsed rest p) s
          → RecordsAnswered slice_bytes h bytes 0 (length before) (whole (parsed rest p)) s
      of_slice m s d (done {checkpoint = c} resumes) =
          subst (λ (end : ℕ). RecordsAnswered slice_bytes h bytes 0 (length before) (whole (parsed rest p)) (Ok (record { at = p; end = end; whole = c }))) (size m d) (done (slice-resumes rest d same-room resumes))
  slice-together (refused reason) before e f g (stopped, none) = (stopped, none)
