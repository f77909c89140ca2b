-- How the first reading of a slice decides the answer, and which header numbers are legal. Assumes nothing.
use mathlib.Core.Bool.{true}
use mathlib.Core.List.{List, ◌++◌}
use mathlib.Core.Path.{◌≡◌, refl, sym, ap, ◌∙◌}
use Rattle.std.specs.Prelude.{Result, Ok, Err}
use Prim.Native.Nat.{ℕ, ◌+◌, ◌<◌, ◌≤◌}
use native.Mathlib.Omega.{arith}
use lib.Dec.{leb}
use lib.ListN.{length, take, drop, length-append}
use lib.Seq.{length-take-le}
use borrow.Author.Tests.{le-leb, lt-leb, leb-false}
use Rattle.refusals.specs.declared.Refusal.{Refusal}
use Rattle.math.specs.Joined.{joined}
use Rattle.symbols.specs.Guard.{require◌else◌then◌}
use Rattle.symbols.specs.Parsed.{parsed, refused}
use Rattle.symbols.specs.Size.{max_width, max_height, legal_size}
use Rattle.symbols.specs.Header.{legal_header, header_value, header_with}
use Rattle.symbols.specs.declared.header.Header.{Header}
use Rattle.symbols.specs.declared.header.HeaderFields.{HeaderFields}
use Rattle.symbols.specs.Slice.{Slice}
use Rattle.symbols.proofs.Guard.{both}
use Rattle.symbols.proofs.Parsed.{all-at}
use Rattle.symbols.proofs.Laws.Header.{made-within}
use Rattle.symbols.proofs.Laws.Size.{size-legal}
use Rattle.format3_writer.specs.Written.{written, max_offset, saturating_add}
use Rattle.format3_writer.proofs.Laws.Written.{written-append, written-take, written-whole, written_back}
use Rattle.format3_writer.specs.Records.{macroblock_record, slice_bytes}
use Rattle.mpeg1_bits.specs.declared.BitPosition.{BitPosition}
use Rattle.mpeg1_tables.proofs.Laws.Prefix.{case}
use Rattle.mpeg1_slice.specs.declared.refused.RefusedAt.{RefusedAt}
use Rattle.mpeg1_slice.specs.Read.{Read}
use Rattle.mpeg1_slice.specs.Slice.{first_bit, macroblocks_at}
use Rattle.mpeg1_reader.specs.WriteAnswer.{WrittenAt}
use Rattle.mpeg1_reader.specs.declared.write_answer.WrittenRecords.{WrittenRecords}
use Rattle.mpeg1_reader.specs.RecordOffsets.{ResumesAt, RecordsAnswered, done, stopped}
use Rattle.mpeg1_reader.specs.declared.entry.PictureParameters.{PictureParameters}
use Rattle.mpeg1_reader.specs.Answer.{given_fields, byte_given, refused_outcome, accepted_with, fitted, read_outcome}

-- ---- the result of the first reading: where the slice ends, how long its records are, and a checkpoint
pub record Measured (h : Header) (bytes : List ℕ) (capacity : ℕ) (x : Read Slice) (w : WrittenRecords) : Type 0 where
  pub slice : Slice
  pub is : x ≡ parsed slice w.at
  pub size : w.end ≡ saturating_add 0 (length (slice_bytes slice))
  pub resumes : ResumesAt h bytes 0 capacity (slice_bytes slice) w.at w.whole

module _ {h : Header} {bytes : List ℕ} {capacity : ℕ} where
  pub measured : (x : Read Slice) {w : WrittenRecords} → RecordsAnswered slice_bytes h bytes 0 capacity x (Ok w) → Measured h bytes capacity x w
  measured (parsed a q) (done {checkpoint = c} resumes) = record { slice = a; is = refl; size = refl; resumes = resumes }
  measured (refused _) x = elim x [ ]

  pub unmeasured : (x : Read Slice) {reason : RefusedAt} → RecordsAnswered slice_bytes h bytes 0 capacity x (Err reason) → x ≡ refused reason
  unmeasured (refused reason) stopped = refl
  unmeasured (parsed _ _) x = elim x [ ]

  -- what is read once isn't refused again
  pub never-refused : {A : Type 0} {records_of : A → List ℕ} {offset : ℕ} (x : Read A) {reason : RefusedAt} {a : A} {p : BitPosition} → RecordsAnswered records_of h bytes offset capacity x (Err reason) → x ≡ parsed a p → ⊥
  never-refused (refused _) stopped e = let z : ◌≡◌ {A = ℕ} 0 1 = cc in omega arith
  never-refused (parsed _ _) x e = elim x [ ]

past : {n k room : ℕ} → n ≡ saturating_add 0 k → room < n → room < k
unfolding saturating_add
past e h = omega (arith, e)

not-past : {n k room : ℕ} → n ≡ saturating_add 0 k → n ≤ room → room < max_offset → k ≤ room
unfolding saturating_add
not-past e h r = omega (arith, e)

whole : {n k room : ℕ} → n ≡ saturating_add 0 k → n ≤ room → room < max_offset → n ≡ k
unfolding saturating_add
whole e h r = omega (arith, e)

pub put-long : (n : ℕ) (full buffer : List ℕ) → n ≤ length full → n ≤ length (take n full ++ drop n buffer)
put-long n full buffer h = omega (arith, length-append (take n full) (drop n buffer), length-take-le n full h)

-- the front is copied from where all was written, and the rest is written after it
put-resumed : (front rest first buffer : List ℕ) {at : ℕ} {full between last : List ℕ} → at ≡ 0 + length front → at ≤ length first → at ≤ length buffer → full ≡ written 0 (front ++ rest) first
    → between ≡ take at full ++ drop at buffer → last ≡ written at rest between → last ≡ written 0 (front ++ rest) buffer
put-resumed front rest first buffer {at} {full} {between} {last} counted inside fits all put again = again ∙ rw (between_is, counted) (sym (written-append 0 front rest buffer))
  where
    size : at ≡ length front
    size = omega (arith, counted)

    front_of : take (length front) full ≡ front
    front_of =
        ap (take (length front)) (all ∙ written-append 0 front rest first)
        ∙ written-take (length front) (0 + length front) rest (written 0 front first) (omega arith)
        ∙ written_back front first (omega (arith, size))

    between_is : between ≡ written 0 front buffer
    between_is = put ∙ rw (size, front_of) (sym (written-whole front buffer (omega (arith, size))))

module _ {h : Header} {bytes : List ℕ} {capacity : ℕ} (x : Read Slice) {w : WrittenRecords} (m : Measured h bytes capacity x w) (buffer : List ℕ) (room : length buffer < max_offset) where
  pub too_long : length buffer < w.end → read_outcome x buffer ≡ refused_outcome Refusal.RecordsLength first_bit buffer
  unfolding fitted require◌else◌then◌
  too_long k = rw (m.is, lt-leb (length (slice_bytes m.slice)) (length buffer) longer)
    where
      longer : length buffer < length (slice_bytes m.slice)
      longer = past m.size k

  short-enough : w.end ≤ length buffer → length (slice_bytes m.slice) ≤ length buffer
  short-enough k = not-past m.size k room

  pub whole-size : w.end ≤ length buffer → w.end ≡ length (slice_bytes m.slice)
  whole-size k = whole m.size k room

  pub it-fits : w.end ≤ length buffer → read_outcome x buffer ≡ accepted_with (slice_bytes m.slice) w.at buffer
  unfolding fitted require◌else◌then◌
  it-fits k = rw (m.is, le-leb (length (slice_bytes m.slice)) (length buffer) (short-enough k))

  pub checkpoint-fits : w.end ≤ length buffer → w.whole.offset ≤ length buffer
  checkpoint-fits k =
      let c = m.resumes in
      omega (arith, short-enough k, ap length c.same, length-append c.front (joined macroblock_record c.rest), c.counted)

  -- what the room has up to the checkpoint, and then the rest written after it, are the slice's records
  pub resumed-there : (first : List ℕ) {full between last : List ℕ} → capacity ≡ length first → w.end ≤ length buffer → WrittenAt slice_bytes 0 first full x → between ≡ take w.whole.offset full ++ drop w.whole.offset buffer
      → WrittenAt (joined macroblock_record) w.whole.offset between last (macroblocks_at h bytes w.whole.at) → last ≡ slice_bytes m.slice ++ drop (length (slice_bytes m.slice)) buffer
  resumed-there first same-room k read put again =
      let c = m.resumes in
      let records = slice_bytes m.slice in
      put-resumed c.front (joined macroblock_record c.rest) first buffer c.counted (omega (arith, c.whole, same-room)) (checkpoint-fits k) (all-at read m.is ∙ ap (λ (l : List ℕ). written 0 l first) c.same) put
      (all-at again c.read)
      ∙ ap (λ (l : List ℕ). written 0 l buffer) (sym c.same)
      ∙ written-whole records buffer (short-enough k)

-- ---- the numbers of a legal header
pub record Small (f : HeaderFields) : Type 0 where
  pub wide : f.width ≤ max_width
  pub high : f.height ≤ max_height
  pub type : f.coding_type ≤ 3
  pub forward : f.forward_f_code ≤ 7
  pub backward : f.backward_f_code ≤ 7

legal-made : (f : HeaderFields) → legal_header f ≡ true → header_with f ≡ Ok (header_value f)
unfolding header_with require◌else◌then◌
legal-made f e = rw e

front : (f : HeaderFields) → legal_header f ≡ true → legal_size f.width f.height ≡ true
unfolding legal_header
front f e = (both (legal_size f.width f.height) _ e).0

pub legal-small : (f : HeaderFields) → legal_header f ≡ true → Small f
legal-small f e =
    let size = size-legal f.width f.height (front f e) in
    let within = (made-within f).within (header_value f) (legal-made f e) in
    record { wide = size.1; high = size.3; type = within.last-type; forward = within.forward.most; backward = within.backward.most }

pub illegal : (f : HeaderFields) → (Small f → ⊥) → Err Refusal.Header ≡ header_with f
unfolding header_with require◌else◌then◌
illegal f large = case (legal_header f) (λ t. absurd (large (legal-small f t))) (λ t. rw t)

pub legal-height : (f : HeaderFields) {h : Header} → header_with f ≡ Ok h → h.size.height ≤ max_height
unfolding header_with require◌else◌then◌
legal-height f {h} e =
    case (legal_header f)
    (λ t. let same : header_value f ≡ h = cc (rw t at e) in omega (arith, ap (λ (x : Header). x.size.height) same, (legal-small f t).high))
    (λ t. let z : ◌≡◌ {A = ℕ} 0 1 = cc (rw t at e) in absurd (omega arith))

-- ---- a given number above 255 is refused, and the others are the fields' numbers
pub byte-refused : (n : ℕ) {refusal : Refusal} → Err refusal ≡ byte_given n → (255 < n) × (refusal ≡ Refusal.Header)
unfolding byte_given
byte-refused n {refusal} e =
    case (leb n 255)
    (λ t. let same : ◌≡◌ {A = Result ℕ Refusal} (Err refusal) (Ok n) = rw t at e in absurd (let z : ◌≡◌ {A = ℕ} 0 1 = cc in omega arith))
    (λ t. let same : ◌≡◌ {A = Result ℕ Refusal} (Err refusal) (Err Refusal.Header) = rw t at e in (leb-false n 255 t, cc))

byte-kept : (n : ℕ) {b : ℕ} → Ok b ≡ byte_given n → b ≡ n
unfolding byte_given
byte-kept n {b} e =
    case (leb n 255)
    (λ t. let same : ◌≡◌ {A = Result ℕ Refusal} (Ok b) (Ok n) = rw t at e in cc)
    (λ t. let same : ◌≡◌ {A = Result ℕ Refusal} (Ok b) (Err Refusal.Header) = rw t at e in absurd (let z : ◌≡◌ {A = ℕ} 0 1 = cc in omega arith))

pub fields-kept : (given : PictureParameters) {width height type forward backward : ℕ} → Ok width ≡ byte_given given.width → Ok height ≡ byte_given given.height → Ok type ≡ byte_given given.coding_type
    → Ok forward ≡ byte_given given.forward_f_code → Ok backward ≡ byte_given given.backward_f_code
    → ◌≡◌ {A = HeaderFields} (record { width = width; height = height; coding_type = type; full_pel_forward = 0; forward_f_code = forward; full_pel_backward = 0; backward_f_code = backward }) (given_fields given)
fields-kept given a b c d e = rw (byte-kept _ a, byte-kept _ b, byte-kept _ c, byte-kept _ d, byte-kept _ e) refl
