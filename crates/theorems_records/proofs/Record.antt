-- A record that the writer wrote is shown whole, wherever it is in a file. Assumes nothing.
use mathlib.Core.Bool.{true}
use mathlib.Core.List.{List, ◌++◌}
use mathlib.Core.Path.{◌≡◌, sym, ap, ◌∙◌}
use Prim.Native.Nat.{ℕ, ◌+◌, ◌-◌, ◌≤◌}
use native.Mathlib.Nat.{add-zero, add-sub_cancel_left}
use native.Mathlib.Omega.{arith}
use borrow.Author.Tests.{le-leb}
use lib.ListN.{length, get_or, take, drop, length-append, length-drop}
use Rattle.std.specs.Prelude.{Ok}
use lib.Seq.{get_or-drop, drop-drop, take-append_seam, drop-append_seam, take-add}
use Rattle.symbols.specs.Guard.{require◌else◌then◌}
use Rattle.format3_records.specs.Record.{legal_kind, record_length_at, kind_at, record_of}
use Rattle.format3_writer.specs.Bytes.{big_endian_bytes}
use Rattle.format3_writer.specs.Records.{record_head, record_bytes}
use Rattle.format3_writer.proofs.Laws.Lengths as Lengths
use Rattle.theorems_records.proofs.ReadBack.{word_same}

module _ (file : List ℕ) (at kind : ℕ) (body after : List ℕ) (stands : drop at file ≡ record_bytes kind body ++ after) where
  -- byte i of the record
  byte_at : (i : ℕ) → get_or file (at + i) 0 ≡ get_or (record_bytes kind body ++ after) i 0
  byte_at i = sym (get_or-drop at file i 0) ∙ ap (λ (l : List ℕ). get_or l i 0) stands

  -- where it ends
  size : length file - at ≡ 3 + length body + length after
  unfolding record_bytes record_head big_endian_bytes
  size = sym (length-drop at file) ∙ ap length stands ∙ omega (arith, length-append body after)

  pub record-length : length body ≤ 65534 → record_length_at file at ≡ 1 + length body
  unfolding record_length_at record_bytes record_head big_endian_bytes
  record-length h = rw (rw (add-zero at) at (byte_at 0), byte_at 1) (word_same (1 + length body) (omega arith))

  record-kind : kind_at file at ≡ kind
  unfolding kind_at record_bytes record_head big_endian_bytes
  record-kind = byte_at 2

  pub record-shown : legal_kind kind ≡ true → length body ≤ 65534 → record_of file at ≡ Ok (record { kind = kind; start = at + 3; length = length body })
  unfolding record_of require◌else◌then◌
  record-shown good h =
      let told = record-length h in
      let head = le-leb (at + 3) (length file) (omega (arith, size)) in
      let whole = le-leb (at + 2 + (1 + length body)) (length file) (omega (arith, size)) in
      rw (head, told, le-leb 1 (1 + length body) (omega arith), whole, record-kind, good, add-sub_cancel_left 1 (length body))

  body-from : drop (at + 3) file ≡ body ++ after
  unfolding record_bytes record_head big_endian_bytes
  body-from = sym (drop-drop 3 at file) ∙ ap (drop 3) stands

  pub record-body : take (length body) (drop (at + 3) file) ≡ body
  record-body = rw (body-from) (take-append_seam body after)

  pub record-after : drop (at + 3 + length body) file ≡ after
  record-after = sym (drop-drop (length body) (at + 3) file) ∙ ap (drop (length body)) body-from ∙ drop-append_seam body after

  -- the bytes up to its end are those before it, and its own
  pub record-before : take (at + 3 + length body) file ≡ take at file ++ record_bytes kind body
  record-before =
      ap (λ (n : ℕ). take n file) ends
      ∙ take-add at (length (record_bytes kind body)) file
      ∙ ap (λ (l : List ℕ). take at file ++ l) (rw stands (take-append_seam (record_bytes kind body) after))
    where
      ends : at + 3 + length body ≡ at + length (record_bytes kind body)
      ends = omega (arith, Lengths.record-length kind body)
