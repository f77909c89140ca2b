-- `record_at` meets its contract: it makes the same tests as `record_of` on the bytes from the offset on, in the same order. Assumes nothing.
use mathlib.Core.Bool.{true, false}
use mathlib.Core.List.{List}
use mathlib.Core.Path.{◌≡◌, sym, ◌∙◌}
use native.Mathlib.Decide.{dec_lt}
use native.Mathlib.Nat.{add_assoc, add-zero}
use native.Mathlib.Omega.{arith}
use Prim.Native.Nat.{ℕ, ◌+◌, ◌-◌, ◌<◌}
use lib.Dec.{leb}
use lib.ListN.{length, get_or, drop, length-drop}
use lib.Seq.{get_or-drop}
use borrow.Author.Tests.{le-leb, lt-leb}
use Rattle.std.specs.Prelude.{Result, Ok, Err}
use Rattle.refusals.specs.declared.Refusal.{Refusal}
use Rattle.refusals.specs.declared.Refusal.TheVariants.{RecordCut, RecordKind}
use Rattle.symbols.specs.Guard.{require◌else◌then◌}
use Rattle.format3_records.specs.declared.record.Record.{Record}
use Rattle.format3_records.specs.Field.{big_endian}
use Rattle.format3_records.specs.Record.{legal_kind, record_length_at, kind_at, record_of}
use Rattle.format3_records.proofs.record.record_at.Goals as goal

-- the record at the start of the bytes left from an offset on
abbrev first_of : List ℕ → ℕ → Result Record Refusal
first_of left offset =
    let length_field = big_endian (get_or left 0 0) (get_or left 1 0) in
    require leb 3 (length left) else Err RecordCut then
    require leb 1 length_field else Err RecordCut then
    require leb (2 + length_field) (length left) else Err RecordCut then
    require legal_kind (get_or left 2 0) else Err RecordKind then
    Ok (record { kind = get_or left 2 0; start = offset + 3; length = length_field - 1 })

shifted : (offset k n : ℕ) → 0 < k → leb (offset + k) n ≡ leb k (n - offset)
shifted offset k n h = elim (dec_lt (n - offset) k) [
  | yes less ↦ rw (lt-leb k (n - offset) less) (lt-leb (offset + k) n (omega arith))
  | no more ↦ rw (le-leb k (n - offset) (omega arith)) (le-leb (offset + k) n (omega arith))
]

record-of-left : (file : List ℕ) (offset : ℕ) → record_of file offset ≡ first_of (drop offset file) offset
unfolding record_of record_length_at kind_at
record-of-left file offset =
    let n : ℕ = big_endian (get_or file offset 0) (get_or file (offset + 1) 0) in
    rw (shifted offset 3 (length file) (omega arith), add_assoc offset 2 n, shifted offset (2 + n) (length file) (omega arith)) (simp (length-drop, get_or-drop, add-zero))

pub returns-in_default : goal.returns-in_default
unfolding require◌else◌then◌
returns-in_default c = rw (record-of-left, ← c.after-left.ensures, lt-leb _ _ c.in_default.len_below)

pub returns-then-length-lt1 : goal.returns-then-length-lt1
unfolding require◌else◌then◌
returns-then-length-lt1 c =
    let left = c.after-left.result.now in
    let same : big_endian (get_or left 0 0) (get_or left 1 0) ≡ c.from-length.result = omega arith in
    rw (record-of-left, ← c.after-left.ensures, le-leb _ _ c.in-len3-up.len_at_least, same, lt-leb _ _ c.if-length-lt1.true)

pub returns-then-left-length : goal.returns-then-left-length
unfolding require◌else◌then◌
returns-then-left-length c =
    let left = c.after-left.result.now in
    let same : big_endian (get_or left 0 0) (get_or left 1 0) ≡ c.from-length.result = omega arith in
    let past : leb (2 + c.from-length.result) (length left) ≡ false = lt-leb _ _ (omega arith) in
    rw (record-of-left, ← c.after-left.ensures, le-leb _ _ c.in-len3-up.len_at_least, same, le-leb _ _ c.if-length-lt1.false, past)

pub returns-then-not-legal_kind : goal.returns-then-not-legal_kind
unfolding require◌else◌then◌
returns-then-not-legal_kind c =
    let left = c.after-left.result.now in
    let same : big_endian (get_or left 0 0) (get_or left 1 0) ≡ c.from-length.result = omega arith in
    let whole : leb (2 + c.from-length.result) (length left) ≡ true = le-leb _ _ (omega arith) in
    let legal : legal_kind (get_or left 2 0) ≡ false = sym c.legal_kind.ensures ∙ c.if-not-legal_kind.true in
    rw (record-of-left, ← c.after-left.ensures, le-leb _ _ c.in-len3-up.len_at_least, same, le-leb _ _ c.if-length-lt1.false, whole, legal)

pub returns : goal.returns
unfolding require◌else◌then◌
returns c =
    let left = c.after-left.result.now in
    let same : big_endian (get_or left 0 0) (get_or left 1 0) ≡ c.from-length.result = omega arith in
    let whole : leb (2 + c.from-length.result) (length left) ≡ true = le-leb _ _ (omega arith) in
    let legal : legal_kind (get_or left 2 0) ≡ true = sym c.legal_kind.ensures ∙ c.if-not-legal_kind.false in
    rw (record-of-left, ← c.after-left.ensures, le-leb _ _ c.in-len3-up.len_at_least, same, le-leb _ _ c.if-length-lt1.false, whole, legal)
