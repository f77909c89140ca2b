-- Laws of bytes written into a buffer (`written`): order does not matter where they lie apart, and what fits is there whole. Assumes nothing.
use mathlib.Core.Bool.{Bool, true, false}
use mathlib.Core.Path.{◌≡◌, refl, sym, ap, subst, ◌∙◌}
use mathlib.Core.List.{List, [], ◌∷◌, ◌++◌, append-nil}
use Prim.Native.Nat.{ℕ, suc, ◌+◌, ◌-◌, ◌<◌, ◌≤◌, min}
use native.Mathlib.Numerals.{add-one, unary_clauses}
use native.Mathlib.Nat.{zero-add, add_assoc, min-eq_left, min-eq_right, le_of_lt}
use native.Mathlib.Omega.{arith}
use borrow.Author.Tests.{leb-true, leb-false, lt-leb}
use lib.Dec.{leb}
use lib.ListN.{length, take, drop, set, length-set, take-append-drop}
use lib.Seq.{length-take-le, take_all, take-append_seam, drop-length, set_out, set_comm, take-set-le, drop-set-lt, sets, sets-eq}
use Rattle.format3_writer.specs.Written.{written, max_offset, saturating_add}

-- writing does not change the buffer's length
pub written-length : (at : ℕ) (bytes buffer : List ℕ) → length (written at bytes buffer) ≡ length buffer
unfolding written
written-length at [] buffer = refl
written-length at (byte ∷ bytes) buffer = written-length (at + 1) bytes (set buffer at byte) ∙ length-set buffer at byte

-- at or past the buffer's end, nothing is written
pub written_past : (at : ℕ) (bytes buffer : List ℕ) → length buffer ≤ at → written at bytes buffer ≡ buffer
unfolding written
written_past at [] buffer h = refl
written_past at (byte ∷ bytes) buffer h = rw (set_out buffer at byte h) (written_past (at + 1) bytes buffer (omega arith))

next-offset : (at n : ℕ) → at + 1 + n ≡ at + suc n
next-offset at n = omega arith

-- two runs of bytes written as one
pub written-append : (at : ℕ) (a b buffer : List ℕ) → written at (a ++ b) buffer ≡ written (at + length a) b (written at a buffer)
unfolding written
written-append at [] b buffer = simp unary_clauses
written-append at (byte ∷ a) b buffer = written-append (at + 1) a b (set buffer at byte) ∙ rw (next-offset at (length a))

-- a byte may be written later than bytes that follow it
set-written : (place byte at : ℕ) (bytes buffer : List ℕ) → place < at → set (written at bytes buffer) place byte ≡ written at bytes (set buffer place byte)
unfolding written
set-written place byte at [] buffer h = refl
set-written place byte at (b ∷ bytes) buffer h =
    set-written place byte (at + 1) bytes (set buffer at b) (omega arith) ∙ ap (written (at + 1) bytes) (set_comm buffer at place b byte (λ e. omega (arith, e)))

-- runs of bytes that don't overlap may be written in either order
pub written_apart : (at : ℕ) (a : List ℕ) (from : ℕ) (b buffer : List ℕ) → at + length a ≤ from → written at a (written from b buffer) ≡ written from b (written at a buffer)
unfolding written
written_apart at [] from b buffer h = refl
written_apart at (byte ∷ a) from b buffer h =
    ap (written (at + 1) a) (set-written at byte from b buffer (omega arith)) ∙ written_apart (at + 1) a from b (set buffer at byte) (omega arith)

-- a count or a length may be written after what it counts
pub written-before : (at : ℕ) (a b buffer : List ℕ) → written at a (written (at + length a) b buffer) ≡ written at (a ++ b) buffer
written-before at a b buffer = written_apart at a (at + length a) b buffer (omega arith) ∙ sym (written-append at a b buffer)

-- bytes before the written part, and bytes after it, don't change
pub written-take : (n at : ℕ) (bytes buffer : List ℕ) → n ≤ at → take n (written at bytes buffer) ≡ take n buffer
unfolding written
written-take n at [] buffer h = refl
written-take n at (byte ∷ bytes) buffer h = written-take n (at + 1) bytes (set buffer at byte) (omega arith) ∙ take-set-le n buffer at byte h

pub written-drop : (n at : ℕ) (bytes buffer : List ℕ) → at + length bytes ≤ n → drop n (written at bytes buffer) ≡ drop n buffer
unfolding written
written-drop n at [] buffer h = refl
written-drop n at (byte ∷ bytes) buffer h = written-drop n (at + 1) bytes (set buffer at byte) (omega arith) ∙ drop-set-lt n buffer at byte (omega arith)

-- bytes that fit are all there
written-sets : (at : ℕ) (bytes buffer : List ℕ) → written at bytes buffer ≡ sets buffer at bytes
unfolding written
written-sets at [] buffer = refl
written-sets at (byte ∷ bytes) buffer = written-sets (at + 1) bytes (set buffer at byte) ∙ rw add-one

pub written-fits : (at : ℕ) (bytes buffer : List ℕ) → at + length bytes ≤ length buffer → written at bytes buffer ≡ take at buffer ++ bytes ++ drop (at + length bytes) buffer
written-fits at bytes buffer h = written-sets at bytes buffer ∙ sets-eq bytes buffer at h

pub written-whole : (bytes buffer : List ℕ) → length bytes ≤ length buffer → written 0 bytes buffer ≡ bytes ++ drop (length bytes) buffer
written-whole bytes buffer h = rw (zero-add (length bytes)) at (written-fits 0 bytes buffer (omega arith))

-- bytes written at the start can be read back from there
pub written_back : (bytes buffer : List ℕ) → length bytes ≤ length buffer → take (length bytes) (written 0 bytes buffer) ≡ bytes
written_back bytes buffer h = rw (written-whole bytes buffer h) (take-append_seam bytes (drop (length bytes) buffer))

-- of bytes written, only as many as the buffer still holds count
pub written-fitting : (at n : ℕ) (bytes buffer : List ℕ) → at ≤ length buffer → n ≡ min (length bytes) (length buffer - at) → written at bytes buffer ≡ take at buffer ++ take n bytes ++ drop (at + n) buffer
written-fitting at n bytes buffer h same = go (leb (length bytes) (length buffer - at)) refl
  where
    go : (t : Bool) → leb (length bytes) (length buffer - at) ≡ t → written at bytes buffer ≡ take at buffer ++ take n bytes ++ drop (at + n) buffer
    go true e =
        let whole : n ≡ length bytes = same ∙ min-eq_left (leb-true (length bytes) (length buffer - at) e) in
        rw (whole, take_all (length bytes) bytes (omega arith)) (written-fits at bytes buffer (omega (arith, leb-true (length bytes) (length buffer - at) e)))
    go false e =
        let less : length buffer - at < length bytes = leb-false (length bytes) (length buffer - at) e in
        let room : n ≡ length buffer - at = same ∙ min-eq_right (le_of_lt less) in
        let some : length (take n bytes) ≡ n = length-take-le n bytes (omega arith) in
        ap (λ (l : List ℕ). written at l buffer) (sym (take-append-drop n bytes))
        ∙ written-append at (take n bytes) (drop n bytes) buffer
        ∙ written_past (at + length (take n bytes)) (drop n bytes) (written at (take n bytes) buffer) (rw (written-length at (take n bytes) buffer) (omega arith))
        ∙ written-fits at (take n bytes) buffer (omega arith)
        ∙ rw some

pub written-clipped : (bytes buffer : List ℕ) → written 0 bytes buffer ≡ written 0 (take (length buffer) bytes) buffer
written-clipped bytes buffer = go (leb (length buffer) (length bytes)) refl
  where
    some : List ℕ
    some = take (length buffer) bytes

    go : (t : Bool) → leb (length buffer) (length bytes) ≡ t → written 0 bytes buffer ≡ written 0 some buffer
    go true e =
        let whole = length-take-le (length buffer) bytes (leb-true (length buffer) (length bytes) e) in
        ap (λ (l : List ℕ). written 0 l buffer) (sym (take-append-drop (length buffer) bytes))
        ∙ written-append 0 some (drop (length buffer) bytes) buffer
        ∙ written_past (0 + length some) _ (written 0 some buffer) (rw (written-length 0 some buffer) (omega (arith, whole)))
    go false e = rw (take_all (length buffer) bytes (omega (arith, leb-false (length buffer) (length bytes) e)))

-- writing back what the buffer starts with changes nothing
pub written_same : (n : ℕ) (buffer : List ℕ) → written 0 (take n buffer) buffer ≡ buffer
written_same n buffer = go (leb n (length buffer)) refl
  where
    go : (t : Bool) → leb n (length buffer) ≡ t → written 0 (take n buffer) buffer ≡ buffer
    go true e =
        let short = length-take-le n buffer (leb-true n (length buffer) e) in
        written-whole (take n buffer) buffer (omega (arith, leb-true, short)) ∙ rw short (take-append-drop n buffer)
    go false e =
        rw (take_all n buffer (omega (arith, leb-false n (length buffer) e)))
        (written-whole buffer buffer (omega arith) ∙ rw (drop-length buffer) (append-nil buffer))

-- ---- `max_offset` behaves like any offset past it, both for writing and for the test whether bytes fit
module _ (at n : ℕ) where
  pub near-offset : at + n ≤ max_offset → at + n ≡ saturating_add at n
  unfolding saturating_add
  near-offset h = sym (min-eq_left h)

  pub far-offset : max_offset < at + n → max_offset ≡ saturating_add at n
  unfolding saturating_add
  far-offset h = sym (min-eq_right (le_of_lt h))

  -- a property of both offsets follows from the case where they are equal and the case where the sum is too far
  both-far : (P : ℕ → ℕ → Type 0) → ((k : ℕ) → P k k) → (max_offset < at + n → P max_offset (at + n)) → P (saturating_add at n) (at + n)
  both-far P same far = go (leb (at + n) max_offset) refl
    where
      go : (t : Bool) → leb (at + n) max_offset ≡ t → P (saturating_add at n) (at + n)
      go true e = subst (λ (k : ℕ). P k (at + n)) (near-offset (leb-true (at + n) max_offset e)) (same (at + n))
      go false e = let h = leb-false (at + n) max_offset e in subst (λ (k : ℕ). P k (at + n)) (far-offset h) (far h)

  pub written-at-max-offset : (bytes buffer : List ℕ) → length buffer ≤ max_offset → written (saturating_add at n) bytes buffer ≡ written (at + n) bytes buffer
  written-at-max-offset bytes buffer h =
      both-far (λ (k m : ℕ). written k bytes buffer ≡ written m bytes buffer) (λ k. refl)
      (λ far. written_past max_offset bytes buffer h ∙ sym (written_past (at + n) bytes buffer (omega (arith, far))))

  pub fits-max-offset : (size : ℕ) → size < max_offset → leb (saturating_add at n) size ≡ leb (at + n) size
  fits-max-offset size h =
      both-far (λ (k m : ℕ). leb k size ≡ leb m size) (λ k. refl) (λ far. lt-leb max_offset size h ∙ sym (lt-leb (at + n) size (omega (arith, far))))

-- three bytes, stored one by one
pub written_three : (at a b c : ℕ) (buffer : List ℕ) → set (set (set buffer at a) (at + 1) b) (at + 2) c ≡ written at (a ∷ b ∷ c ∷ []) buffer
unfolding written
written_three at a b c buffer = rw (← add_assoc at 1 1)
