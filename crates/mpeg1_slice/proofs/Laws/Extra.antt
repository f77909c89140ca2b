-- Extra information skipped byte by byte. Assumes nothing.
use mathlib.Core.List.{List}
use mathlib.Core.Path.{◌≡◌, refl, sym}
use Prim.Native.Nat.{ℕ, zero, suc, ◌+◌, ◌<◌}
use native.Mathlib.Omega.{arith}
use lib.ListN.{length}
use borrow.Author.Tests.{eq-eqb, ne_eqb}
use Rattle.symbols.specs.Parsed.{parsed, refused}
use Rattle.symbols.proofs.Parsed.{all-at}
use Rattle.mpeg1_bits.specs.Bits.{bit_offset, bits_from}
use Rattle.mpeg1_bits.specs.Requires.{InBytes}
use Rattle.mpeg1_bits.specs.declared.BitPosition.{BitPosition}
use Rattle.mpeg1_bits.proofs.Rest.{rest-length}
use Rattle.mpeg1_slice.specs.declared.refused.RefusedAt.{RefusedAt}
use Rattle.mpeg1_slice.specs.Read.{Read, field_at}
use Rattle.mpeg1_slice.specs.Slice.{after_extra}
use Rattle.mpeg1_slice.proofs.Laws.Read.{Ahead, standing, field-ahead}

-- loop invariant: reading on from here gives the result of reading from the start
pub record Extra (bytes : List ℕ) (whole : Read (Unit {0})) (at : BitPosition) : Type 0 where
  pub fuel : ℕ
  pub enough : length (bits_from bytes at) < fuel
  pub inside : InBytes bytes at
  pub same : after_extra fuel bytes at ≡ whole

module _ (bytes : List ℕ) (at : BitPosition) where
  pub extra-start : InBytes bytes at → Extra bytes (after_extra (1 + length (bits_from bytes at)) bytes at) at
  extra-start within = record { fuel = 1 + length (bits_from bytes at); enough = omega arith; inside = within; same = refl }

  module _ {whole : Read (Unit {0})} where
    refused-from : (n : ℕ) {reason : RefusedAt} → length (bits_from bytes at) < n → after_extra n bytes at ≡ whole
        → field_at 1 bytes at ≡ refused reason → whole ≡ refused reason
    unfolding after_extra
    refused-from zero h f e = absurd (omega arith)
    refused-from (suc n) h f e = sym (rw e at f)

    read-from : (n : ℕ) {v : ℕ} {p : BitPosition} → length (bits_from bytes at) < n → after_extra n bytes at ≡ whole
        → field_at 1 bytes at ≡ parsed v p → v ≡ 0 → whole ≡ parsed tt p
    unfolding after_extra
    read-from zero h f e g = absurd (omega arith)
    read-from (suc n) {v} h f e g = sym (rw (e, eq-eqb v 0 g) at f)

    cut-from : (n : ℕ) {v : ℕ} {p : BitPosition} {reason : RefusedAt} → length (bits_from bytes at) < n → after_extra n bytes at ≡ whole
        → field_at 1 bytes at ≡ parsed v p → (v ≡ 0 → ⊥) → field_at 8 bytes p ≡ refused reason → whole ≡ refused reason
    unfolding after_extra
    cut-from zero h f e g k = absurd (omega arith)
    cut-from (suc n) {v} h f e g k = sym (rw (e, ne_eqb v 0 g, k) at f)

    again-from : (n : ℕ) {v w : ℕ} {p q : BitPosition} → length (bits_from bytes at) < n → after_extra n bytes at ≡ whole
        → field_at 1 bytes at ≡ parsed v p → (v ≡ 0 → ⊥) → field_at 8 bytes p ≡ parsed w q → Ahead bytes (1 + bit_offset at) p → Ahead bytes (8 + bit_offset p) q → Extra bytes whole q
    unfolding after_extra
    again-from zero h f e g k a b = absurd (omega arith)
    again-from (suc n) {v} {q = q} h f e g k a b = record {
      fuel = n;
      enough = omega (arith, rest-length bytes at, rest-length bytes q, a.further, b.further, b.inside.not_past);
      inside = b.inside;
      same = rw (e, ne_eqb v 0 g, k) at f;
    }

    module _ (s : Extra bytes whole at) where
      pub extra-refused : {reason : RefusedAt} → field_at 1 bytes at ≡ refused reason → whole ≡ refused reason
      extra-refused e = refused-from s.fuel s.enough s.same e

      pub extra-read : {v : ℕ} {p : BitPosition} → field_at 1 bytes at ≡ parsed v p → v ≡ 0 → whole ≡ parsed tt p
      extra-read e g = read-from s.fuel s.enough s.same e g

      pub extra-cut : {v : ℕ} {p : BitPosition} {reason : RefusedAt} → field_at 1 bytes at ≡ parsed v p → (v ≡ 0 → ⊥) → field_at 8 bytes p ≡ refused reason → whole ≡ refused reason
      extra-cut e g k = cut-from s.fuel s.enough s.same e g k

      pub bit-ahead : {v : ℕ} {p : BitPosition} → field_at 1 bytes at ≡ parsed v p → Ahead bytes (1 + bit_offset at) p
      bit-ahead e = all-at (field-ahead (standing s.inside) 1) e

      pub byte-ahead : {v w : ℕ} {p q : BitPosition} → field_at 1 bytes at ≡ parsed v p → field_at 8 bytes p ≡ parsed w q → Ahead bytes (8 + bit_offset p) q
      byte-ahead e k = all-at (field-ahead (standing (bit-ahead e).inside) 8) k

      pub extra-again : {v w : ℕ} {p q : BitPosition} → field_at 1 bytes at ≡ parsed v p → (v ≡ 0 → ⊥) → field_at 8 bytes p ≡ parsed w q → Extra bytes whole q
      extra-again e g k = again-from s.fuel s.enough s.same e g k (bit-ahead e) (byte-ahead e k)
