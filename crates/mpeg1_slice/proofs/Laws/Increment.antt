-- Stuffing skipped and escapes added up, code by code. Assumes nothing.
use mathlib.Core.List.{List}
use mathlib.Core.Path.{◌≡◌, refl, sym}
use Prim.Native.Nat.{ℕ, zero, suc, ◌+◌, ◌-◌, ◌*◌, ◌<◌, ◌≤◌}
use native.Mathlib.Omega.{arith}
use lib.ListN.{length}
use borrow.Author.Tests.{eq-eqb, ne_eqb, le-leb, lt-leb}
use Rattle.symbols.specs.Size.{max_macroblocks}
use Rattle.refusals.specs.declared.Refusal.TheVariants.{SliceCode}
use Rattle.symbols.specs.Guard.{require◌else◌then◌}
use Rattle.symbols.specs.Parsed.{parsed, refused}
use Rattle.symbols.proofs.Parsed.{all-at}
use Rattle.mpeg1_bits.specs.Bits.{bit_offset, bits_from}
use Rattle.mpeg1_bits.specs.Requires.{InBytes}
use Rattle.mpeg1_bits.specs.declared.BitPosition.{BitPosition}
use Rattle.mpeg1_bits.proofs.Rest.{rest-length}
use Rattle.mpeg1_tables.specs.AnnexB.{increments, increments_after_escape, stuffing, increment_escape}
use Rattle.mpeg1_vlc.proofs.Laws.Range.{increment-read, increment-after-escape-read}
use Rattle.mpeg1_slice.specs.declared.refused.RefusedAt.{RefusedAt}
use Rattle.mpeg1_slice.specs.Read.{stop, Read, word_at}
use Rattle.mpeg1_slice.specs.Increment.{after_stuffing, amount_of, after_escape}
use Rattle.mpeg1_slice.proofs.Laws.Read.{Ahead, standing, word-ahead}

-- ---- stuffing; loop invariant: reading on from here gives the result of reading from the start
pub record Stuffed (bytes : List ℕ) (whole : Read ℕ) (at : BitPosition) : Type 0 where
  pub fuel : ℕ
  pub enough : length (bits_from bytes at) < fuel
  pub inside : InBytes bytes at
  pub same : after_stuffing fuel bytes at ≡ whole

module _ (bytes : List ℕ) (at : BitPosition) where
  pub stuffed-start : InBytes bytes at → Stuffed bytes (after_stuffing (1 + length (bits_from bytes at)) bytes at) at
  stuffed-start within = record { fuel = 1 + length (bits_from bytes at); enough = omega arith; inside = within; same = refl }

  refused-from : (n : ℕ) {whole : Read ℕ} {reason : RefusedAt} → length (bits_from bytes at) < n → after_stuffing n bytes at ≡ whole
      → word_at increments bytes at ≡ refused reason → whole ≡ refused reason
  unfolding after_stuffing
  refused-from zero h f e = absurd (omega arith)
  refused-from (suc n) h f e = sym (rw e at f)

  read-from : (n : ℕ) {whole : Read ℕ} {v : ℕ} {p : BitPosition} → length (bits_from bytes at) < n → after_stuffing n bytes at ≡ whole
      → word_at increments bytes at ≡ parsed v p → (v ≡ stuffing → ⊥) → whole ≡ parsed v p
  unfolding after_stuffing
  read-from zero h f e g = absurd (omega arith)
  read-from (suc n) {v = v} h f e g = sym (rw (e, ne_eqb v stuffing g) at f)

  again-from : (n : ℕ) {whole : Read ℕ} {v : ℕ} {p : BitPosition} → length (bits_from bytes at) < n → after_stuffing n bytes at ≡ whole
      → word_at increments bytes at ≡ parsed v p → v ≡ stuffing → Ahead bytes (1 + bit_offset at) p → Stuffed bytes whole p
  unfolding after_stuffing
  again-from zero h f e g a = absurd (omega arith)
  again-from (suc n) {v = v} {p = p} h f e g a = record {
    fuel = n;
    enough = omega (arith, rest-length bytes at, rest-length bytes p, a.further, a.inside.not_past);
    inside = a.inside;
    same = rw (e, eq-eqb v stuffing g) at f;
  }

  module _ {whole : Read ℕ} (s : Stuffed bytes whole at) where
    pub stuffed-refused : {reason : RefusedAt} → word_at increments bytes at ≡ refused reason → whole ≡ refused reason
    stuffed-refused e = refused-from s.fuel s.enough s.same e

    pub stuffed-read : {v : ℕ} {p : BitPosition} → word_at increments bytes at ≡ parsed v p → (v ≡ stuffing → ⊥) → whole ≡ parsed v p
    stuffed-read e g = read-from s.fuel s.enough s.same e g

    pub increment-ahead : {v : ℕ} {p : BitPosition} → word_at increments bytes at ≡ parsed v p → Ahead bytes (1 + bit_offset at) p
    increment-ahead e = all-at (word-ahead (standing s.inside) _ increment-read) e

    pub stuffed-again : {v : ℕ} {p : BitPosition} → word_at increments bytes at ≡ parsed v p → v ≡ stuffing → Stuffed bytes whole p
    stuffed-again e g = again-from s.fuel s.enough s.same e g (increment-ahead e)

-- ---- escapes
plain-amount : (v : ℕ) → (v ≡ increment_escape → ⊥) → amount_of v ≡ v
unfolding amount_of
plain-amount v h = rw (ne_eqb v increment_escape h)

pub escape-amount : (v : ℕ) → v ≡ increment_escape → amount_of v ≡ 33
unfolding amount_of
escape-amount v h = rw (eq-eqb v increment_escape h)

pub record Escaped (bytes : List ℕ) (whole : Read ℕ) (sum : ℕ) (at : BitPosition) : Type 0 where
  pub fuel : ℕ
  pub left : sum + 33 * fuel ≡ 429
  pub small : sum ≤ max_macroblocks
  pub inside : InBytes bytes at
  pub same : after_escape fuel sum bytes at ≡ whole

module _ (bytes : List ℕ) (at : BitPosition) where
  pub escaped-start : InBytes bytes at → Escaped bytes (after_escape 12 33 bytes at) 33 at
  escaped-start within = record { fuel = 12; left = refl; small = omega arith; inside = within; same = refl }

  module _ {whole : Read ℕ} (sum : ℕ) where
    escape-refused-from : (n : ℕ) {reason : RefusedAt} → sum + 33 * n ≡ 429 → sum ≤ max_macroblocks → after_escape n sum bytes at ≡ whole
        → word_at increments_after_escape bytes at ≡ refused reason → whole ≡ refused reason
    unfolding after_escape
    escape-refused-from zero h k f e = absurd (omega arith)
    escape-refused-from (suc n) h k f e = sym (rw e at f)

    escape-past-from : (n : ℕ) {v : ℕ} {p : BitPosition} → sum + 33 * n ≡ 429 → sum ≤ max_macroblocks → after_escape n sum bytes at ≡ whole
        → word_at increments_after_escape bytes at ≡ parsed v p → max_macroblocks < sum + amount_of v → whole ≡ refused (stop SliceCode at)
    unfolding after_escape require◌else◌then◌
    escape-past-from zero h k f e g = absurd (omega arith)
    escape-past-from (suc n) {v} h k f e g = sym (rw (e, lt-leb (sum + amount_of v) max_macroblocks g) at f)

    escape-read-from : (n : ℕ) {v : ℕ} {p : BitPosition} → sum + 33 * n ≡ 429 → sum ≤ max_macroblocks → after_escape n sum bytes at ≡ whole
        → word_at increments_after_escape bytes at ≡ parsed v p → sum + amount_of v ≤ max_macroblocks → (v ≡ increment_escape → ⊥) → whole ≡ parsed (sum + amount_of v) p
    unfolding after_escape require◌else◌then◌
    escape-read-from zero h k f e g i = absurd (omega arith)
    escape-read-from (suc n) {v} h k f e g i = rw (plain-amount v i) (sym (rw (e, le-leb (sum + amount_of v) max_macroblocks g, ne_eqb v increment_escape i) at f))

    escape-again-from : (n : ℕ) {v : ℕ} {p : BitPosition} → sum + 33 * n ≡ 429 → sum ≤ max_macroblocks → after_escape n sum bytes at ≡ whole
        → word_at increments_after_escape bytes at ≡ parsed v p → sum + amount_of v ≤ max_macroblocks → v ≡ increment_escape → InBytes bytes p → Escaped bytes whole (sum + amount_of v) p
    unfolding after_escape require◌else◌then◌
    escape-again-from zero h k f e g i w = absurd (omega arith)
    escape-again-from (suc n) {v} h k f e g i w = record {
      fuel = n;
      left = rw (escape-amount v i) (omega arith);
      small = g;
      inside = w;
      same = rw (escape-amount v i) (rw (e, le-leb (sum + amount_of v) max_macroblocks g, eq-eqb v increment_escape i) at f);
    }

    module _ (s : Escaped bytes whole sum at) where
      pub escaped-refused : {reason : RefusedAt} → word_at increments_after_escape bytes at ≡ refused reason → whole ≡ refused reason
      escaped-refused e = escape-refused-from s.fuel s.left s.small s.same e

      -- what the code adds, `more`, takes the sum past the most, or fits
      pub escaped-past : {v more : ℕ} {p : BitPosition} → word_at increments_after_escape bytes at ≡ parsed v p → more ≡ amount_of v → max_macroblocks - sum < more → whole ≡ refused (stop SliceCode at)
      escaped-past e m g = escape-past-from s.fuel s.left s.small s.same e (omega (arith, m, g, s.small))

      pub escaped-read : {v more : ℕ} {p : BitPosition} → word_at increments_after_escape bytes at ≡ parsed v p → more ≡ amount_of v → more ≤ max_macroblocks - sum → (v ≡ increment_escape → ⊥) → whole ≡ parsed (sum + more) p
      escaped-read e m g i = rw m (escape-read-from s.fuel s.left s.small s.same e (omega (arith, m, g, s.small)) i)

      pub after-escape-ahead : {v : ℕ} {p : BitPosition} → word_at increments_after_escape bytes at ≡ parsed v p → Ahead bytes (1 + bit_offset at) p
      after-escape-ahead e = all-at (word-ahead (standing s.inside) _ increment-after-escape-read) e

      pub escaped-again : {v more : ℕ} {p : BitPosition} → word_at increments_after_escape bytes at ≡ parsed v p → more ≡ amount_of v → more ≤ max_macroblocks - sum → v ≡ increment_escape → Escaped bytes whole (sum + more) p
      escaped-again e m g i = rw m (escape-again-from s.fuel s.left s.small s.same e (omega (arith, m, g, s.small)) i (after-escape-ahead e).inside)

      pub escaped-closer : {v more : ℕ} → more ≡ amount_of v → more ≤ max_macroblocks - sum → v ≡ increment_escape → max_macroblocks - (sum + more) < max_macroblocks - sum
      escaped-closer {v} m g i = omega (arith, m, g, escape-amount v i, s.small)
