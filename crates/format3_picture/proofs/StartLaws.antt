-- A header that was read is legal and within the reader's limit, the lent buffers have the right lengths, and the next record starts in the file.
-- Assumes nothing.
use Prim.Native.Nat.{ℕ, ◌≤◌}
use mathlib.Core.Bool.{Bool, true, false}
use mathlib.Core.List.{List}
use mathlib.Core.Path.{◌≡◌, refl, sym, subst}
use native.Mathlib.Omega.{arith}
use native.Mathlib.Nat.{le_of_eq}
use borrow.Author.Tests.{leb-true, eqb-true}
use lib.Dec.{T, eqb}
use lib.ListN.{length}
use Rattle.std.specs.Prelude.{Result, Ok, Err, ⊤}
use Rattle.refusals.specs.declared.Refusal.{Refusal}
use Rattle.symbols.specs.Header.{uses_forward, uses_backward}
use Rattle.symbols.specs.Requires.{HeaderWithin}
use Rattle.symbols.specs.Size.{macroblock_count, picture_bytes}
use Rattle.symbols.specs.declared.size.PictureSize.{PictureSize}
use Rattle.symbols.specs.declared.header.Header.{Header}
use Rattle.symbols.proofs.Guard.{require-all}
use Rattle.format3_header.specs.Lengths.{reference_length, lent_lengths, caller_verdict}
use Rattle.format3_header.specs.FileStart.{first_header, file_start_of}
use Rattle.format3_header.specs.declared.file_start.FileStart.{FileStart}
use Rattle.format3_header.specs.declared.file_start.RefusedAt.{RefusedAt}
use Rattle.format3_header.proofs.Laws.FileStart.{begun}
use Rattle.format3_picture.specs.Requires.{LentLengths}

-- ---- what a caller's limit and lengths imply if they pass
pub record CallerPassed (limit : ℕ) (h : Header) (forward backward output : List ℕ) : Type 0 where
  pub few : macroblock_count h.size ≤ limit
  pub lent : LentLengths h forward backward output
  pub forward-short : length forward ≤ picture_bytes h.size
  pub backward-short : length backward ≤ picture_bytes h.size

record IfPassed (limit : ℕ) (h : Header) (forward backward output : List ℕ) (v : Result ⊤ Refusal) : Type 0 where
  caller : v ≡ Ok tt → CallerPassed limit h forward backward output

not-passed : {limit : ℕ} {h : Header} {forward backward output : List ℕ} {refusal : Refusal} → IfPassed limit h forward backward output (Err refusal)
not-passed = record { caller = λ e. let z : ◌≡◌ {A = ℕ} 0 1 = cc in absurd (omega arith) }

used-length : (used : Bool) (n : ℕ) (s : PictureSize) → eqb n (reference_length used s) ≡ true → used ≡ true → n ≡ picture_bytes s
used-length true n s e u = eqb-true n (picture_bytes s) e
used-length false n s e u = absurd (subst T (sym u) tt)

-- used or not, a reference is no longer than the picture
length-short : (used : Bool) (n : ℕ) (s : PictureSize) → eqb n (reference_length used s) ≡ true → n ≤ picture_bytes s
length-short true n s e = le_of_eq (eqb-true n (picture_bytes s) e)
length-short false n s e = omega (arith, eqb-true n 0 e)

caller-passed : (limit : ℕ) (h : Header) (forward backward output : List ℕ) → IfPassed limit h forward backward output (caller_verdict limit h (length output) (length forward) (length backward))
unfolding caller_verdict lent_lengths
caller-passed limit h forward backward output =
    require-all (IfPassed limit h forward backward output) _ _ _ not-passed λ n.
    require-all (IfPassed limit h forward backward output) _ _ _ not-passed λ o.
    require-all (IfPassed limit h forward backward output) _ _ _ not-passed λ f.
    require-all (IfPassed limit h forward backward output) _ _ _ not-passed λ b.
    record {
      caller = λ e. record {
        few = leb-true (macroblock_count h.size) limit n;
        lent = record {
          output-whole = eqb-true (length output) (picture_bytes h.size) o;
          forward-whole = used-length (uses_forward h.coding_type) (length forward) h.size f;
          backward-whole = used-length (uses_backward h.coding_type) (length backward) h.size b;
        };
        forward-short = length-short (uses_forward h.coding_type) (length forward) h.size f;
        backward-short = length-short (uses_backward h.coding_type) (length backward) h.size b;
      };
    }

-- ---- what a header that was read implies
pub record Started (limit : ℕ) (file forward backward output : List ℕ) (h : Header) (end : ℕ) : Type 0 where
  pub header : HeaderWithin h
  pub caller : CallerPassed limit h forward backward output
  pub in-file : end ≤ length file

module _ (limit : ℕ) (file forward backward output : List ℕ) where
  record Good (x : Result FileStart RefusedAt) : Type 0 where
    good : (start : FileStart) → x ≡ Ok start → Started limit file forward backward output start.header start.end

  refused-good : {stop : RefusedAt} → Good (Err stop)
  refused-good = record { good = λ start e. let z : ◌≡◌ {A = ℕ} 0 1 = cc in absurd (omega arith) }

  file-start-good : Good (file_start_of limit file (length output) (length forward) (length backward))
  unfolding file_start_of
  file-start-good = go (first_header file) refl
    where
      verdict : Header → Result ⊤ Refusal
      verdict h = caller_verdict limit h (length output) (length forward) (length backward)

      lengths : (start : FileStart) → first_header file ≡ Ok start → (v : Result ⊤ Refusal) → verdict start.header ≡ v → Good (file_start_of limit file (length output) (length forward) (length backward))
      lengths start e (Err refusal) l = rw (e, l) refused-good
      lengths start e (Ok passed) l = rw (e, l) (record {
        good = λ other same.
            let a : start ≡ other = cc in
            let found = begun file e in
            subst (λ (k : FileStart). Started limit file forward backward output k.header k.end) a
            (record { header = found.header; caller = (caller-passed limit start.header forward backward output).caller l; in-file = found.in-file });
      })

      go : (x : Result FileStart RefusedAt) → first_header file ≡ x → Good (file_start_of limit file (length output) (length forward) (length backward))
      go (Err stop) e = rw e refused-good
      go (Ok start) e = lengths start e (verdict start.header) refl

  pub header_read : {h : Header} {end : ℕ} → file_start_of limit file (length output) (length forward) (length backward) ≡ Ok (record { header = h; end = end }) → Started limit file forward backward output h end
  header_read e = file-start-good.good _ e
