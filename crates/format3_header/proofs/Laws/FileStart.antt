-- A header that is found is legal, and the next record starts inside the file. Assumes nothing.
use Prim.Native.Nat.{ℕ, ◌≤◌}
use mathlib.Core.List.{List}
use mathlib.Core.Path.{◌≡◌, refl, sym, ap, subst}
use native.Mathlib.Omega.{arith}
use lib.ListN.{length, take, drop}
use Rattle.std.specs.Prelude.{Result, Ok, Err}
use Rattle.refusals.specs.declared.Refusal.{Refusal}
use Rattle.symbols.specs.declared.header.Header.{Header}
use Rattle.refusals.proofs.Laws.{never-accepted}
use Rattle.symbols.specs.Size.{max_macroblocks}
use Rattle.symbols.specs.Requires.{SizeWithin, HeaderWithin}
use Rattle.symbols.proofs.Guard.{require-all}
use Rattle.format3_records.specs.Record.{record_of}
use Rattle.format3_records.specs.declared.record.Record.{Record}
use Rattle.format3_records.proofs.Laws.Record.{Inside, inside}
use Rattle.format3_header.specs.declared.file_start.FileStart.{FileStart}
use Rattle.format3_header.specs.Header.{header_of}
use Rattle.format3_header.specs.declared.file_start.FileHeader.{FileHeader}
use Rattle.format3_header.specs.declared.file_start.RefusedAt.{RefusedAt}
use Rattle.format3_header.specs.FileStart.{placed_at, first_record, first_header, FileHeaderNumbers, header_numbers, file_header_of}
use Rattle.format3_header.proofs.Laws.Header.{read-within}

pub record Begun (file : List ℕ) (start : FileStart) : Type 0 where
  pub header : HeaderWithin start.header
  pub in-file : start.end ≤ length file

module _ (file : List ℕ) where
  record Good {E : Type 0} (x : Result FileStart E) : Type 0 where
    good : (start : FileStart) → x ≡ Ok start → Begun file start

  refused-good : {E : Type 0} {refused : E} → Good (Err refused)
  refused-good = record { good = λ start e. let z : ◌≡◌ {A = ℕ} 0 1 = cc in absurd (omega arith) }

  started-good : {E : Type 0} (start : FileStart) → Begun file start → Good {E = E} (Ok start)
  started-good start begun = record { good = λ other e. let same : start ≡ other = cc in subst (Begun file) same begun }

  record-good : Good (first_record file)
  unfolding first_record
  record-good = found (record_of file 1) refl
    where
      legal : (unit : Record) → record_of file 1 ≡ Ok unit → (h : Result Header Refusal) → header_of (take unit.length (drop unit.start file)) ≡ h → Good (first_record file)
      legal unit e (Err refusal) l = rw (e, l) (require-all Good _ _ _ refused-good λ turn. refused-good)
      legal unit e (Ok h) l = rw (e, l) (require-all Good _ _ _ refused-good λ turn.
          started-good _ (record { header = (read-within (take unit.length (drop unit.start file))).within h l; in-file = (subst (Inside file) e (inside file 1)).fits }))

      found : (r : Result Record Refusal) → record_of file 1 ≡ r → Good (first_record file)
      found (Err refusal) e = rw e refused-good
      found (Ok unit) e = legal unit e _ refl

  placed-good : (place : ℕ) {x : Result FileStart Refusal} → Good x → Good (placed_at place x)
  placed-good place {x = Err refusal} g = refused-good
  placed-good place {x = Ok start} g = started-good start (g.good start refl)

  pub begun : {start : FileStart} → first_header file ≡ Ok start → Begun file start
  unfolding first_header
  begun {start} e =
      (require-all Good _ _ _ refused-good λ some.
      require-all Good _ _ _ refused-good λ version.
      require-all Good _ _ _ refused-good λ more. placed-good 1 record-good).good start e

  -- the size that a caller is told of is legal
  pub told-legal : (told : FileHeader) → header_numbers (Ok told) ≡ file_header_of (first_header file) → SizeWithin max_macroblocks told.size
  told-legal told e = go (first_header file) refl
    where
      go : (x : Result FileStart RefusedAt) → first_header file ≡ x → SizeWithin max_macroblocks told.size
      go (Err refused) read = absurd (never-accepted refused.refusal (ap (λ (n : FileHeaderNumbers). n.number) (sym (rw read at e))))
      go (Ok start) read =
          let same = rw read at e in
          let size : start.header.size ≡ told.size = λ i. record { width = (sym same i).width; height = (sym same i).height } in
          subst (SizeWithin max_macroblocks) size (begun read).header.size
