-- A record that is found lies within its file. Assumes nothing.
use mathlib.Core.List.{List}
use Prim.Native.Nat.{ℕ, ◌+◌, ◌≤◌}
use native.Mathlib.Omega.{arith}
use lib.ListN.{length}
use borrow.Author.Tests.{leb-true}
use Rattle.std.specs.Prelude.{Result, Err}
use Rattle.refusals.specs.declared.Refusal.{Refusal}
use Rattle.symbols.proofs.Guard.{require-all}
use Rattle.format3_records.specs.declared.record.Record.{Record}
use Rattle.format3_records.specs.Record.{record_of, body_start_of, body_length_of}

pub record Inside (file : List ℕ) (r : Result Record Refusal) : Type 0 where
  pub fits : body_start_of r + body_length_of r ≤ length file

refused : {file : List ℕ} {refusal : Refusal} → Inside file (Err refusal)
refused = record { fits = omega arith }

-- a record that is found lies within the file
pub inside : (file : List ℕ) (offset : ℕ) → Inside file (record_of file offset)
unfolding record_of
inside file offset =
    require-all (Inside file) _ _ _ refused λ head.
    require-all (Inside file) _ _ _ refused λ some.
    require-all (Inside file) _ _ _ refused λ whole.
    require-all (Inside file) _ _ _ refused λ kind.
    record { fits = omega (arith, leb-true) }
