-- The tests of a matrix record, as the code makes them. Assumes nothing.
use mathlib.Core.Path.{◌≡◌, refl, sym}
use mathlib.Core.Bool.{Bool, true, false, not}
use mathlib.Core.List.{List}
use Prim.Native.Nat.{ℕ, ◌-◌}
use native.Mathlib.Decide.{ℕ_discrete}
use native.Mathlib.Omega.{arith}
use lib.Dec.{leb, eqb}
use lib.ListN.{length, get_or, take, drop, length-drop}
use lib.Seq.{take_all}
use borrow.Author.Tests.{le-leb, lt-leb, ne_eqb, eqb-true, eqb-false}
use Rattle.std.specs.Prelude.{⊤, Result, Ok, Err}
use Rattle.std.specs.List.{IsAnyAnswer}
use Rattle.math.proofs.Test.{all_pass, one-fails}
use Rattle.refusals.specs.declared.Refusal.{Refusal}
use Rattle.symbols.proofs.Guard.{require-all}
use Rattle.format3_matrices.specs.declared.Loaded.{Loaded}
use Rattle.format3_matrices.specs.Matrix.{number_of_matrix, matrix_with, weights_of, positive, matrix_verdict}
use Rattle.format3_matrices.specs.declared.Matrix.{Matrix}
use Rattle.format3_matrices.specs.declared.Matrix.TheVariants.{Intra, NonIntra}

-- the weights are positive unless some weight is 0
pub positive-unless : (weights : List ℕ) (zero-there : Bool) → length weights ≡ 64 → IsAnyAnswer (λ y b. eqb y 0 ≡ b) weights zero-there → not zero-there ≡ positive weights
unfolding positive
positive-unless weights true long (k, below, zero) =
    sym (one-fails 64 _ k (omega arith) (lt-leb 1 (get_or weights k 0) (let z = eqb-true (get_or weights k 0) 0 (zero 0) in omega arith)))
positive-unless weights false long others =
    sym (all_pass 64 _ (λ j b. le-leb 1 (get_or weights j 0) (let o : (get_or weights j 0 ≡ 0 → ⊥) = eqb-false (get_or weights j 0) 0 (others j 0 (omega arith) (omega arith)) in omega arith)))

-- which matrix a number names
pub record Known (n : ℕ) (m : Matrix) : Type 0 where
  pub few : leb n 1 ≡ true
  pub is : n ≡ number_of_matrix m

pub known : {n : ℕ} {m : Matrix} → Ok m ≡ matrix_with n → Known n m
unfolding matrix_with
known {n} {m} e = elim (ℕ_discrete n 0) [
  | yes zero ↦ let same : m ≡ Intra = let f = rw zero at e in cc in rw (zero, same) (record { few = refl; is = refl })
  | no some ↦ elim (ℕ_discrete n 1) [
    | yes one ↦ let same : m ≡ NonIntra = let f = rw one at e in cc in rw (one, same) (record { few = refl; is = refl })
    | no more ↦ let f = rw (ne_eqb n 0 some, ne_eqb n 1 more) at e in absurd (let z : ◌≡◌ {A = ℕ} 0 1 = cc in omega arith)
  ]
]

pub record Unknown (n : ℕ) (refusal : Refusal) : Type 0 where
  pub many : leb n 1 ≡ false
  pub is : refusal ≡ Refusal.Matrix

pub unknown : {n : ℕ} {refusal : Refusal} → Err refusal ≡ matrix_with n → Unknown n refusal
unfolding matrix_with
unknown {n} {refusal} e = elim (ℕ_discrete n 0) [
  | yes zero ↦ let f = rw zero at e in absurd (let z : ◌≡◌ {A = ℕ} 0 1 = cc in omega arith)
  | no some ↦ elim (ℕ_discrete n 1) [
    | yes one ↦ let f = rw one at e in absurd (let z : ◌≡◌ {A = ℕ} 0 1 = cc in omega arith)
    | no more ↦ let f = rw (ne_eqb n 0 some, ne_eqb n 1 more) at e in record { many = lt-leb n 1 (omega arith); is = cc }
  ]
]

-- the weights, as slicing gives them
pub weights-are : (body : List ℕ) → take (length body - 1) (drop 1 body) ≡ weights_of body
weights-are body = take_all (length body - 1) (drop 1 body) (simp length-drop (omega arith))

-- a matrix record that passes has the right length
record Long (body : List ℕ) (v : Result ⊤ Refusal) : Type 0 where
  pub long : v ≡ Ok tt → length body ≡ 65

pub passed-long : (body : List ℕ) (l : Loaded) → matrix_verdict body l ≡ Ok tt → length body ≡ 65
unfolding matrix_verdict
passed-long body l e =
    (require-all (Long body) (eqb (length body) 65) (Err Refusal.BodyLength) _
    (record { long = λ (r : Err Refusal.BodyLength ≡ Ok tt). absurd (let z : ◌≡◌ {A = ℕ} 0 1 = cc in omega arith) })
    (λ t. record { long = λ r. eqb-true (length body) 65 t })).long e
