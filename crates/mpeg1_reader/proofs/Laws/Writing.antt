-- Parts that are read and written one after the other. Assumes nothing.
use mathlib.Core.List.{List, ◌++◌}
use mathlib.Core.Path.{◌≡◌, refl, sym, ap, ◌∙◌}
use Rattle.std.specs.Prelude.{Ok, Err}
use Prim.Native.Nat.{ℕ, ◌+◌, ◌≤◌}
use native.Mathlib.Omega.{arith}
use lib.ListN.{length}
use Rattle.symbols.specs.Parsed.{parsed, refused, bind}
use Rattle.symbols.proofs.Parsed.{All, all-at, all-as, all_none}
use Rattle.format3_writer.specs.Written.{written}
use Rattle.format3_writer.proofs.Laws.Written.{written-append}
use Rattle.symbols.specs.declared.vector_codes.VectorCode.{VectorCode}
use Rattle.mpeg1_slice.specs.declared.vectors.Component.{Component}
use Rattle.mpeg1_bits.specs.declared.BitPosition.{BitPosition}
use Rattle.mpeg1_slice.specs.declared.refused.RefusedAt.{RefusedAt}
use Rattle.mpeg1_slice.specs.Read.{Read}
use Rattle.mpeg1_slice.proofs.Laws.Read.{Onward}
use Rattle.mpeg1_bits.specs.Requires.{InBytes}
use Rattle.mpeg1_slice.specs.Answers.{answer_with, component_of, component_answer}
use Rattle.mpeg1_slice.specs.Macroblock.{HeadFields}
use Rattle.mpeg1_reader.specs.WriteAnswer.{write_answer, WrittenAt, macroblock_head_answer}
use Rattle.mpeg1_reader.specs.declared.head.MacroblockHead.{MacroblockHead}
use Rattle.mpeg1_reader.specs.declared.write_answer.Written.{Written}

-- ---- from what the code returns to what the definition reads
module _ {A B : Type 0} (made : A → BitPosition → B) where
  pub refused-is : (x : Read A) {reason : RefusedAt} → Err reason ≡ answer_with made x → x ≡ refused reason
  refused-is (parsed a q) e = let z : ◌≡◌ {A = ℕ} 0 1 = cc in absurd (omega arith)
  refused-is (refused other) e = cc

  -- after a refusal nothing is claimed of the buffer
  pub unwritten : {P : A → BitPosition → Type 0} (x : Read A) {reason : RefusedAt} → Err reason ≡ answer_with made x → All P x
  unwritten x e = all_none (refused-is x e)

  -- what is read, if it can be taken back from what is made of it
  pub read-is : (value : B → A) (end : B → BitPosition) → ((a : A) (p : BitPosition) → ◌≡◌ {A = Read A} (parsed (value (made a p)) (end (made a p))) (parsed a p)) → (x : Read A) {b : B} → Ok b ≡ answer_with made x
      → x ≡ parsed (value b) (end b)
  read-is value end back (parsed a q) {b} e =
      let same : made a q ≡ b = cc in
      sym (back a q) ∙ ap (λ (c : B). parsed (value c) (end c)) same
  read-is value end back (refused reason) e = let z : ◌≡◌ {A = ℕ} 0 1 = cc in absurd (omega arith)

abbrev pub code_in : Component × BitPosition → VectorCode
code_in read = record { code = read.0.code; residual = read.0.residual }

pub component-read : (x : Read VectorCode) {read : Component × BitPosition} → Ok read ≡ component_answer x → x ≡ parsed (code_in read) read.1
component-read = read-is (λ component at. (component_of component, at)) code_in (λ read. read.1) (λ a p. refl)

abbrev pub head_in : MacroblockHead → HeadFields
head_in head = record { macroblock_type = head.macroblock_type; scale = head.scale }

pub head-read : (x : Read HeadFields) {head : MacroblockHead} → Ok head ≡ macroblock_head_answer x → x ≡ parsed (head_in head) head.at
head-read = read-is (λ head p. record { macroblock_type = head.macroblock_type; scale = head.scale; at = p }) head_in (λ head. head.at) (λ a p. refl)

-- a part that was read, and what is returned for it
pub record Part {A : Type 0} (bytes : A → List ℕ) (x : Read A) (w : Written) : Type 0 where
  pub value : A
  pub is : x ≡ parsed value w.at
  pub size : w.size ≡ length (bytes value)

module _ {A : Type 0} (bytes : A → List ℕ) where
  pub part-done : (x : Read A) {w : Written} → Ok w ≡ write_answer bytes x → Part bytes x w
  part-done (parsed a q) {w} e =
      let same : w ≡ record { at = q; size = length (bytes a) } = cc in
      record { value = a; is = ap (λ (v : Written). parsed a v.at) (sym same); size = ap (λ (v : Written). v.size) same }
  part-done (refused reason) e = let z : ◌≡◌ {A = ℕ} 0 1 = cc in absurd (omega arith)

  pub part-refused : (x : Read A) {reason : RefusedAt} → Err reason ≡ write_answer bytes x → x ≡ refused reason
  part-refused = refused-is (λ a p. record { at = p; size = length (bytes a) })

  -- a bound on the part's bytes, and that it ends within the bytes that are read
  pub size-most : {most : ℕ} → ((a : A) → length (bytes a) ≤ most) → (x : Read A) {w : Written} → Ok w ≡ write_answer bytes x → w.size ≤ most
  size-most few x e = let part = part-done x e in omega (arith, part.size, few part.value)

  pub ends-inside : {read : List ℕ} {least : ℕ} (x : Read A) {w : Written} → Onward read least x → Ok w ≡ write_answer bytes x → InBytes read w.at
  ends-inside x onward e = (all-at onward (part-done x e).is).inside

-- ---- two parts in a row: the bytes of what they read together
module _ {A B C : Type 0} (first : A → List ℕ) (second : B → List ℕ) (both : C → List ℕ) (x : Read A) (y : A → BitPosition → Read B) (join : A → B → C) where
  abbrev pub together : Read C
  together = bind x λ a p. bind (y a p) λ b q. parsed (join a b) q

  pub both-written : {v w : Written} (front : Part first x v) (back : Part second (y front.value v.at) w) (offset : ℕ) (before : List ℕ) {between after : List ℕ}
      → both (join front.value back.value) ≡ first front.value ++ second back.value → WrittenAt first offset before between x → WrittenAt second (offset + v.size) between after (y front.value v.at)
      → WrittenAt both offset before after together
  both-written {v} {w} front back offset before {between} {after} e f g = all-as both_read behind
    where
      both_read : together ≡ parsed (join front.value back.value) w.at
      both_read = rw (front.is, back.is)

      behind : after ≡ written offset (both (join front.value back.value)) before
      behind =
          all-at g back.is
          ∙ rw (all-at f front.is, front.size, e) (sym (written-append offset (first front.value) (second back.value) before))
