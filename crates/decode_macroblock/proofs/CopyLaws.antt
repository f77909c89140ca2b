-- Laws of a macroblock with one direction and no coded block: each block is what the vector points to. Assumes nothing.
use mathlib.Core.Path.{◌≡◌, refl, sym, ◌∙◌, subst}
use mathlib.Core.List.{List, []}
use Prim.Native.Nat.{ℕ, ◌<◌}
use native.Mathlib.Omega.{arith}
use borrow.Author.Tests.{lt-ltb}
use lib.IntN.{ℤ}
use Rattle.std.specs.Prelude.{Some, None}
use Rattle.decode_macroblock.specs.declared.location.MacroblockPosition.{MacroblockPosition}
use Rattle.decode_macroblock.specs.declared.compensation.Vector.{Vector}
use Rattle.decode_macroblock.specs.declared.compensation.Motion.{Motion}
use Rattle.decode_macroblock.specs.Location.{block_location}
use Rattle.decode_macroblock.specs.Compensation.{References, vector_for, pointed_block, predicted_block}
use Rattle.decode_macroblock.specs.Requires.{Readable, BlocksWritable, Copyable}
use Rattle.decode_macroblock.specs.Block.{pels_of}
use Rattle.decode_macroblock.specs.Macroblock.{with_blocks}
use Rattle.decode_macroblock.proofs.CompensationLaws.{predictable}
use Rattle.decode_macroblock.proofs.BlocksLaws.{block-uncoded}

-- ---- what is read
module _ {p : MacroblockPosition} {m : Motion} {forward backward output : List ℕ} (d : BlocksWritable p m forward backward output) where
  pub forward-copyable : {v : Vector} → m.forward ≡ Some v → Copyable p v forward output
  forward-copyable {v} e = record {
    inside = d.inside;
    small = rw e at d.small.forward;
    readable = λ block h. rw e at (predictable block d h).forward-readable;
    output-whole = d.lent.output-whole;
  }

  pub backward-copyable : {v : Vector} → m.backward ≡ Some v → Copyable p v backward output
  backward-copyable {v} e = record {
    inside = d.inside;
    small = rw e at d.small.backward;
    readable = λ block h. rw e at (predictable block d h).backward-readable;
    output-whole = d.lent.output-whole;
  }

-- ---- the vector for a plane: Y uses the vector itself, and both chroma planes share one
pub luma-vector : (block : ℕ) (v : Vector) → block < 4 → vector_for block v ≡ v
unfolding vector_for
luma-vector block v h = rw (lt-ltb block 4 h)

pub chroma-vector : (v : Vector) → vector_for 5 v ≡ vector_for 4 v
unfolding vector_for
chroma-vector v = refl

pub luma-readable : {p : MacroblockPosition} {v : Vector} {reference output : List ℕ} → Copyable p v reference output → (block : ℕ) → block < 4 → Readable (block_location p block) v reference
luma-readable {p} {v} {reference} r block h = subst (λ (u : Vector). Readable (block_location p block) u reference) (luma-vector block v h) (r.readable block (omega arith))

-- ---- what is written
module _ (transform : List ℤ → ℕ → ℤ) (r : References) (p : MacroblockPosition) (m : Motion) (v : Vector) where
  forward-block : m.forward ≡ Some v → m.backward ≡ None → (b : ℕ) → pointed_block r.forward p v b ≡ pels_of transform r p m 0 [] b
  unfolding predicted_block
  forward-block used other b = sym (block-uncoded transform r p m [] b ∙ rw (used, other))

  backward-block : m.forward ≡ None → m.backward ≡ Some v → (b : ℕ) → pointed_block r.backward p v b ≡ pels_of transform r p m 0 [] b
  unfolding predicted_block
  backward-block other used b = sym (block-uncoded transform r p m [] b ∙ rw (other, used))

  module _ (n : ℕ) (picture : List ℕ) where
    pub forward-only : m.forward ≡ Some v → m.backward ≡ None → with_blocks p (pointed_block r.forward p v) n picture ≡ with_blocks p (pels_of transform r p m 0 []) n picture
    forward-only used other = λ i. with_blocks p (λ b. forward-block used other b i) n picture

    pub backward-only : m.forward ≡ None → m.backward ≡ Some v → with_blocks p (pointed_block r.backward p v) n picture ≡ with_blocks p (pels_of transform r p m 0 []) n picture
    backward-only other used = λ i. with_blocks p (λ b. backward-block other used b i) n picture
