-- How many bytes each part of a macroblock's record takes. Assumes nothing.
use mathlib.Core.Bool.{Bool, true, false}
use mathlib.Core.List.{List}
use mathlib.Core.Path.{◌≡◌, refl}
use Rattle.std.specs.Prelude.{Ok}
use Prim.Native.Nat.{ℕ, ◌<◌, ◌≤◌}
use native.Mathlib.Omega.{arith}
use lib.IntN.{ℤ}
use lib.ListN.{length, length-append}
use Rattle.symbols.specs.declared.vector_codes.VectorCode.{VectorCode}
use Rattle.symbols.specs.declared.vector_codes.VectorCodes.{VectorCodes}
use Rattle.symbols.specs.declared.vector_codes.Vectors.{Vectors}
use Rattle.symbols.specs.MacroblockType.{has_scale, has_forward, has_backward, has_pattern, is_intra}
use Rattle.symbols.proofs.Parsed.{All, here, all-cond, all_more}
use Rattle.format3_writer.specs.Bytes.{big_endian_bytes}
use Rattle.format3_writer.specs.Records.{vector_code_bytes, given_vector_codes_bytes, difference_bytes}
use Rattle.format3_writer.proofs.Laws.Lengths.{given-short}
use Rattle.mpeg1_bits.specs.declared.BitPosition.{BitPosition}
use Rattle.mpeg1_vlc.proofs.Laws.Range.{pattern-read}
use Rattle.mpeg1_slice.specs.Macroblock.{scale_at, pattern_at}
use Rattle.mpeg1_slice.proofs.Laws.Read.{word-between, field_below}
use Rattle.mpeg1_slice.specs.Read.{Read}
use Rattle.mpeg1_reader.proofs.Laws.Writing.{size-most}
use Rattle.mpeg1_reader.specs.declared.write_answer.Written.{Written}
use Rattle.mpeg1_reader.specs.WriteAnswer.{write_answer, component_bytes, vectors_field_bytes}

pub component-length : (component : VectorCode) → length (component_bytes component) ≡ 2
unfolding vector_code_bytes
component-length component = refl

pub component-size : (x : Read VectorCode) {w : Written} → Ok w ≡ write_answer component_bytes x → w.size ≤ 2
component-size = size-most component_bytes (λ a. omega (arith, component-length a))

pub both-short : (type : ℕ) (vectors : Vectors) → length (vectors_field_bytes type vectors) ≤ 8
both-short type vectors =
    omega (
      arith,
      length-append (given_vector_codes_bytes (has_forward type) vectors.forward) (given_vector_codes_bytes (has_backward type) vectors.backward),
      given-short (has_forward type) vectors.forward,
      given-short (has_backward type) vectors.backward,
    )

pub vectors-size : (type : ℕ) (x : Read Vectors) {w : Written} → Ok w ≡ write_answer (vectors_field_bytes type) x → w.size ≤ 8
vectors-size type = size-most (vectors_field_bytes type) (both-short type)

pub given-size : (given : Bool) (x : Read VectorCodes) {w : Written} → Ok w ≡ write_answer (given_vector_codes_bytes given) x → w.size ≤ 4
given-size given = size-most (given_vector_codes_bytes given) (given-short given)

pub difference-short : (intra : Bool) (difference : ℤ) → length (difference_bytes intra difference) ≤ 2
unfolding big_endian_bytes
difference-short true difference = omega arith
difference-short false difference = omega arith

pub difference-size : (intra : Bool) (x : Read ℤ) {w : Written} → Ok w ≡ write_answer (difference_bytes intra) x → w.size ≤ 2
difference-size intra = size-most (difference_bytes intra) (difference-short intra)

-- ---- values that are read fit a byte
pub scale_small : (type : ℕ) (bytes : List ℕ) (at : BitPosition) → All (λ v p. v < 256) (scale_at type bytes at)
unfolding scale_at
scale_small type bytes at = all-cond (has_scale type) _ _ _ (λ t. all_more (field_below bytes at 5) λ v p h. omega (arith, h)) (λ t. here (omega arith))

pub pattern-small : (type : ℕ) (bytes : List ℕ) (at : BitPosition) → All (λ v p. v ≤ 63) (pattern_at type bytes at)
unfolding pattern_at
pattern-small type bytes at =
    all-cond (is_intra type) _ _ _
    (λ t. here (omega arith))
    (λ t. all-cond (has_pattern type) _ _ _ (λ t. all_more (word-between bytes at _ pattern-read) λ v p h. h.1) (λ t. here (omega arith)))
