-- A record written in three steps: head, rest of the body, then length and kind in front. Assumes nothing.
use mathlib.Core.List.{List, ◌++◌}
use mathlib.Core.Path.{◌≡◌, refl, sym, ◌∙◌}
use Prim.Native.Nat.{ℕ, ◌+◌}
use native.Mathlib.Omega.{arith}
use lib.ListN.{length, length-append}
use Rattle.symbols.specs.Parsed.{parsed, refused}
use Rattle.symbols.specs.declared.header.Header.{Header}
use Rattle.format3_writer.specs.Written.{written}
use Rattle.format3_writer.proofs.Laws.Written.{written-append}
use Rattle.format3_writer.specs.Records.{record_head, record_bytes, head_bytes, macroblock_body}
use Rattle.format3_writer.proofs.Laws.Writing.{written-record}
use Rattle.format3_writer.proofs.Laws.Lengths.{record-length}
use Rattle.mpeg1_bits.specs.declared.BitPosition.{BitPosition}
use Rattle.mpeg1_slice.specs.declared.refused.RefusedAt.{RefusedAt}
use Rattle.mpeg1_slice.specs.Macroblock.{HeadFields, VectorsAndBlocks, head_at, vectors_and_blocks_at, macroblock_of_fields, macroblock_at}
use Rattle.mpeg1_reader.specs.WriteAnswer.{vectors_and_blocks_bytes}

module _ (offset kind : ℕ) (head rest : List ℕ) {n m size : ℕ} (h : n ≡ length head) (k : m ≡ length rest) (s : size ≡ 1 + n + m) where
  whole-size : size ≡ 1 + length (head ++ rest)
  whole-size = omega (arith, s, h, k, length-append head rest)

  pub record-size : 2 + size ≡ length (record_bytes kind (head ++ rest))
  record-size = omega (arith, whole-size, record-length kind (head ++ rest))

  pub record-written : (before : List ℕ) {first body last : List ℕ} → first ≡ written (offset + 3) head before → body ≡ written (offset + 3 + n) rest first → last ≡ written offset (record_head size kind) body
      → last ≡ written offset (record_bytes kind (head ++ rest)) before
  record-written before {first} {body} {last} e f g = g ∙ rw (whole-size, body-written) (written-record offset kind (head ++ rest) before)
    where
      body-written : body ≡ written (offset + 3) (head ++ rest) before
      body-written = f ∙ rw (e, h) (sym (written-append (offset + 3) head rest before))

-- a macroblock's body is its head and the rest
pub body_of : (increment : ℕ) (head : HeadFields) (rest : VectorsAndBlocks)
    → macroblock_body (macroblock_of_fields increment head rest) ≡ head_bytes head.macroblock_type increment head.scale ++ vectors_and_blocks_bytes head.macroblock_type rest
unfolding macroblock_body
body_of increment head rest = refl

module _ (h : Header) (increment : ℕ) (bytes : List ℕ) (at : BitPosition) where
  pub head-refused : {reason : RefusedAt} → head_at h.coding_type bytes at ≡ refused reason → macroblock_at h increment bytes at ≡ refused reason
  unfolding macroblock_at
  head-refused e = rw e

  module _ {head : HeadFields} {p : BitPosition} (e : head_at h.coding_type bytes at ≡ parsed head p) where
    pub rest-refused : {reason : RefusedAt} → vectors_and_blocks_at head.macroblock_type h.forward.f_code h.backward.f_code bytes p ≡ refused reason
        → macroblock_at h increment bytes at ≡ refused reason
    unfolding macroblock_at
    rest-refused f = rw (e, f)

    pub macroblock-read : {rest : VectorsAndBlocks} {q : BitPosition} → vectors_and_blocks_at head.macroblock_type h.forward.f_code h.backward.f_code bytes p ≡ parsed rest q
        → macroblock_at h increment bytes at ≡ parsed (macroblock_of_fields increment head rest) q
    unfolding macroblock_at
    macroblock-read f = rw (e, f)
