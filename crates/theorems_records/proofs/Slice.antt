-- A slice's record, once written, is read back. Assumes nothing.
use mathlib.Core.Bool.{true}
use mathlib.Core.List.{List, [], ◌∷◌}
use mathlib.Core.Path.{◌≡◌, refl}
use Prim.Native.Nat.{ℕ}
use Rattle.refusals.specs.declared.Refusal.TheVariants.{QuantizerScale}
use Rattle.symbols.specs.Guard.{require◌else◌then◌}
use Rattle.format3_records.specs.Field.{byte}
use Rattle.format3_macroblock.specs.Slice.{legal_scale, scale_of, slice_fields_of, slice_of}
use Rattle.format3_writer.specs.Bytes.{big_endian_bytes}
use Rattle.format3_writer.specs.Records.{slice_body}
use Rattle.theorems_records.specs.ReadBack.{ReadBack, back, SliceReadBack}
use Rattle.theorems_records.proofs.ReadBack.{back-then, back-need, word_back}

pub scale_back : (scale : ℕ) (behind : List ℕ) → ReadBack (λ n. n ≡ scale) (legal_scale scale ≡ true) behind (scale_of (scale ∷ behind))
unfolding scale_of byte
scale_back scale behind = back-need (legal_scale scale) QuantizerScale _ behind refl (λ legal. legal) λ legal. back refl

pub slice_back : (scale start : ℕ) → SliceReadBack scale start
unfolding slice_of slice_fields_of slice_body big_endian_bytes require◌else◌then◌
slice_back scale start =
    back-then _ (scale_back scale (big_endian_bytes start)) (λ legal. legal.scale) λ n same.
    back-then _ (word_back start []) (λ legal. tt) λ address found.
    back (λ fits. cc (found fits))
