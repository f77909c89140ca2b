-- A scale that was read is legal, as is a slice's. Assumes nothing.
use mathlib.Core.Path.{◌≡◌}
use mathlib.Core.Bool.{true}
use mathlib.Core.List.{List}
use Prim.Native.Nat.{ℕ}
use lib.Dec.{eqb}
use lib.ListN.{length}
use Rattle.refusals.specs.declared.Refusal.TheVariants.{QuantizerScale}
use Rattle.symbols.proofs.Guard.{require-all}
use Rattle.symbols.proofs.Parsed.{All, here, none, all_then, all-require, all_any}
use Rattle.format3_records.specs.Field.{byte, two_bytes}
use Rattle.format3_macroblock.specs.Slice.{legal_scale, scale_of, slice_fields_of, slice_of}

pub scale-legal : (bytes : List ℕ) → All (λ scale rest. legal_scale scale ≡ true) (scale_of bytes)
unfolding scale_of
scale-legal bytes =
    all_then (all_any (byte bytes)) λ scale rest u.
    all-require (legal_scale scale) QuantizerScale _ rest λ h.
    here h

pub slice-legal : (body : List ℕ) → All (λ slice rest. legal_scale slice.scale ≡ true) (slice_of body)
unfolding slice_of slice_fields_of
slice-legal body =
    require-all (All (λ slice rest. legal_scale slice.scale ≡ true)) (eqb (length body) 3) _ _ none λ long.
    all_then (scale-legal body) λ scale rest h.
    all_then (all_any (two_bytes rest)) λ start end u.
    here h
