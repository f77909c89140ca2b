-- Laws of a slice's state: what a reset keeps, and what an update keeps. Assumes nothing.
use mathlib.Core.Bool.{Bool, true, false, cond, ◌&&◌}
use mathlib.Core.Path.{◌≡◌, refl}
use Prim.Native.Nat.{ℕ}
use lib.Dec.{ltb, eqb}
use lib.IntN.{pos}
use Rattle.symbols.specs.MacroblockType.{has_forward, has_backward, is_intra}
use Rattle.symbols.specs.Header.{type_p, type_b}
use Rattle.symbols.specs.declared.header.Header.{Header}
use Rattle.decode_coefficients.specs.Dc.{starting_dc_pasts}
use Rattle.decode_coefficients.specs.declared.macroblock.SymbolsWithDc.{SymbolsWithDc}
use Rattle.decode_state.specs.State.{no_motion, reset_slice}
use Rattle.decode_state.specs.Slice.{slice_after}
use Rattle.decode_state.specs.Vectors.{vector_pasts_before, forward_after, backward_after, vector_pasts_after, next_vector_pasts}
use Rattle.decode_state.specs.declared.state.SliceState.{SliceState}

same : {A : Type 0} (test : Bool) (x : A) → cond test x x ≡ x
same true x = refl
same false x = refl

-- ---- a reset keeps only the new slice's scale: whatever the state was, the next macroblock's codes are added to 0 and its DC differences
-- to 1024, in every picture type and after any increment, and it counts as the first. This rules out a past, or a motion to repeat, that is
-- carried from one slice into the next
pub record ResetKeepsNothing (scale : ℕ) : Type 0 where
  pub scale-given : (reset_slice scale).scale ≡ scale
  pub vectors-0 : (coding increment : ℕ) → vector_pasts_before coding increment (reset_slice scale).pasts ≡ record { forward = record { right = pos 0; down = pos 0 }; backward = record { right = pos 0; down = pos 0 } }
  pub no-motion : (reset_slice scale).motion ≡ no_motion
  pub not-intra : (reset_slice scale).intra ≡ false
  pub none_before : (reset_slice scale).first ≡ true
  pub dc-1024 : (increment : ℕ) → starting_dc_pasts (reset_slice scale).dc increment ≡ record { y = pos 1024; cb = pos 1024; cr = pos 1024 }

pub reset-keeps-nothing : (scale : ℕ) → ResetKeepsNothing scale
unfolding vector_pasts_before starting_dc_pasts
reset-keeps-nothing scale = record {
  scale-given = refl;
  no-motion = refl;
  not-intra = refl;
  none_before = refl;
  vectors-0 = λ coding increment. same (eqb coding type_p && ltb 1 increment) _;
  dc-1024 = λ increment. same (ltb 1 increment) _;
}

-- ---- an update keeps the past of a direction that a B macroblock doesn't use, even after skipped macroblocks.
-- This rules out an update that clears it, or stores the other direction's there
pub record UpdateKeepsUnused (h : Header) (m : SymbolsWithDc) (s : SliceState) : Type 0 where
  pub forward : has_forward m.symbols.macroblock_type ≡ false → (slice_after h m s).pasts.forward ≡ s.pasts.forward
  pub backward : has_backward m.symbols.macroblock_type ≡ false → (slice_after h m s).pasts.backward ≡ s.pasts.backward

pub update-keeps-unused : (h : Header) (m : SymbolsWithDc) (s : SliceState) → h.coding_type ≡ type_b → is_intra m.symbols.macroblock_type ≡ false → UpdateKeepsUnused h m s
unfolding next_vector_pasts vector_pasts_before vector_pasts_after forward_after backward_after
update-keeps-unused h m s type predicted = record { forward = λ unused. rw (type, predicted, unused); backward = λ unused. rw (type, predicted, unused) }
