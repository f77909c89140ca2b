-- What ISO/IEC 11172-2, clause 2.4.4, makes of a picture's symbols, matrices and references, without any file byte or refusal.
use Rattle.std.specs.Prelude.{List, [], ◌∷◌, ◌++◌, ℕ, ◌+◌, ℤ}
use Rattle.math.specs.Joined.{joined}
use Rattle.symbols.specs.declared.header.Header.{Header}
use Rattle.symbols.specs.Macroblock.{Macroblock}
use Rattle.symbols.specs.Slice.{Slice}
use Rattle.decode_coefficients.specs.declared.matrices.Matrices.{Matrices}
use Rattle.decode_coefficients.specs.Dc.{starting_dc_pasts}
use Rattle.decode_coefficients.specs.Macroblock.{scale_after, macroblock_coefficients, symbols_with_dc}
use Rattle.decode_macroblock.specs.Compensation.{References}
use Rattle.decode_macroblock.specs.Macroblock.{MadeMacroblock, with_macroblocks}
use Rattle.decode_state.specs.Plan.{plan_of, macroblocks_of_plan}
use Rattle.decode_state.specs.State.{reset_slice}
use Rattle.decode_state.specs.declared.state.SliceState.{SliceState}
use Rattle.decode_state.specs.declared.plan.Plan.{Plan}

-- the symbols of a picture: its quantizer matrices, and its slices with their macroblocks
pub record Symbols : Type 0 where
  pub matrices : Matrices
  pub slices : List Slice

-- a macroblock's plan, from the next address and the slice's state before it: skipped macroblocks, own address and motion, the state after it
abbrev pub plan_for : Header → ℕ → SliceState → Macroblock → Plan
plan_for h next slice m = plan_of h next slice (symbols_with_dc slice.dc m)

-- the coefficients of its six blocks, with the scale and the DC pasts that apply
abbrev pub coefficients_for : Matrices → SliceState → Macroblock → List (List ℤ)
coefficients_for q slice m = macroblock_coefficients q (scale_after slice.scale m.symbols) (starting_dc_pasts slice.dc m.symbols.increment) m

-- the macroblocks of a slice in sequence, each with the address and the state that the previous one leaves
unfoldable pub macroblocks_made_from : Header → Matrices → ℕ → SliceState → List Macroblock → List MadeMacroblock
macroblocks_made_from h q next slice [] = []
macroblocks_made_from h q next slice (m ∷ macroblocks) =
    let p = plan_for h next slice m in
    macroblocks_of_plan p (coefficients_for q slice m) ++ macroblocks_made_from h q (p.address + 1) p.slice macroblocks

-- a slice's macroblocks, from its start address and the reset state
abbrev pub macroblocks_of_slice : Header → Matrices → Slice → List MadeMacroblock
macroblocks_of_slice h q slice = macroblocks_made_from h q slice.start (reset_slice slice.scale) slice.macroblocks

-- the macroblocks of all slices
abbrev pub macroblocks_of : Header → Symbols → List MadeMacroblock
macroblocks_of h symbols = joined (macroblocks_of_slice h symbols.matrices) symbols.slices

-- the lent output with these macroblocks written into it, for any inverse transform
abbrev pub reconstruction : (List ℤ → ℕ → ℤ) → References → Header → Symbols → List ℕ → List ℕ
reconstruction transform r h symbols output = with_macroblocks transform r h.size (macroblocks_of h symbols) output
