-- A block of a macroblock: its prediction, plus its residue if it is coded.
use Rattle.std.specs.Prelude.{cond, List, [], ℕ, ℤ, get_or}
use Rattle.symbols.specs.Pattern.{is_coded}
use Rattle.decode_idct.specs.Transform.{residues_by}
use Rattle.decode_macroblock.specs.Pel.{reconstructed_block}
use Rattle.decode_macroblock.specs.declared.location.MacroblockPosition.{MacroblockPosition}
use Rattle.decode_macroblock.specs.declared.compensation.Motion.{Motion}
use Rattle.decode_macroblock.specs.Location.{block_location}
use Rattle.decode_macroblock.specs.Compensation.{References, predicted_block}

-- the sixty-four coefficients of one of the six blocks
abbrev pub coefficients_at : List (List ℤ) → ℕ → List ℤ
coefficients_at c block = get_or c block []

-- "Prediction (0 for intra) plus residue", by an inverse transform; a block that is not coded is just its prediction
unfoldable pub with_residue : (List ℤ → ℕ → ℤ) → ℕ → List (List ℤ) → ℕ → List ℕ → List ℕ
with_residue transform pattern c block predicted =
    cond (is_coded pattern block) (reconstructed_block predicted (residues_by transform (coefficients_at c block))) predicted

-- the pels of a block
unfoldable pub pels_of : (List ℤ → ℕ → ℤ) → References → MacroblockPosition → Motion → ℕ → List (List ℤ) → ℕ → List ℕ
pels_of transform r p m pattern c block = with_residue transform pattern c block (predicted_block r.forward r.backward m (block_location p block) block)
