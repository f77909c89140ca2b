-- Made macroblocks, and a picture with them written into it.
use Rattle.std.specs.Prelude.{◌≡◌, List, [], ◌∷◌, ℕ, zero, suc, ◌+◌, ℤ}
use Rattle.math.specs.Tab.{tab}
use Rattle.symbols.specs.declared.size.PictureSize.{PictureSize}
use Rattle.symbols.specs.Pattern.{no_block}
use Rattle.decode_macroblock.specs.declared.location.MacroblockPosition.{MacroblockPosition}
use Rattle.decode_macroblock.specs.declared.compensation.Motion.{Motion}
use Rattle.decode_macroblock.specs.Location.{macroblock_position, block_location, put_at}
use Rattle.decode_macroblock.specs.Compensation.{References}
use Rattle.decode_macroblock.specs.Block.{pels_of}

-- the picture with the first n blocks of a macroblock put into it
unfoldable pub with_blocks : MacroblockPosition → (ℕ → List ℕ) → ℕ → List ℕ → List ℕ
with_blocks p blocks zero picture = picture
with_blocks p blocks (suc n) picture = put_at (block_location p n) (blocks n) (with_blocks p blocks n picture)

-- a made macroblock is decoded and ready to write: its address, its motion, which blocks are coded, and the coefficients of all six
pub record MadeMacroblock : Type 0 where
  pub address : ℕ
  pub motion : Motion
  pub pattern : ℕ
  pub coefficients : List (List ℤ)

-- a macroblock of prediction only: none of its blocks is coded
abbrev pub predicted_only : ℕ → Motion → MadeMacroblock
predicted_only address m = record { address = address; motion = m; pattern = no_block; coefficients = [] }

-- n of these, at consecutive addresses
abbrev pub predicted_only_from : ℕ → ℕ → Motion → List MadeMacroblock
predicted_only_from first n m = tab n (λ k. predicted_only (first + k) m)

-- the picture with a macroblock written into it: six blocks at its address
abbrev pub with_macroblock : (List ℤ → ℕ → ℤ) → References → PictureSize → MadeMacroblock → List ℕ → List ℕ
with_macroblock transform r s m picture =
    with_blocks (macroblock_position s m.address) (pels_of transform r (macroblock_position s m.address) m.motion m.pattern m.coefficients) 6 picture

-- the picture with several written into it, in sequence
unfoldable pub with_macroblocks : (List ℤ → ℕ → ℤ) → References → PictureSize → List MadeMacroblock → List ℕ → List ℕ
with_macroblocks transform r s [] picture = picture
with_macroblocks transform r s (m ∷ macroblocks) picture = with_macroblocks transform r s macroblocks (with_macroblock transform r s m picture)

-- macroblocks at consecutive addresses, from `first` up to the one before `last`
abbrev pub InOrder : ℕ → List MadeMacroblock → ℕ → Type 0
InOrder first [] last = first ≡ last
InOrder first (m ∷ macroblocks) last = (m.address ≡ first) × InOrder (first + 1) macroblocks last
