-- The rows that the transform works for a macroblock, and for several (document 02, No. 6).
use Rattle.std.specs.Prelude.{cond, List, [], ◌∷◌, ℕ, ◌+◌, ℤ}
use Rattle.math.specs.Tab.{tab}
use Rattle.math.specs.Total.{total}
use Rattle.symbols.specs.Pattern.{is_coded}
use Rattle.decode_coefficients.specs.Rows.{rows_worked}
use Rattle.decode_macroblock.specs.Block.{coefficients_at}
use Rattle.decode_macroblock.specs.Macroblock.{MadeMacroblock}

-- the rows of one of the six blocks; a block that is not coded has none
abbrev pub block_rows : ℕ → List (List ℤ) → ℕ → ℕ
block_rows pattern c block = cond (is_coded pattern block) (rows_worked (coefficients_at c block)) 0

-- "Each macroblock .. carries the total over its coded blocks"
abbrev pub macroblock_rows : ℕ → List (List ℤ) → ℕ
macroblock_rows pattern c = total (tab 6 (block_rows pattern c))

-- the total over several macroblocks
unfoldable pub rows_of : List MadeMacroblock → ℕ
rows_of [] = 0
rows_of (m ∷ macroblocks) = macroblock_rows m.pattern m.coefficients + rows_of macroblocks
