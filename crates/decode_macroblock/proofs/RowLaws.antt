-- Laws of the rows worked: at most 8 for a block and 48 for a macroblock, none for a macroblock of prediction only. Assumes nothing.
use mathlib.Core.Bool.{Bool, true, false, cond}
use mathlib.Core.List.{List, [], ◌∷◌, ◌++◌}
use mathlib.Core.Path.{◌≡◌, refl, sym, ap₂, ◌∙◌}
use Prim.Native.Nat.{ℕ, zero, suc, ◌+◌, ◌*◌, ◌≤◌}
use native.Mathlib.Omega.{arith}
use lib.IntN.{ℤ}
use Rattle.math.specs.Tab.{tab}
use Rattle.math.specs.Total.{total}
use Rattle.math.proofs.Test.{count_most}
use Rattle.math.proofs.Total.{total-tab-more, total-tab-most}
use Rattle.symbols.specs.Pattern.{is_coded}
use Rattle.decode_coefficients.specs.Rows.{rows_worked}
use Rattle.decode_macroblock.specs.declared.compensation.Motion.{Motion}
use Rattle.decode_macroblock.specs.Block.{coefficients_at}
use Rattle.decode_macroblock.specs.Macroblock.{MadeMacroblock, predicted_only, predicted_only_from}
use Rattle.decode_macroblock.specs.Rows.{block_rows, macroblock_rows, rows_of}

pub rows-most : (c : List ℤ) → rows_worked c ≤ 8
unfolding rows_worked
rows-most c = count_most 8 _

module _ (pattern : ℕ) (c : List (List ℤ)) where
  block-rows-most : (block : ℕ) → block_rows pattern c block ≤ 8
  block-rows-most block = go (is_coded pattern block)
    where
      go : (b : Bool) → cond b (rows_worked (coefficients_at c block)) 0 ≤ 8
      go true = rows-most (coefficients_at c block)
      go false = omega arith

  -- the first n blocks
  first-rows-most : (n : ℕ) → total (tab n (block_rows pattern c)) ≤ 8 * n
  first-rows-most n = total-tab-most n 8 (block_rows pattern c) (λ block h. block-rows-most block)

  -- a loop that adds the rows of one block after the other
  module _ (n rows own : ℕ) (before : rows ≡ total (tab n (block_rows pattern c))) (is : own ≡ block_rows pattern c n) where
    pub rows_more : rows + own ≡ total (tab (n + 1) (block_rows pattern c))
    rows_more = ap₂ ◌+◌ before is ∙ sym (total-tab-more n (block_rows pattern c))

    pub rows_few : rows + own ≤ 8 * n + 8
    rows_few = omega (arith, before, is, first-rows-most n, block-rows-most n)

  pub macroblock-rows-most : macroblock_rows pattern c ≤ 48
  macroblock-rows-most = first-rows-most 6

-- ---- several macroblocks
pub rows_append : (first rest : List MadeMacroblock) → rows_of (first ++ rest) ≡ rows_of first + rows_of rest
unfolding rows_of
rows_append [] rest = omega arith
rows_append (m ∷ first) rest = omega (arith, rows_append first rest)

-- ---- if no block is coded, no row is worked
pub none-coded-rows : (c : List (List ℤ)) → macroblock_rows 0 c ≡ 0
unfolding total tab is_coded
none-coded-rows c = refl

pub predicted-rows : (first n : ℕ) (m : Motion) → rows_of (predicted_only_from first n m) ≡ 0
unfolding rows_of tab
predicted-rows first n m = go n (λ k. first + k)
  where
    go : (n : ℕ) (address : ℕ → ℕ) → rows_of (tab n (λ k. predicted_only (address k) m)) ≡ 0
    go zero address = refl
    go (suc n) address = omega (arith, none-coded-rows [], go n (λ k. address (suc k)))
