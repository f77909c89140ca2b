-- The array of 384 in which the code keeps the six blocks of a macroblock.
use Rattle.std.specs.Prelude.{List, ℕ, ◌+◌, ◌*◌, ℤ}
use Rattle.math.specs.Scatter.{scatter}
use Rattle.math.specs.Tab.{tab}
use Rattle.math.specs.Bound.{at}

-- one block of the array, and all six
abbrev pub block_in : List ℤ → ℕ → List ℤ
block_in store block = tab 64 (λ k. at store (64 * block + k))

abbrev pub six_blocks : List ℤ → List (List ℤ)
six_blocks store = tab 6 (block_in store)

-- the array with a block's coefficients stored in it
unfoldable pub put_block : ℕ → List ℤ → List ℤ → List ℤ
put_block block values store = scatter (λ k. 64 * block + k) (λ k. at values k) 64 store
