-- A residual has at most six bits. Assumes nothing.
use mathlib.Core.Bool.{not, ◌&&◌}
use mathlib.Core.List.{List}
use Prim.Native.Nat.{ℕ, ◌-◌, ◌<◌, ◌≤◌}
use native.Mathlib.Omega.{arith}
use lib.Dec.{eqb, ltb}
use lib.Pow.{pow_mono}
use Rattle.symbols.proofs.Parsed.{All, here, all-cond, all_more}
use Rattle.mpeg1_bits.specs.declared.BitPosition.{BitPosition}
use Rattle.mpeg1_slice.specs.Vectors.{residual_at}
use Rattle.mpeg1_slice.proofs.Laws.Read.{field_below}

pub residual-small : (bytes : List ℕ) (f_code : ℕ) → f_code ≤ 7 → (value : ℕ) (at : BitPosition) → All (λ v p. v < 256) (residual_at f_code value bytes at)
unfolding residual_at
residual-small bytes f_code few value at =
    all-cond (not (eqb value 16) && ltb 1 f_code) _ _ _
    (λ t. all_more (field_below bytes at (f_code - 1)) λ v p h. omega (arith, h, pow_mono {i = f_code - 1} {j = 6} (omega arith)))
    (λ t. here (omega arith))
