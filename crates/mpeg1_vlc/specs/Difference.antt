-- The value of a coded DC difference (ISO/IEC 11172-2, 2.4.3.7: dct_dc_differential).
use Rattle.std.specs.Prelude.{cond, ℕ, ◌+◌, ◌*◌, ◌^◌, ltb, ℤ, pos, ◌-ℤ◌}

-- the number v of n bits: v itself if its first bit is 1, else v + 1 - 2^n
unfoldable pub dc_difference_of : ℕ → ℕ → ℤ
dc_difference_of n v = cond (ltb (2 * v) (2 ^ n)) (pos (v + 1) -ℤ pos (2 ^ n)) (pos v)
