-- The multiples of one angle that the factors at an output index stand for.
use Rattle.std.specs.Prelude.{cond, ℕ, ◌^◌, eqb, ℤ, pos}
use Rattle.decode_idct.specs.Transform.{factor}

-- 2^20 times cos(u × x), where x = (2p + 1) × pi / 16 is the angle of output index p: the factor; 1 at u = 0;
-- 0 at u = 8, an odd multiple of pi / 2
abbrev pub cosine_at : ℕ → ℕ → ℤ
cosine_at p u = cond (eqb u 0) (pos (2 ^ 20)) (cond (eqb u 8) (pos 0) (factor p u))
