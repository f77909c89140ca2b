-- What the code of this crate relies on; no rule of document 01.
use Rattle.std.specs.Prelude.{List, ℕ, ◌*◌, ◌<◌, ◌≤◌, length}
use Rattle.mpeg1_bits.specs.declared.BitPosition.{BitPosition}
use Rattle.mpeg1_bits.specs.Bits.{bit_offset}

-- a position inside the bytes or at their end
pub record InBytes (bytes : List ℕ) (p : BitPosition) : Type 0 where
  pub bit_small : p.bit < 8
  pub not_past : bit_offset p ≤ 8 * length bytes
