-- What the code of this crate relies on; no rule of document 01.
use Rattle.std.specs.Prelude.{◌≡◌, ℕ, zero, suc, ◌-◌, ◌/◌, ◌^◌, ◌<◌, ◌≤◌}
use Rattle.mpeg1_bits.specs.declared.Window.{Window}
use Rattle.mpeg1_tables.specs.Table.{table_row_at}
use Rattle.mpeg1_tables.specs.AnnexB.{coefficient_escape}

-- how many bits a window must have: eight for a row after zeros; where there are fewer, the list's first row is looked up
abbrev pub fewest_bits : ℕ → ℕ
fewest_bits zero = 0
fewest_bits (suc further) = 8

-- the window starts with the row's zeros, so the bits after them can be looked up in the row
pub record LookUpFits (r zeros : ℕ) (next : Window) : Type 0 where
  pub there : r < 16
  pub begins : (table_row_at r).zeros ≡ zeros
  pub few : zeros ≤ 8
  pub enough : fewest_bits zeros ≤ next.count
  pub most : next.count ≤ 32
  pub low : next.bits / 2 ^ (24 - zeros) < 256

-- the bounds on a coefficient's word that was looked up
pub record WordIn (value n : ℕ) (next : Window) : Type 0 where
  pub small : value < 2 ^ 11
  pub short : n < 17
  pub inside : n ≤ next.count
  pub escape : value ≡ coefficient_escape → n ≡ 6
