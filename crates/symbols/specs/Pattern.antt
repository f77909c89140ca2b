-- Which of a macroblock's six blocks are coded (document 01, kind 4).
use Rattle.std.specs.Prelude.{Bool, cond, ℕ, ◌-◌, ◌/◌, ◌%◌, ◌^◌, eqb, ltb}
use Rattle.symbols.specs.MacroblockType.{has_pattern, is_intra}

-- the patterns with all six blocks and with none
abbrev pub all_blocks : ℕ
all_blocks = 63

abbrev pub no_block : ℕ
no_block = 0

-- the coded blocks: all if intra ("An intra macroblock has all six blocks"), none if the type has no pattern, else the pattern read
abbrev pub coded_pattern : {A : Type 0} → ℕ → (ℕ → A) → A → A
coded_pattern type known read = cond (is_intra type) (known all_blocks) (cond (has_pattern type) read (known no_block))

-- "with 32 the first Y block and 1 Cr": whether a block, counted from 0, is coded
unfoldable pub is_coded : ℕ → ℕ → Bool
is_coded pattern block = eqb (pattern / 2 ^ (5 - block) % 2) 1

-- blocks 0 to 3 are Y, 4 is Cb and 5 is Cr
abbrev pub is_luma : ℕ → Bool
is_luma block = ltb block 4
