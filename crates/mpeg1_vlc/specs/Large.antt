-- The two kinds of large levels: the numbers that their second eight bits can be, and what these have added to the level.
use Rattle.std.specs.Prelude.{ℕ}
use Rattle.mpeg1_vlc.specs.declared.coefficient.LargeLevels.{LargeLevels}
use Rattle.mpeg1_vlc.specs.declared.coefficient.LargeLevels.TheVariants.{Negative, Positive}

-- the lowest of the 128 numbers
abbrev pub lowest_of : LargeLevels → ℕ
lowest_of Negative = 1
lowest_of Positive = 128

abbrev pub added_to : LargeLevels → ℕ
added_to Negative = 256
added_to Positive = 0
