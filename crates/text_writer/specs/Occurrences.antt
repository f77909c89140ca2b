-- How often a byte occurs in a text, and how many lines a text has.
use Rattle.std.specs.Prelude.{cond, List, [], ◌∷◌, ℕ, ◌+◌, eqb}
use Rattle.text_writer.specs.Number.{line_end}

unfoldable pub occurrences : ℕ → List ℕ → ℕ
occurrences byte [] = 0
occurrences byte (first ∷ text) = cond (eqb first byte) 1 0 + occurrences byte text

-- each line ends with a line feed
abbrev pub line_count : List ℕ → ℕ
line_count text = occurrences line_end text
