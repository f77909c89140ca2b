-- Where the pairs of a block land (document 01, "Coefficients").
use Rattle.std.specs.Prelude.{Bool, cond, List, [], ◌∷◌, ℕ, ◌+◌}
use Rattle.symbols.specs.declared.pair.Pair.{Pair}

-- "The first pair lands at its run (intra: 1 plus run)"
unfoldable pub first_position : Bool → ℕ
first_position intra = cond intra 1 0

-- "position past 63"
abbrev pub last_position : ℕ
last_position = 63

-- where a pair lands if a run of 0 would land at `next`, and the `next` of the pair after it ("each later one at run plus 1 further on")
abbrev pub pair_position : ℕ → Pair → ℕ
pair_position next pair = next + pair.run

abbrev pub after_pair : ℕ → Pair → ℕ
after_pair next pair = pair_position next pair + 1

-- the `next` of the pair after all of these
unfoldable pub after_pairs : ℕ → List Pair → ℕ
after_pairs next [] = next
after_pairs next (pair ∷ pairs) = after_pairs (after_pair next pair) pairs
