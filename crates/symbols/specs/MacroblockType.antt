-- A macroblock's type: the parts that it has, and which types are legal (document 01, kind 4, and refusal 12).
use Rattle.std.specs.Prelude.{Bool, false, cond, ◌||◌, List, [], ◌∷◌, ℕ, ◌/◌, ◌%◌, eqb}
use Rattle.symbols.specs.Header.{type_i, type_p}

-- "Type is a sum of 1 scale given, 2 forward, 4 backward, 8 pattern, 16 intra": the standard's macroblock_quant,
-- macroblock_motion_forward, macroblock_motion_backward, macroblock_pattern and macroblock_intra
abbrev pub scale_part : ℕ
scale_part = 1

abbrev pub forward_part : ℕ
forward_part = 2

abbrev pub backward_part : ℕ
backward_part = 4

abbrev pub pattern_part : ℕ
pattern_part = 8

abbrev pub intra_part : ℕ
intra_part = 16

-- whether a type has a part: whether the part is in the sum
abbrev pub has_part : ℕ → ℕ → Bool
has_part type part = eqb (type / part % 2) 1

abbrev pub has_scale : ℕ → Bool
has_scale type = has_part type scale_part

abbrev pub has_forward : ℕ → Bool
has_forward type = has_part type forward_part

abbrev pub has_backward : ℕ → Bool
has_backward type = has_part type backward_part

abbrev pub has_pattern : ℕ → Bool
has_pattern type = has_part type pattern_part

abbrev pub is_intra : ℕ → Bool
is_intra type = has_part type intra_part

-- whether a list contains a number
abbrev pub among : ℕ → List ℕ → Bool
among n [] = false
among n (m ∷ l) = eqb n m || among n l

-- "Legal types: I 16, 17. P 2, 8, 9, 10, 11, 16, 17. B 2, 4, 6, 10, 11, 12, 13, 14, 15, 16, 17."
abbrev pub types_of_i : List ℕ
types_of_i = 16 ∷ 17 ∷ []

abbrev pub types_of_p : List ℕ
types_of_p = 2 ∷ 8 ∷ 9 ∷ 10 ∷ 11 ∷ 16 ∷ 17 ∷ []

abbrev pub types_of_b : List ℕ
types_of_b = 2 ∷ 4 ∷ 6 ∷ 10 ∷ 11 ∷ 12 ∷ 13 ∷ 14 ∷ 15 ∷ 16 ∷ 17 ∷ []

unfoldable pub legal_type : ℕ → ℕ → Bool
legal_type coding type = among type (cond (eqb coding type_i) types_of_i (cond (eqb coding type_p) types_of_p types_of_b))
