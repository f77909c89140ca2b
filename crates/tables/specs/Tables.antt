-- The constant tables: cosines (document 01, "Inverse transform"), zigzag order, default matrices (ISO/IEC 11172-2, 2.4.3.2 and 2.4.4.1).
use Rattle.std.specs.Prelude.{cond, List, [], ◌∷◌, ◌++◌, ℕ, suc, eqb, ℤ, pos, replicate}
use Rattle.math.specs.Tab.{tab}

-- "One table stands for cos(i × pi / 16), i from 1 to 7, times 2^20"
abbrev pub cosines : List ℤ
cosines = pos 1028428 ∷ pos 968758 ∷ pos 871859 ∷ pos 741455 ∷ pos 582558 ∷ pos 401273 ∷ pos 204567 ∷ []

-- one row of a table of eight by eight
abbrev eight_numbers : ℕ → ℕ → ℕ → ℕ → ℕ → ℕ → ℕ → ℕ → List ℕ
eight_numbers a b c d e f g h = a ∷ b ∷ c ∷ d ∷ e ∷ f ∷ g ∷ h ∷ []

-- the standard's scan: for each raster index (row by row), its position in zigzag order
unfoldable pub scan : List ℕ
scan =
    eight_numbers 0 1 5 6 14 15 27 28
    ++ eight_numbers 2 4 7 13 16 26 29 42
    ++ eight_numbers 3 8 12 17 25 30 41 43
    ++ eight_numbers 9 11 18 24 31 40 44 53
    ++ eight_numbers 10 19 23 32 39 45 52 54
    ++ eight_numbers 20 22 33 38 46 51 55 60
    ++ eight_numbers 21 34 37 47 50 56 59 61
    ++ eight_numbers 35 36 48 49 57 58 62 63

-- the index of the first x in a list
unfoldable pub index_of : ℕ → List ℕ → ℕ
index_of x [] = 0
index_of x (y ∷ l) = cond (eqb x y) 0 (suc (index_of x l))

-- the zigzag order, the scan inverted: for each position, its raster index
unfoldable pub zigzag : List ℕ
zigzag = tab 64 (λ k. index_of k scan)

-- "the standard's default" for intra macroblocks, row by row
unfoldable pub default_intra : List ℕ
default_intra =
    eight_numbers 8 16 19 22 26 27 29 34
    ++ eight_numbers 16 16 22 24 27 29 34 37
    ++ eight_numbers 19 22 26 27 29 34 34 38
    ++ eight_numbers 22 22 26 27 29 34 37 40
    ++ eight_numbers 22 26 27 29 32 35 40 48
    ++ eight_numbers 26 27 29 32 35 40 48 58
    ++ eight_numbers 26 27 29 34 38 46 56 69
    ++ eight_numbers 27 29 35 38 46 56 69 83

-- the default for non-intra macroblocks: every weight 16
unfoldable pub default_non_intra : List ℕ
default_non_intra = replicate 64 16
