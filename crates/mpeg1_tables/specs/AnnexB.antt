-- Annex B of ISO/IEC 11172-2, as published and in its order: each word by its length, its digits and its value.
use Rattle.std.specs.Prelude.{cond, List, [], ◌∷◌, ◌++◌, ℕ, ◌+◌, ◌*◌, ◌-◌, eqb}
use Rattle.math.specs.Tab.{tab}
use Rattle.mpeg1_bits.specs.Bits.{bits_of}
use Rattle.mpeg1_tables.specs.Code.{Word, word}

-- B.1's values: increments are 1 to 33; these two numbers stand for stuffing and escape
abbrev pub stuffing : ℕ
stuffing = 34

abbrev pub increment_escape : ℕ
increment_escape = 35

-- B.1, macroblock_address_increment: the increments
unfoldable pub increment_words : List Word
increment_words =
    word 1 1 1
    ∷ word 3 011 2
    ∷ word 3 010 3
    ∷ word 4 0011 4
    ∷ word 4 0010 5
    ∷ word 5 00011 6
    ∷ word 5 00010 7
    ∷ word 7 0000111 8
    ∷ word 7 0000110 9
    ∷ word 8 00001011 10
    ∷ word 8 00001010 11
    ∷ word 8 00001001 12
    ∷ word 8 00001000 13
    ∷ word 8 00000111 14
    ∷ word 8 00000110 15
    ∷ word 10 0000010111 16
    ∷ word 10 0000010110 17
    ∷ word 10 0000010101 18
    ∷ word 10 0000010100 19
    ∷ word 10 0000010011 20
    ∷ word 10 0000010010 21
    ∷ word 11 00000100011 22
    ∷ word 11 00000100010 23
    ∷ word 11 00000100001 24
    ∷ word 11 00000100000 25
    ∷ word 11 00000011111 26
    ∷ word 11 00000011110 27
    ∷ word 11 00000011101 28
    ∷ word 11 00000011100 29
    ∷ word 11 00000011011 30
    ∷ word 11 00000011010 31
    ∷ word 11 00000011001 32
    ∷ word 11 00000011000 33
    ∷ []

-- B.1 with macroblock_stuffing and macroblock_escape
unfoldable pub increments : List Word
increments = increment_words ++ word 11 00000001111 stuffing ∷ word 11 00000001000 increment_escape ∷ []

-- B.1 after an escape: stuffing can only come first, so it is no code here
unfoldable pub increments_after_escape : List Word
increments_after_escape = increment_words ++ word 11 00000001000 increment_escape ∷ []

-- B.2's values are macroblock types in Format 3's form: a sum of 1 scale given, 2 forward, 4 backward, 8 pattern, 16 intra
-- B.2a, macroblock_type in I pictures
unfoldable pub intra_types : List Word
intra_types =
    word 1 1 16
    ∷ word 2 01 17
    ∷ []

-- B.2b, macroblock_type in P pictures
unfoldable pub predicted_types : List Word
predicted_types =
    word 1 1 10
    ∷ word 2 01 8
    ∷ word 3 001 2
    ∷ word 5 00011 16
    ∷ word 5 00010 11
    ∷ word 5 00001 9
    ∷ word 6 000001 17
    ∷ []

-- B.2c, macroblock_type in B pictures
unfoldable pub bidirectional_types : List Word
bidirectional_types =
    word 2 10 6
    ∷ word 2 11 14
    ∷ word 3 010 4
    ∷ word 3 011 12
    ∷ word 4 0010 2
    ∷ word 4 0011 10
    ∷ word 5 00011 16
    ∷ word 5 00010 15
    ∷ word 6 000011 11
    ∷ word 6 000010 13
    ∷ word 6 000001 17
    ∷ []

-- B.2 by the picture's type: 1 I, 2 P, 3 B
unfoldable pub types_of : ℕ → List Word
types_of t = cond (eqb t 1) intra_types (cond (eqb t 2) predicted_types bidirectional_types)

-- B.3, coded_block_pattern
unfoldable pub patterns : List Word
patterns =
    word 3 111 60
    ∷ word 4 1101 4
    ∷ word 4 1100 8
    ∷ word 4 1011 16
    ∷ word 4 1010 32
    ∷ word 5 10011 12
    ∷ word 5 10010 48
    ∷ word 5 10001 20
    ∷ word 5 10000 40
    ∷ word 5 01111 28
    ∷ word 5 01110 44
    ∷ word 5 01101 52
    ∷ word 5 01100 56
    ∷ word 5 01011 1
    ∷ word 5 01010 61
    ∷ word 5 01001 2
    ∷ word 5 01000 62
    ∷ word 6 001111 24
    ∷ word 6 001110 36
    ∷ word 6 001101 3
    ∷ word 6 001100 63
    ∷ word 7 0010111 5
    ∷ word 7 0010110 9
    ∷ word 7 0010101 17
    ∷ word 7 0010100 33
    ∷ word 7 0010011 6
    ∷ word 7 0010010 10
    ∷ word 7 0010001 18
    ∷ word 7 0010000 34
    ∷ word 8 00011111 7
    ∷ word 8 00011110 11
    ∷ word 8 00011101 19
    ∷ word 8 00011100 35
    ∷ word 8 00011011 13
    ∷ word 8 00011010 49
    ∷ word 8 00011001 21
    ∷ word 8 00011000 41
    ∷ word 8 00010111 14
    ∷ word 8 00010110 50
    ∷ word 8 00010101 22
    ∷ word 8 00010100 42
    ∷ word 8 00010011 15
    ∷ word 8 00010010 51
    ∷ word 8 00010001 23
    ∷ word 8 00010000 43
    ∷ word 8 00001111 25
    ∷ word 8 00001110 37
    ∷ word 8 00001101 26
    ∷ word 8 00001100 38
    ∷ word 8 00001011 29
    ∷ word 8 00001010 45
    ∷ word 8 00001001 53
    ∷ word 8 00001000 57
    ∷ word 8 00000111 30
    ∷ word 8 00000110 46
    ∷ word 8 00000101 54
    ∷ word 8 00000100 58
    ∷ word 9 000000111 31
    ∷ word 9 000000110 47
    ∷ word 9 000000101 55
    ∷ word 9 000000100 59
    ∷ word 9 000000011 27
    ∷ word 9 000000010 39
    ∷ []

-- B.4's values, -16 to 16, are stored with 16 added
abbrev pub negative_code : ℕ → ℕ
negative_code n = 16 - n

abbrev pub positive_code : ℕ → ℕ
positive_code n = 16 + n

-- B.4, motion_horizontal_forward_code and the other three
unfoldable pub motion_codes : List Word
motion_codes =
    word 11 00000011001 (negative_code 16)
    ∷ word 11 00000011011 (negative_code 15)
    ∷ word 11 00000011101 (negative_code 14)
    ∷ word 11 00000011111 (negative_code 13)
    ∷ word 11 00000100001 (negative_code 12)
    ∷ word 11 00000100011 (negative_code 11)
    ∷ word 10 0000010011 (negative_code 10)
    ∷ word 10 0000010101 (negative_code 9)
    ∷ word 10 0000010111 (negative_code 8)
    ∷ word 8 00000111 (negative_code 7)
    ∷ word 8 00001001 (negative_code 6)
    ∷ word 8 00001011 (negative_code 5)
    ∷ word 7 0000111 (negative_code 4)
    ∷ word 5 00011 (negative_code 3)
    ∷ word 4 0011 (negative_code 2)
    ∷ word 3 011 (negative_code 1)
    ∷ word 1 1 (positive_code 0)
    ∷ word 3 010 (positive_code 1)
    ∷ word 4 0010 (positive_code 2)
    ∷ word 5 00010 (positive_code 3)
    ∷ word 7 0000110 (positive_code 4)
    ∷ word 8 00001010 (positive_code 5)
    ∷ word 8 00001000 (positive_code 6)
    ∷ word 8 00000110 (positive_code 7)
    ∷ word 10 0000010110 (positive_code 8)
    ∷ word 10 0000010100 (positive_code 9)
    ∷ word 10 0000010010 (positive_code 10)
    ∷ word 11 00000100010 (positive_code 11)
    ∷ word 11 00000100000 (positive_code 12)
    ∷ word 11 00000011110 (positive_code 13)
    ∷ word 11 00000011100 (positive_code 14)
    ∷ word 11 00000011010 (positive_code 15)
    ∷ word 11 00000011000 (positive_code 16)
    ∷ []

-- B.5a, dct_dc_size_luminance
unfoldable pub luminance_sizes : List Word
luminance_sizes =
    word 3 100 0
    ∷ word 2 00 1
    ∷ word 2 01 2
    ∷ word 3 101 3
    ∷ word 3 110 4
    ∷ word 4 1110 5
    ∷ word 5 11110 6
    ∷ word 6 111110 7
    ∷ word 7 1111110 8
    ∷ []

-- B.5b, dct_dc_size_chrominance
unfoldable pub chrominance_sizes : List Word
chrominance_sizes =
    word 2 00 0
    ∷ word 2 01 1
    ∷ word 2 10 2
    ∷ word 3 110 3
    ∷ word 4 1110 4
    ∷ word 5 11110 5
    ∷ word 6 111110 6
    ∷ word 7 1111110 7
    ∷ word 8 11111110 8
    ∷ []

-- B.5c to B.5f: run and level as one number. No code has level 0, so two such numbers are free for end of block and escape.
abbrev pub pair : ℕ → ℕ → ℕ
pair run level = 64 * run + level

abbrev pub end_of_block : ℕ
end_of_block = pair 0 0

abbrev pub coefficient_escape : ℕ
coefficient_escape = pair 1 0

-- B.5c to B.5f, dct_coeff_first and dct_coeff_next, without signs: the words that both share
unfoldable pub shared_words : List Word
shared_words =
    word 3 011 (pair 1 1)
    ∷ word 4 0100 (pair 0 2)
    ∷ word 4 0101 (pair 2 1)
    ∷ word 5 00101 (pair 0 3)
    ∷ word 5 00111 (pair 3 1)
    ∷ word 5 00110 (pair 4 1)
    ∷ word 6 000110 (pair 1 2)
    ∷ word 6 000111 (pair 5 1)
    ∷ word 6 000101 (pair 6 1)
    ∷ word 6 000100 (pair 7 1)
    ∷ word 7 0000110 (pair 0 4)
    ∷ word 7 0000100 (pair 2 2)
    ∷ word 7 0000111 (pair 8 1)
    ∷ word 7 0000101 (pair 9 1)
    ∷ word 6 000001 coefficient_escape
    ∷ word 8 00100110 (pair 0 5)
    ∷ word 8 00100001 (pair 0 6)
    ∷ word 8 00100101 (pair 1 3)
    ∷ word 8 00100100 (pair 3 2)
    ∷ word 8 00100111 (pair 10 1)
    ∷ word 8 00100011 (pair 11 1)
    ∷ word 8 00100010 (pair 12 1)
    ∷ word 8 00100000 (pair 13 1)
    ∷ word 10 0000001010 (pair 0 7)
    ∷ word 10 0000001100 (pair 1 4)
    ∷ word 10 0000001011 (pair 2 3)
    ∷ word 10 0000001111 (pair 4 2)
    ∷ word 10 0000001001 (pair 5 2)
    ∷ word 10 0000001110 (pair 14 1)
    ∷ word 10 0000001101 (pair 15 1)
    ∷ word 10 0000001000 (pair 16 1)
    ∷ word 12 000000011101 (pair 0 8)
    ∷ word 12 000000011000 (pair 0 9)
    ∷ word 12 000000010011 (pair 0 10)
    ∷ word 12 000000010000 (pair 0 11)
    ∷ word 12 000000011011 (pair 1 5)
    ∷ word 12 000000010100 (pair 2 4)
    ∷ word 12 000000011100 (pair 3 3)
    ∷ word 12 000000010010 (pair 4 3)
    ∷ word 12 000000011110 (pair 6 2)
    ∷ word 12 000000010101 (pair 7 2)
    ∷ word 12 000000010001 (pair 8 2)
    ∷ word 12 000000011111 (pair 17 1)
    ∷ word 12 000000011010 (pair 18 1)
    ∷ word 12 000000011001 (pair 19 1)
    ∷ word 12 000000010111 (pair 20 1)
    ∷ word 12 000000010110 (pair 21 1)
    ∷ word 13 0000000011010 (pair 0 12)
    ∷ word 13 0000000011001 (pair 0 13)
    ∷ word 13 0000000011000 (pair 0 14)
    ∷ word 13 0000000010111 (pair 0 15)
    ∷ word 13 0000000010110 (pair 1 6)
    ∷ word 13 0000000010101 (pair 1 7)
    ∷ word 13 0000000010100 (pair 2 5)
    ∷ word 13 0000000010011 (pair 3 4)
    ∷ word 13 0000000010010 (pair 5 3)
    ∷ word 13 0000000010001 (pair 9 2)
    ∷ word 13 0000000010000 (pair 10 2)
    ∷ word 13 0000000011111 (pair 22 1)
    ∷ word 13 0000000011110 (pair 23 1)
    ∷ word 13 0000000011101 (pair 24 1)
    ∷ word 13 0000000011100 (pair 25 1)
    ∷ word 13 0000000011011 (pair 26 1)
    ∷ word 14 00000000011111 (pair 0 16)
    ∷ word 14 00000000011110 (pair 0 17)
    ∷ word 14 00000000011101 (pair 0 18)
    ∷ word 14 00000000011100 (pair 0 19)
    ∷ word 14 00000000011011 (pair 0 20)
    ∷ word 14 00000000011010 (pair 0 21)
    ∷ word 14 00000000011001 (pair 0 22)
    ∷ word 14 00000000011000 (pair 0 23)
    ∷ word 14 00000000010111 (pair 0 24)
    ∷ word 14 00000000010110 (pair 0 25)
    ∷ word 14 00000000010101 (pair 0 26)
    ∷ word 14 00000000010100 (pair 0 27)
    ∷ word 14 00000000010011 (pair 0 28)
    ∷ word 14 00000000010010 (pair 0 29)
    ∷ word 14 00000000010001 (pair 0 30)
    ∷ word 14 00000000010000 (pair 0 31)
    ∷ word 15 000000000011000 (pair 0 32)
    ∷ word 15 000000000010111 (pair 0 33)
    ∷ word 15 000000000010110 (pair 0 34)
    ∷ word 15 000000000010101 (pair 0 35)
    ∷ word 15 000000000010100 (pair 0 36)
    ∷ word 15 000000000010011 (pair 0 37)
    ∷ word 15 000000000010010 (pair 0 38)
    ∷ word 15 000000000010001 (pair 0 39)
    ∷ word 15 000000000010000 (pair 0 40)
    ∷ word 15 000000000011111 (pair 1 8)
    ∷ word 15 000000000011110 (pair 1 9)
    ∷ word 15 000000000011101 (pair 1 10)
    ∷ word 15 000000000011100 (pair 1 11)
    ∷ word 15 000000000011011 (pair 1 12)
    ∷ word 15 000000000011010 (pair 1 13)
    ∷ word 15 000000000011001 (pair 1 14)
    ∷ word 16 0000000000010011 (pair 1 15)
    ∷ word 16 0000000000010010 (pair 1 16)
    ∷ word 16 0000000000010001 (pair 1 17)
    ∷ word 16 0000000000010000 (pair 1 18)
    ∷ word 16 0000000000010100 (pair 6 3)
    ∷ word 16 0000000000011010 (pair 11 2)
    ∷ word 16 0000000000011001 (pair 12 2)
    ∷ word 16 0000000000011000 (pair 13 2)
    ∷ word 16 0000000000010111 (pair 14 2)
    ∷ word 16 0000000000010110 (pair 15 2)
    ∷ word 16 0000000000010101 (pair 16 2)
    ∷ word 16 0000000000011111 (pair 27 1)
    ∷ word 16 0000000000011110 (pair 28 1)
    ∷ word 16 0000000000011101 (pair 29 1)
    ∷ word 16 0000000000011100 (pair 30 1)
    ∷ word 16 0000000000011011 (pair 31 1)
    ∷ []

-- "In the first coefficient of a non-intra block run 0 level 1 is `1` (and there is no end of block)"
unfoldable pub first_coefficients : List Word
first_coefficients = word 1 1 (pair 0 1) ∷ shared_words

-- "in every later one it is `11` and `10` is end of block"
unfoldable pub next_coefficients : List Word
next_coefficients = word 2 10 end_of_block ∷ word 2 11 (pair 0 1) ∷ shared_words

-- n words of eight bits, counting up from `low`, each with its own number as value
unfoldable pub byte_words : ℕ → ℕ → List Word
byte_words low n = tab n (λ i. record { bits = bits_of 8 (low + i); value = low + i })

-- after an escape's 00000000, levels 128 to 255; after its 10000000, levels -255 to -128 with 256 added
unfoldable pub large_positive : List Word
large_positive = byte_words 128 128

unfoldable pub large_negative : List Word
large_negative = byte_words 1 128
