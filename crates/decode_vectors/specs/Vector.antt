-- Motion vectors from their codes, and the vectors for use (document 01, "Vectors and prediction"; ISO/IEC 11172-2, 2.4.4.2).
use Rattle.std.specs.Prelude.{Bool, cond, ◌&&◌, ℕ, ◌-◌, ◌*◌, ◌^◌, ◌%◌, eqb, ltb, leb, ℤ, pos, neg_ℤ, nat_abs, ◌+ℤ◌, ◌-ℤ◌, ◌*ℤ◌}
use Rattle.std.specs.Int.Signed.{lt_z, quot_z, shr_z}
use Rattle.math.specs.Limit.{in_range, sign_of, eq_z}
use Rattle.refusals.specs.Refusal.{accepted, number_of}
use Rattle.refusals.specs.declared.Refusal.TheVariants.{NumberOutOfRange}

-- "With f = 2^(f_code - 1)"
abbrev pub f_of : ℕ → ℕ
f_of f_code = 2 ^ (f_code - 1)

-- the greatest f, that of f_code 7; the greatest absolute value of a past; and that of a vector for use, which may be doubled
abbrev pub max_f : ℕ
max_f = 2 ^ 6

abbrev pub max_past : ℕ
max_past = 16 * max_f

abbrev pub max_vector : ℕ
max_vector = 2 * max_past

-- "0 for code 0, else (|code| - 1) × f + residual + 1 with the code's sign"
unfoldable pub vector_difference_of : ℤ → ℤ → ℤ → ℤ
vector_difference_of f code residual = sign_of code *ℤ ((pos (nat_abs code) -ℤ pos 1) *ℤ f +ℤ residual +ℤ pos 1)

-- the ends of the range -16f..16f-1
abbrev pub lowest : ℤ → ℤ
lowest f = pos 0 -ℤ pos 16 *ℤ f

abbrev pub highest : ℤ → ℤ
highest f = pos 16 *ℤ f -ℤ pos 1

-- "a sum outside -16f..16f-1 moves by 32f back inside"
unfoldable pub wrapped : ℤ → ℤ → ℤ
wrapped f sum = cond (lt_z sum (lowest f)) (sum +ℤ pos 32 *ℤ f) (cond (lt_z (highest f) sum) (sum -ℤ pos 32 *ℤ f) sum)

-- "It is added to the past": the past is the vector predictor, and keeps this number
unfoldable pub vector_of : ℕ → ℤ → ℤ → ℕ → ℤ
vector_of f past code residual = wrapped (pos f) (past +ℤ vector_difference_of (pos f) code (pos residual))

-- "a code is -16..16"
unfoldable pub code_in_range : ℤ → Bool
code_in_range code = in_range (neg_ℤ (pos 16)) (pos 16) code

-- "its residual is below f, and 0 when the code is 0"
unfoldable pub residual_in_range : ℕ → ℤ → ℕ → Bool
residual_in_range f code residual = cond (eq_z code (pos 0)) (eqb residual 0) (ltb residual f)

-- whether a past, or a vector that is to be the next past, is in -16f..16f-1
unfoldable pub past_in_range : ℕ → ℤ → Bool
past_in_range f past = in_range (lowest (pos f)) (highest (pos f)) past

-- whether the f_code is 1..7 and the past in the range of its f
unfoldable pub f_code_and_past_in_range : ℕ → ℤ → Bool
f_code_and_past_in_range f_code past = leb 1 f_code && leb f_code 7 && past_in_range (f_of f_code) past

-- the ranges that the vector entry accepts
unfoldable pub vector_entry_in_range : ℕ → ℤ → ℤ → ℕ → Bool
vector_entry_in_range f_code past code residual =
    f_code_and_past_in_range f_code past && code_in_range code && residual_in_range (f_of f_code) code residual

-- the vector entry's answer: a number out of range is refused, and the vector is then 0
abbrev pub vector_number : ℕ → ℤ → ℤ → ℕ → ℕ
vector_number f_code past code residual = cond (vector_entry_in_range f_code past code residual) accepted (number_of NumberOutOfRange)

abbrev pub vector_value : ℕ → ℤ → ℤ → ℕ → ℤ
vector_value f_code past code residual = cond (vector_entry_in_range f_code past code residual) (vector_of (f_of f_code) past code residual) (pos 0)

-- "the full-pel flag doubles it afterwards for use"
abbrev pub used_vector : Bool → ℤ → ℤ
used_vector full_pel vector = cond full_pel (pos 2 *ℤ vector) vector

-- "Vectors count half pels. Luma takes the floor of half and the odd bit."
abbrev pub whole_pels : ℤ → ℤ
whole_pels vector = shr_z vector 2

abbrev pub odd_bit : ℤ → ℕ
odd_bit vector = nat_abs vector % 2

-- "Chroma first halves towards zero, then does the same."
abbrev pub chroma_vector : ℤ → ℤ
chroma_vector vector = quot_z vector (pos 2)
