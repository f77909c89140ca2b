-- Request No. 12, writing a vector: "The test-pattern desk has a past and a wanted vector and needs code and residual. Give them so that reading
-- returns the wanted vector. At most one pair can do so, except where wanted and past, both in range, differ by 16f; there two can, and the positive
-- code is given." "33 when no pair reaches the wanted vector, or past or f_code is out of range; both are then 0."
--
-- The contract of `encode_vector` is an equation for each of number, code and residual (`encoded_number`, `encoded_code`, `encoded_residual`, in
-- crates/encode_vectors/specs/Encoding.antt). Reading is what the vector entry does (`vector_number`, `vector_value`); the readers of files decode with
-- the same `vector_of`.
use Rattle.std.specs.Prelude.{true, false, ◌↔◌, ◌⊎◌, ◌≡◌, ℕ, ◌-◌, ◌*◌, ◌^◌, ◌≤◌, ℤ, pos, negsuc, nat_abs, ◌-ℤ◌}
use Rattle.refusals.specs.Refusal.{accepted, number_of}
use Rattle.refusals.specs.declared.Refusal.TheVariants.{VectorUnreachable}
use Rattle.decode_vectors.specs.Vector.{f_of, vector_difference_of, code_in_range, residual_in_range, past_in_range, f_code_and_past_in_range, vector_number, vector_value}
use Rattle.encode_vectors.specs.Encoding.{motion_code_of, residual_of, encoded_number, encoded_code, encoded_residual}

-- a pair of code and residual reaches the wanted vector from the past: reading accepts the pair, and gives the wanted vector
pub record Reaches (f_code : ℕ) (past wanted code : ℤ) (residual : ℕ) : Type 0 where
  pub legal : vector_number f_code past code residual ≡ accepted
  pub reads : vector_value f_code past code residual ≡ wanted

-- "Give them so that reading returns the wanted vector"
abbrev pub ReadsBack : Type 0
ReadsBack =
    (f_code : ℕ) (past wanted : ℤ) → encoded_number f_code past wanted ≡ accepted
    → Reaches f_code past wanted (encoded_code f_code past wanted) (encoded_residual f_code past wanted)

-- "where wanted and past, both in range, differ by 16f"
pub record DifferBy16f (f_code : ℕ) (past wanted : ℤ) : Type 0 where
  pub past-in-range : f_code_and_past_in_range f_code past ≡ true
  pub wanted-in-range : past_in_range (f_of f_code) wanted ≡ true
  pub apart : nat_abs (wanted -ℤ past) ≡ 16 * f_of f_code

-- "At most one pair can do so, except where" they differ by 16f: elsewhere a pair that reaches the wanted vector is the one that is given
abbrev pub OnlyPair : Type 0
OnlyPair =
    (f_code : ℕ) (past wanted code : ℤ) (residual : ℕ) → Reaches f_code past wanted code residual → ¬ DifferBy16f f_code past wanted
    → (code ≡ encoded_code f_code past wanted) × (residual ≡ encoded_residual f_code past wanted)

-- "there two can, and the positive code is given"
pub record TwoPairs (f_code : ℕ) (past wanted : ℤ) : Type 0 where
  pub positive : Reaches f_code past wanted (pos 16) (f_of f_code - 1)
  pub negative : Reaches f_code past wanted (negsuc 15) (f_of f_code - 1)
  pub no_other : (code : ℤ) (residual : ℕ) → Reaches f_code past wanted code residual
      → ((code ≡ pos 16) ⊎ (code ≡ negsuc 15)) × (residual ≡ f_of f_code - 1)
  pub given : (encoded_code f_code past wanted ≡ pos 16) × (encoded_residual f_code past wanted ≡ f_of f_code - 1)

abbrev pub ExactlyTwo : Type 0
ExactlyTwo = (f_code : ℕ) (past wanted : ℤ) → DifferBy16f f_code past wanted → TwoPairs f_code past wanted

-- no pair reaches the wanted vector
abbrev pub NoPairReaches : ℕ → ℤ → ℤ → Type 0
NoPairReaches f_code past wanted = (code : ℤ) (residual : ℕ) → ¬ Reaches f_code past wanted code residual

-- "33 when no pair reaches the wanted vector, or past or f_code is out of range": exactly then
abbrev pub ExactlyUnreachable : Type 0
ExactlyUnreachable =
    (f_code : ℕ) (past wanted : ℤ)
    → (encoded_number f_code past wanted ≡ number_of VectorUnreachable)
    ↔ ((f_code_and_past_in_range f_code past ≡ false) ⊎ NoPairReaches f_code past wanted)

-- "both are then 0"
abbrev pub ZerosWith33 : Type 0
ZerosWith33 =
    (f_code : ℕ) (past wanted : ℤ) → encoded_number f_code past wanted ≡ number_of VectorUnreachable
    → (encoded_code f_code past wanted ≡ pos 0) × (encoded_residual f_code past wanted ≡ 0)

-- the number is 0 or 33
abbrev pub ZeroOr33 : Type 0
ZeroOr33 =
    (f_code : ℕ) (past wanted : ℤ)
    → (encoded_number f_code past wanted ≡ accepted) ⊎ (encoded_number f_code past wanted ≡ number_of VectorUnreachable)

-- it is 0 exactly when the f_code, the past and the wanted vector are in range: so from a past in range every vector in range is reached
-- (`ReadsBack`)
abbrev pub AcceptedInRange : Type 0
AcceptedInRange =
    (f_code : ℕ) (past wanted : ℤ)
    → (encoded_number f_code past wanted ≡ accepted) ↔ ((f_code_and_past_in_range f_code past ≡ true) × (past_in_range (f_of f_code) wanted ≡ true))

-- one bijection between pairs and differences, for any f of at least 1: a legal pair has a difference of at most 16f, which has that pair; and such a
-- difference has a legal pair, which has that difference
pub record PairHasDifference (f : ℕ) (code : ℤ) (residual : ℕ) : Type 0 where
  pub most : nat_abs (vector_difference_of (pos f) code (pos residual)) ≤ 16 * f
  pub code-back : motion_code_of f (vector_difference_of (pos f) code (pos residual)) ≡ code
  pub residual-back : residual_of f (vector_difference_of (pos f) code (pos residual)) ≡ residual

pub record DifferenceHasPair (f : ℕ) (difference : ℤ) : Type 0 where
  pub code-legal : code_in_range (motion_code_of f difference) ≡ true
  pub residual-legal : residual_in_range f (motion_code_of f difference) (residual_of f difference) ≡ true
  pub back : vector_difference_of (pos f) (motion_code_of f difference) (pos (residual_of f difference)) ≡ difference

pub record PairsAndDifferences (f : ℕ) : Type 0 where
  pub pair : (code : ℤ) (residual : ℕ) → code_in_range code ≡ true → residual_in_range f code residual ≡ true
      → PairHasDifference f code residual
  pub difference : (difference : ℤ) → nat_abs difference ≤ 16 * f → DifferenceHasPair f difference

abbrev pub OneBijection : Type 0
OneBijection = (f : ℕ) → 1 ≤ f → PairsAndDifferences f

-- ---- worked: number, code and residual
pub record Encoded (f_code : ℕ) (past wanted : ℤ) (number : ℕ) (code : ℤ) (residual : ℕ) : Type 0 where
  pub number_is : encoded_number f_code past wanted ≡ number
  pub code_is : encoded_code f_code past wanted ≡ code
  pub residual-is : encoded_residual f_code past wanted ≡ residual

pub record WorkedVectors : Type 0 where
  -- the sum 16 is above the range, and moves by 32 back inside, to -16; the sum -1025 is below the range of f_code 7
  pub above-highest : Encoded 1 (pos 15) (negsuc 15) 0 (pos 1) 0
  pub below-lowest : Encoded 7 (negsuc 1023) (pos 1023) 0 (negsuc 0) 0
  pub same : Encoded 2 (pos 5) (pos 5) 0 (pos 0) 0
  pub with-residual : Encoded 3 (negsuc 6) (pos 3) 0 (pos 3) 1
  pub negative : Encoded 2 (pos 0) (negsuc 2) 0 (negsuc 1) 0
  -- wanted and past differ by 16f, either way
  pub sixteen-down : Encoded 2 (pos 0) (negsuc 31) 0 (pos 16) 1
  pub sixteen-up : Encoded 1 (negsuc 15) (pos 0) 0 (pos 16) 0
  -- a pair with code -16 reads as the same vector
  pub other-pair : Reaches 2 (pos 0) (negsuc 31) (negsuc 15) 1
  -- out of the range -16..15
  pub wanted-16 : Encoded 1 (pos 0) (pos 16) 33 (pos 0) 0
  -- 32f above the past: code 0 reads as the past itself
  pub wanted-32f-on : Encoded 1 (negsuc 15) (pos 16) 33 (pos 0) 0
  -- a past out of range, and f_codes
  pub past-16 : Encoded 1 (pos 16) (pos 0) 33 (pos 0) 0
  pub f-code-0 : Encoded 0 (pos 0) (pos 0) 33 (pos 0) 0
  pub f-code-8 : Encoded 8 (pos 0) (pos 0) 33 (pos 0) 0
  -- the extremes of the machine's numbers
  pub extremes : Encoded 7 (negsuc (2 ^ 31 - 1)) (pos (2 ^ 31 - 1)) 33 (pos 0) 0
