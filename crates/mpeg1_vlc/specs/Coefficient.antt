-- A coefficient read from bits: "a coefficient's sign belongs to its code", and "an escape with its run and level is one".
use Rattle.std.specs.Prelude.{Bool, false, cond, List, ℕ, ◌+◌, ◌/◌, ◌%◌, ◌^◌, eqb, ltb, leb, pos, ◌-ℤ◌, Result, Ok}
use Rattle.mpeg1_bits.specs.declared.Window.{Window}
use Rattle.mpeg1_tables.specs.declared.code.CodeError.{CodeError}
use Rattle.mpeg1_tables.specs.Code.{Word, code_of, field_of, after_code}
use Rattle.mpeg1_tables.specs.AnnexB.{end_of_block, coefficient_escape, first_coefficients, next_coefficients, large_positive, large_negative}
use Rattle.mpeg1_vlc.specs.declared.coefficient.Coefficient.{Coefficient}
use Rattle.mpeg1_vlc.specs.declared.coefficient.Coefficient.TheVariants.{Pair, EndOfBlock}

-- a coefficient, or why there is none
abbrev pub CoefficientRead : Type 0
CoefficientRead = Result Coefficient CodeError

-- the sign after a word of n bits with run and level: "a sign bit (0 positive, 1 negative)"
unfoldable pub signed_of : ℕ → ℕ → List ℕ → CoefficientRead
signed_of value n b = after_code (field_of 1 b) b λ sign m rest. Ok (Pair (value / 64) (cond (eqb sign 0) (pos (value % 64)) (pos 0 -ℤ pos (value % 64))) (n + m))

-- a large level from its second eight bits, which are coded with `less` added
unfoldable pub large_of : List Word → ℕ → ℕ → ℕ → List ℕ → CoefficientRead
large_of words less run n b = after_code (code_of words b) b λ v m rest. Ok (Pair run (pos v -ℤ pos less) (n + m))

-- "8 bits two's complement for -127..-1 and 1..127; 00000000 and 8 bits for 128..255; 10000000 and 8 bits (level + 256) for -255..-128"
unfoldable pub level_of : ℕ → ℕ → List ℕ → CoefficientRead
level_of run n b =
    after_code (field_of 8 b) b λ x m rest.
    cond (eqb x 0) (large_of large_positive 0 run (n + m) rest)
    (cond (eqb x 128) (large_of large_negative 256 run (n + m) rest)
    (Ok (Pair run (cond (ltb x 128) (pos x) (pos x -ℤ pos 256)) (n + m))))

-- after an escape of n bits: "run in 6 bits, level"
unfoldable pub escaped_of : ℕ → List ℕ → CoefficientRead
escaped_of n b = after_code (field_of 6 b) b λ run m rest. level_of run (n + m) rest

-- what follows a word of n bits: nothing for an end of block, run and level for an escape, else a sign
unfoldable pub finished_of : ℕ → ℕ → List ℕ → CoefficientRead
finished_of value n b =
    cond (eqb value end_of_block) (Ok (EndOfBlock n))
    (cond (eqb value coefficient_escape) (escaped_of n b) (signed_of value n b))

-- the words for a block's first coefficient, or for a later one. An intra block starts with its DC, so all its pairs are later ones
unfoldable pub words_of : Bool → List Word
words_of first = cond first first_coefficients next_coefficients

-- a coefficient's whole code; equal to reading one list of all codes (`first-listed`, `next-listed`)
unfoldable pub coefficient_code_of : List Word → List ℕ → CoefficientRead
coefficient_code_of words b = after_code (code_of words b) b finished_of

-- whether the next bit is the 1 that forms a whole word: only a block's first coefficient has it
unfoldable pub is_one_alone : Bool → Window → Bool
is_one_alone first next = cond first (cond (eqb next.count 0) false (leb (2 ^ 31) next.bits)) false
