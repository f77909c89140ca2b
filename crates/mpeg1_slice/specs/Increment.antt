-- Reads an address increment: "Stuffing dropped (it begins a macroblock; after an escape it is no code), escapes add 33".
use Rattle.std.specs.Prelude.{cond, List, ℕ, zero, suc, ◌+◌, eqb, leb, length}
use Rattle.refusals.specs.declared.Refusal.TheVariants.{SliceCode, SliceCut}
use Rattle.symbols.specs.Guard.{require◌else◌then◌}
use Rattle.symbols.specs.Parsed.{◌then◌, give, refuse}
use Rattle.symbols.specs.Size.{max_macroblocks}
use Rattle.mpeg1_bits.specs.Bits.{bits_from}
use Rattle.mpeg1_tables.specs.AnnexB.{increments, increments_after_escape, stuffing, increment_escape}
use Rattle.mpeg1_slice.specs.Read.{stop, Reader, refuse_here, word_at}

-- the first code that isn't stuffing. n bounds the recursion: each code takes a bit, so with n above the bits left it never reaches zero
unfoldable pub after_stuffing : ℕ → List ℕ → Reader ℕ
after_stuffing zero bytes = refuse_here SliceCut
after_stuffing (suc n) bytes =
    word_at increments bytes then λ value.
    cond (eqb value stuffing) (after_stuffing n bytes) (give value)

-- the same, with a bound that is always enough
abbrev pub first_code_at : List ℕ → Reader ℕ
first_code_at bytes at = after_stuffing (1 + length (bits_from bytes at)) bytes at

-- "escapes add 33"
abbrev pub escape_increment : ℕ
escape_increment = 33

-- what a code adds to the increment: 33 for an escape, else its value
unfoldable pub amount_of : ℕ → ℕ
amount_of value = cond (eqb value increment_escape) escape_increment value

-- "24 .. a whole code that takes an increment past 396 (the 13th escape, or any increment after 12)"; `sum` is what the escapes so far add up to.
-- n bounds the recursion: sum + 33 × n is always 429, so it never reaches zero
unfoldable pub after_escape : ℕ → ℕ → List ℕ → Reader ℕ
after_escape zero sum bytes at = refuse_here SliceCode at
after_escape (suc n) sum bytes at =
    (word_at increments_after_escape bytes then λ value.
    require leb (sum + amount_of value) max_macroblocks else refuse (stop SliceCode at) then
    cond (eqb value increment_escape) (after_escape n (sum + escape_increment) bytes) (give (sum + value)))
    at

unfoldable pub increment_at : List ℕ → Reader ℕ
increment_at bytes =
    first_code_at bytes then λ value.
    cond (eqb value increment_escape) (after_escape 12 escape_increment bytes) (give value)
