-- Checks the word lists for slips in transcription: no word is a prefix of another, and the gaps listed below are gaps.
-- A gap is a word that begins no code, although all of it but its last bit does.
use Rattle.std.specs.Prelude.{Bool, true, false, not, ◌&&◌, List, [], ◌∷◌, ℕ, ◌-◌, ◌/◌, Result, Ok, Err}
use Rattle.mpeg1_tables.specs.declared.code.Code.{Code}
use Rattle.mpeg1_tables.specs.declared.code.CodeError.{CodeError}
use Rattle.mpeg1_tables.specs.declared.code.CodeError.TheVariants.{NoCode, Truncated}
use Rattle.mpeg1_tables.specs.Code.{Word, digits_of, is_prefix, code_of}
use Rattle.mpeg1_tables.specs.AnnexB.{increments, increments_after_escape, intra_types, predicted_types, bidirectional_types, patterns, motion_codes, luminance_sizes, chrominance_sizes, first_coefficients, next_coefficients, large_positive, large_negative}

-- whether neither these bits nor any word is a prefix of the other
unfoldable pub apart_from : List ℕ → List Word → Bool
apart_from a [] = true
apart_from a (w ∷ words) = (not (is_prefix a w.bits) && not (is_prefix w.bits a)) && apart_from a words

-- whether no word is a prefix of another
unfoldable pub prefix_free : List Word → Bool
prefix_free [] = true
prefix_free (w ∷ words) = apart_from w.bits words && prefix_free words

abbrev pub is_no_code : Result Code CodeError → Bool
is_no_code (Ok code) = false
is_no_code (Err NoCode) = true
is_no_code (Err Truncated) = false

abbrev pub is_truncated : Result Code CodeError → Bool
is_truncated (Ok code) = false
is_truncated (Err NoCode) = false
is_truncated (Err Truncated) = true

-- a gap, by its length and its digits
pub record LeftOut : Type 0 where
  pub long : ℕ
  pub digits : ℕ

abbrev pub out : ℕ → ℕ → LeftOut
out n d = record { long = n; digits = d }

-- whether each gap begins no code, and does so only with its last bit
unfoldable pub begin_no_code : List Word → List LeftOut → Bool
begin_no_code words [] = true
begin_no_code words (o ∷ outs) = (is_no_code (code_of words (digits_of o.long o.digits)) && is_truncated (code_of words (digits_of (o.long - 1) (o.digits / 10)))) && begin_no_code words outs

pub record Rule : Type 0 where
  pub words : List Word
  pub outs : List LeftOut

abbrev pub rule : List Word → List LeftOut → Rule
rule w o = record { words = w; outs = o }

abbrev pub rules : List Rule
rules =
    rule increments (out 8 00000000 ∷ out 8 00000010 ∷ out 10 0000000101 ∷ out 10 0000000110 ∷ out 11 00000001001 ∷ out 11 00000001110 ∷ [])
    ∷ rule increments_after_escape (out 8 00000000 ∷ out 8 00000010 ∷ out 9 000000011 ∷ out 10 0000000101 ∷ out 11 00000001001 ∷ [])
    ∷ rule intra_types (out 2 00 ∷ [])
    ∷ rule predicted_types (out 6 000000 ∷ [])
    ∷ rule bidirectional_types (out 6 000000 ∷ [])
    ∷ rule patterns (out 8 00000000 ∷ [])
    ∷ rule motion_codes (out 7 0000000 ∷ out 8 00000010 ∷ [])
    ∷ rule luminance_sizes (out 7 1111111 ∷ [])
    ∷ rule chrominance_sizes (out 8 11111111 ∷ [])
    ∷ rule first_coefficients (out 12 000000000000 ∷ [])
    ∷ rule next_coefficients (out 12 000000000000 ∷ [])
    ∷ rule large_positive (out 1 0 ∷ [])
    ∷ rule large_negative (out 8 00000000 ∷ out 2 11 ∷ out 3 101 ∷ out 4 1001 ∷ out 5 10001 ∷ out 6 100001 ∷ out 7 1000001 ∷ out 8 10000001 ∷ [])
    ∷ []

unfoldable pub all_hold : List Rule → Bool
all_hold [] = true
all_hold (r ∷ rs) = (prefix_free r.words && begin_no_code r.words r.outs) && all_hold rs
