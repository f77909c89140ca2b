-- The result of reading a part of a slice (request No. 2; the quotes below are from its readings in docs/DECISIONS.md, "Raw slices").
use Rattle.std.specs.Prelude.{List, ℕ, Result, Ok, Err}
use Rattle.refusals.specs.declared.Refusal.{Refusal}
use Rattle.refusals.specs.declared.Refusal.TheVariants.{SliceCode, SliceCut}
use Rattle.symbols.specs.Parsed.{parsed, refused}
use Rattle.symbols.specs.Parsed as Parsed
use Rattle.mpeg1_bits.specs.Bits.{bits_from, skip}
use Rattle.mpeg1_bits.specs.declared.BitPosition.{BitPosition}
use Rattle.mpeg1_tables.specs.declared.code.Code.{Code}
use Rattle.mpeg1_tables.specs.declared.code.CodeError.{CodeError}
use Rattle.mpeg1_tables.specs.declared.code.CodeError.TheVariants.{NoCode, Truncated}
use Rattle.mpeg1_tables.specs.Code.{Word, code_of, field_of}
use Rattle.mpeg1_slice.specs.declared.refused.RefusedAt.{RefusedAt}

-- a refusal, and the position where the refused code starts
abbrev pub stop : Refusal → BitPosition → RefusedAt
stop refusal at = record { refusal = refusal; at = at }

-- a value and the position after it, or a refusal
abbrev pub Read : Type 0 → Type 0
Read A = Parsed.Result BitPosition RefusedAt A

-- a parser: it reads from the position that it is given
abbrev pub Reader : Type 0 → Type 0
Reader A = BitPosition → Read A

-- refuses the code that starts here
abbrev pub refuse_here : {A : Type 0} → Refusal → Reader A
refuse_here refusal at = refused (stop refusal at)

-- "24 at the start of the refused code: with b all the bits left, no code of this place is a prefix of b and b is a prefix of none";
-- "25 where b is empty or a proper prefix of a code, before the first macroblock or with one begun"
abbrev pub refused_code : CodeError → BitPosition → RefusedAt
refused_code NoCode at = stop SliceCode at
refused_code Truncated at = stop SliceCut at

-- the code's value, or its refusal
abbrev pub read_code : Result Code CodeError → Reader ℕ
read_code (Ok code) at = parsed code.value (skip at code.length)
read_code (Err error) at = refused (refused_code error at)

-- "Every syntax element is a code of its own for the place": a word of a list, or an n-bit number
abbrev pub word_at : List Word → List ℕ → Reader ℕ
word_at words bytes at = read_code (code_of words (bits_from bytes at)) at

abbrev pub field_at : ℕ → List ℕ → Reader ℕ
field_at n bytes at = read_code (field_of n (bits_from bytes at)) at
