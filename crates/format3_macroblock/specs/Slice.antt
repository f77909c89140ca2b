-- A slice's record, kind 3 (document 01, and refusals 6 and 10).
use Rattle.std.specs.Prelude.{Bool, ◌&&◌, ℕ, leb, eqb, length, Result, Ok, Err}
use Rattle.refusals.specs.declared.Refusal.{Refusal}
use Rattle.refusals.specs.declared.Refusal.TheVariants.{BodyLength, QuantizerScale}
use Rattle.symbols.specs.Guard.{require◌else◌then◌}
use Rattle.symbols.specs.Parsed.{Parsed, Parser, parsed, refused, ◌then◌, give, refuse}
use Rattle.symbols.specs.declared.slice.SliceHeader.{SliceHeader}
use Rattle.format3_records.specs.Field.{byte, two_bytes}

-- "quantizer scale 1..31"
abbrev pub legal_scale : ℕ → Bool
legal_scale scale = leb 1 scale && leb scale 31

unfoldable pub scale_of : Parser ℕ
scale_of =
    byte then λ scale.
    require legal_scale scale else refuse QuantizerScale then
    give scale

-- "quantizer scale 1..31, 2-byte start address"
unfoldable pub slice_fields_of : Parser SliceHeader
slice_fields_of =
    scale_of then λ scale.
    two_bytes then λ start.
    give (record { scale = scale; start = start })

-- "Kind 3, slice, 3 bytes"
unfoldable pub slice_of : Parser SliceHeader
slice_of body =
    require eqb (length body) 3 else refused BodyLength then
    slice_fields_of body

-- ---- what the reader answers
abbrev pub slice_answer : Parsed SliceHeader → Result SliceHeader Refusal
slice_answer (parsed slice rest) = Ok slice
slice_answer (refused refusal) = Err refusal
