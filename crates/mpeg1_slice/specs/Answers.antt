-- How each reader's return value follows from what the definitions read.
use Rattle.std.specs.Prelude.{◌+◌, ◌<◌, Result, Ok, Err}
use Rattle.symbols.specs.Parsed.{parsed, refused}
use Rattle.symbols.specs.declared.vector_codes.VectorCode.{VectorCode}
use Rattle.mpeg1_bits.specs.Bits.{bit_offset, bit_limit}
use Rattle.mpeg1_bits.specs.declared.BitPosition.{BitPosition}
use Rattle.mpeg1_tables.specs.declared.code.Code.{Code}
use Rattle.mpeg1_tables.specs.declared.code.CodeError.{CodeError}
use Rattle.mpeg1_slice.specs.declared.refused.RefusedAt.{RefusedAt}
use Rattle.mpeg1_slice.specs.declared.vectors.Component.{Component}
use Rattle.mpeg1_slice.specs.Read.{Read}

-- what `made` makes of a value that is read and of the position after it
abbrev pub answer_with : {A B : Type 0} → (A → BitPosition → B) → Read A → Result B RefusedAt
answer_with made (parsed a at) = Ok (made a at)
answer_with made (refused reason) = Err reason

-- the value and the position after it
abbrev pub answer : {A : Type 0} → Read A → Result (A × BitPosition) RefusedAt
answer = answer_with λ a at. (a, at)

-- only the position after what is read
abbrev pub end_answer : {A : Type 0} → Read A → Result BitPosition RefusedAt
end_answer = answer_with λ a at. at

abbrev pub component_of : VectorCode → Component
component_of c = record { code = c.code; residual = c.residual }

abbrev pub component_answer : Read VectorCode → Result (Component × BitPosition) RefusedAt
component_answer = answer_with λ component at. (component_of component, at)

-- the code has fewer than 64 bits and ends at a valid bit offset
abbrev pub CodeFits : BitPosition → Result Code CodeError → Type 0
CodeFits at (Ok code) = (code.length < 64) × (bit_offset at + code.length < bit_limit)
CodeFits at (Err error) = Unit {0}
