-- The header of a picture, and which of its numbers are legal (document 01, kind 1, and refusal 8).
use Rattle.std.specs.Prelude.{Bool, true, false, ◌&&◌, ℕ, leb, eqb, Result, Ok, Err}
use Rattle.refusals.specs.declared.Refusal.{Refusal}
use Rattle.symbols.specs.declared.header.HeaderFields.{HeaderFields}
use Rattle.symbols.specs.declared.header.VectorCoding.{VectorCoding}
use Rattle.symbols.specs.declared.header.Header.{Header}
use Rattle.symbols.specs.Guard.{require◌else◌then◌}
use Rattle.symbols.specs.Size.{legal_size}

-- "type (1 I, 2 P, 3 B)"
abbrev pub type_i : ℕ
type_i = 1

abbrev pub type_p : ℕ
type_p = 2

abbrev pub type_b : ℕ
type_b = 3

-- "where the type uses that direction (P forward, B both)"
abbrev pub uses_forward : ℕ → Bool
uses_forward type = leb type_p type

abbrev pub uses_backward : ℕ → Bool
uses_backward type = leb type_b type

-- "full-pel forward flag (0 or 1)";
-- "An f_code is 1..7 where the type uses that direction (P forward, B both); where it doesn't, flag and f_code are 0"
abbrev pub legal_coding : Bool → ℕ → ℕ → Bool
legal_coding true flag code = leb flag 1 && leb 1 code && leb code 7
legal_coding false flag code = eqb flag 0 && eqb code 0

unfoldable pub legal_codings : HeaderFields → Bool
legal_codings f =
    leb type_i f.coding_type && leb f.coding_type type_b
    && legal_coding (uses_forward f.coding_type) f.full_pel_forward f.forward_f_code
    && legal_coding (uses_backward f.coding_type) f.full_pel_backward f.backward_f_code

-- whether the numbers of a header are legal
unfoldable pub legal_header : HeaderFields → Bool
legal_header f = legal_size f.width f.height && legal_codings f

abbrev pub vector_coding_of : ℕ → ℕ → VectorCoding
vector_coding_of flag code = record { full_pel = eqb flag 1; f_code = code }

abbrev pub header_value : HeaderFields → Header
header_value f = record {
  size = record { width = f.width; height = f.height };
  coding_type = f.coding_type;
  forward = vector_coding_of f.full_pel_forward f.forward_f_code;
  backward = vector_coding_of f.full_pel_backward f.backward_f_code;
}

unfoldable pub header_with : HeaderFields → Result Header Refusal
header_with f = require legal_header f else Err Refusal.Header then Ok (header_value f)
