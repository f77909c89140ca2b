-- A header's record, kind 1 (document 01, and refusals 6 and 8).
use Rattle.std.specs.Prelude.{List, ℕ, eqb, length, get_or, Result, Err}
use Rattle.refusals.specs.declared.Refusal.{Refusal}
use Rattle.symbols.specs.declared.header.HeaderFields.{HeaderFields}
use Rattle.symbols.specs.declared.header.Header.{Header}
use Rattle.symbols.specs.Guard.{require◌else◌then◌}
use Rattle.symbols.specs.Header.{header_with}

-- the fields of the body, one byte each, in this order
abbrev pub fields_of : List ℕ → HeaderFields
fields_of body = record {
  width = get_or body 0 0;
  height = get_or body 1 0;
  coding_type = get_or body 2 0;
  full_pel_forward = get_or body 3 0;
  forward_f_code = get_or body 4 0;
  full_pel_backward = get_or body 5 0;
  backward_f_code = get_or body 6 0;
}

-- "Kind 1, header, 7 bytes": first the length (6), then the fields (8)
unfoldable pub header_of : List ℕ → Result Header Refusal
header_of body =
    require eqb (length body) 7 else Err Refusal.BodyLength then
    header_with (fields_of body)
