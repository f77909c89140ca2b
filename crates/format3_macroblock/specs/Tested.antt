-- A byte that is tested as it is read.
use Rattle.std.specs.Prelude.{◌&&◌, ℕ, leb}
use Rattle.refusals.specs.declared.Refusal.{Refusal}
use Rattle.symbols.specs.Guard.{require◌else◌then◌}
use Rattle.symbols.specs.Parsed.{Parser, ◌then◌, give, refuse}
use Rattle.format3_records.specs.Field.{byte}

-- a byte in least..most
abbrev pub byte_in : ℕ → ℕ → Refusal → Parser ℕ
byte_in least most refusal =
    byte then λ n.
    require leb least n && leb n most else refuse refusal then
    give n
