-- The first fields of a macroblock (document 01, kind 4, and refusals 6, 10, 12 and 13).
use Rattle.std.specs.Prelude.{Bool, true, cond, ◌&&◌, ◌||◌, ℕ, ◌+◌, leb, eqb}
use Rattle.refusals.specs.declared.Refusal.TheVariants.{MacroblockType, AddressIncrement}
use Rattle.symbols.specs.Guard.{require◌else◌then◌}
use Rattle.symbols.specs.Parsed.{Parser, ◌then◌, give, refuse, optional◌default◌read◌}
use Rattle.symbols.specs.Header.{type_i, type_b}
use Rattle.symbols.specs.declared.macroblock.MacroblockHead.{MacroblockHead}
use Rattle.symbols.specs.MacroblockType.{has_scale, legal_type}
use Rattle.format3_records.specs.Field.{byte, two_bytes}
use Rattle.format3_macroblock.specs.declared.macroblock_head.HeadContext.{HeadContext}
use Rattle.format3_macroblock.specs.Slice.{scale_of}

-- whether the increment must be 1: "not 1 first in a slice, or above 1 in I or after intra in B"
abbrev pub must_follow : HeadContext → Bool
must_follow c = c.first || eqb c.coding_type type_i || (eqb c.coding_type type_b && c.intra)

-- none of "increment 0, past the last address, not 1 first in a slice, or above 1 in I or after intra in B"
-- (the macroblock's own address is next + increment - 1)
unfoldable pub legal_increment : HeadContext → ℕ → Bool
legal_increment c increment =
    leb 1 increment && leb (c.next + increment) c.macroblocks && cond (must_follow c) (leb increment 1) true

-- the scale, 0 if the type has none
abbrev pub given_scale_of : ℕ → Parser ℕ
given_scale_of type = optional has_scale type default 0 read scale_of

-- "type byte, 2-byte address increment, then as the type says: scale", each tested when read
unfoldable pub head_of : HeadContext → Parser MacroblockHead
head_of c =
    byte then λ type.
    require legal_type c.coding_type type else refuse MacroblockType then
    two_bytes then λ increment.
    require legal_increment c increment else refuse AddressIncrement then
    given_scale_of type then λ scale.
    give (record { macroblock_type = type; increment = increment; scale = scale })
