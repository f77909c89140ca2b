-- The order of records: which kind may come next (document 01, refusal 5).
use Rattle.std.specs.Prelude.{Bool, false, cond, ◌||◌, ℕ, eqb}
use Rattle.format3_records.specs.declared.turn.Turn.{Turn}
use Rattle.format3_records.specs.declared.turn.Turn.TheVariants.{Start, Header, Slice, Macroblock, Complete}
use Rattle.format3_records.specs.Record.{header_kind, matrix_kind, slice_kind, macroblock_kind}

-- the table of turns
abbrev pub in_turn : Turn → ℕ → Bool
-- "kind 1 is first and only first"
in_turn Start kind = eqb kind header_kind
-- "kind 2 before any slice"; the first slice
in_turn Header kind = eqb kind matrix_kind || eqb kind slice_kind
-- "a slice needs a macroblock since the last one"; "a macroblock needs a slice"
in_turn Slice kind = eqb kind macroblock_kind
in_turn Macroblock kind = eqb kind slice_kind || eqb kind macroblock_kind
-- "nothing follows the last macroblock"
in_turn Complete kind = false

-- the turn after a record of this kind, given whether every macroblock is made
abbrev pub turn_after : ℕ → Bool → Turn
turn_after kind complete = cond (eqb kind slice_kind) Slice (cond (eqb kind macroblock_kind) (cond complete Complete Macroblock) Header)
