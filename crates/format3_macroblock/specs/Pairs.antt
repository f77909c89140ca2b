-- The pairs of a block (document 01, kind 4, and refusals 6 and 16).
use Rattle.std.specs.Prelude.{Bool, not, ◌&&◌, List, [], ◌∷◌, ℕ, zero, suc, ◌+◌, leb, ℤ, pos, negsuc}
use Rattle.math.specs.Limit.{in_range, eq_z}
use Rattle.refusals.specs.declared.Refusal.TheVariants.{Coefficient}
use Rattle.symbols.specs.Guard.{require◌else◌then◌}
use Rattle.symbols.specs.Parsed.{Parsed, parsed, refused, Parser, ◌then◌, give, refuse}
use Rattle.symbols.specs.declared.pair.Pair.{Pair}
use Rattle.symbols.specs.Pair.{last_position, after_pair}
use Rattle.format3_records.specs.Field.{byte, signed_two_bytes}

-- "Levels are -255..-1 and 1..255"
unfoldable pub legal_level : ℤ → Bool
legal_level level = in_range (negsuc 254) (pos 255) level && not (eq_z level (pos 0))

-- "each a run byte and a 2-byte level": a run of 0 lands at `next`; a position past the last is refused (16) before the level is read
unfoldable pub pair_of : ℕ → Parser Pair
pair_of next =
    byte then λ run.
    require leb (next + run) last_position else refuse Coefficient then
    signed_two_bytes then λ level.
    require legal_level level else refuse Coefficient then
    give (record { run = run; level = level })

-- n pairs, the first of which lands at its run counted from position `next`
unfoldable pub pairs_of : ℕ → ℕ → Parser (List Pair)
pairs_of zero next = give []
pairs_of (suc n) next =
    pair_of next then λ pair.
    pairs_of n (after_pair next pair) then λ pairs.
    give (pair ∷ pairs)

-- a pair and those after it, or none if it is refused
abbrev pub followed_by : Parsed Pair → (Pair → List ℕ → List Pair) → List Pair
followed_by (parsed pair rest) more = pair ∷ more pair rest
followed_by (refused refusal) more = []

-- of n pairs, those before the first one that is refused, or all of them
unfoldable pub pairs_before_refusal : ℕ → ℕ → List ℕ → List Pair
pairs_before_refusal zero next bytes = []
pairs_before_refusal (suc n) next bytes = followed_by (pair_of next bytes) (λ pair rest. pairs_before_refusal n (after_pair next pair) rest)
