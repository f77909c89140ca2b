-- Reads a macroblock's blocks: "DC size and difference, first and next coefficients, escape with run and level as one code, end of block
-- (needed even after position 63)".
use Rattle.std.specs.Prelude.{Bool, false, cond, not, List, [], ◌∷◌, ℕ, zero, suc, ◌+◌, eqb, leb, ℤ, pos, Option, Some, None, Result, Ok, Err}
use Rattle.refusals.specs.declared.Refusal.TheVariants.{SliceCode, SliceCut}
use Rattle.symbols.specs.Guard.{require◌else◌then◌}
use Rattle.symbols.specs.Parsed.{parsed, refused, ◌then◌, give, optional◌default◌read◌}
use Rattle.symbols.specs.declared.pair.Pair.{Pair}
use Rattle.symbols.specs.Pair.{first_position, last_position, after_pair}
use Rattle.symbols.specs.Block.{Block, uncoded, coded}
use Rattle.symbols.specs.Pattern.{is_coded, is_luma}
use Rattle.mpeg1_bits.specs.Bits.{bits_from, skip}
use Rattle.mpeg1_tables.specs.declared.code.CodeError.{CodeError}
use Rattle.mpeg1_tables.specs.Code.{Word}
use Rattle.mpeg1_tables.specs.AnnexB.{luminance_sizes, chrominance_sizes}
use Rattle.mpeg1_vlc.specs.Difference.{dc_difference_of}
use Rattle.mpeg1_vlc.specs.Coefficient.{words_of, coefficient_code_of}
use Rattle.mpeg1_vlc.specs.declared.coefficient.Coefficient.{Coefficient}
use Rattle.mpeg1_slice.specs.Read.{Reader, refuse_here, refused_code, word_at, field_at}

-- the table for dct_dc_size: blocks 0 to 3 are luminance, 4 and 5 chrominance
unfoldable pub size_words : ℕ → List Word
size_words block = cond (is_luma block) luminance_sizes chrominance_sizes

-- "DC size and difference"; size 0 means difference 0, with no bits
unfoldable pub difference_at : ℕ → List ℕ → Reader ℤ
difference_at block bytes =
    word_at (size_words block) bytes then λ size.
    cond (eqb size 0) (give (pos 0))
    (field_at size bytes then λ value.
    give (dc_difference_of size value))

-- "24 .. a whole code that takes .. a coefficient past 63"; `next` is the position that a run of 0 would take
unfoldable pub next_pair_of : ℕ → Result Coefficient CodeError → Reader (Option Pair)
next_pair_of next (Ok (Coefficient.Pair run level n)) at = require leb (next + run) last_position else refuse_here SliceCode at then parsed (Some (record { run = run; level = level })) (skip at n)
next_pair_of next (Ok (Coefficient.EndOfBlock n)) at = parsed None (skip at n)
next_pair_of next (Err error) at = refused (refused_code error at)

-- what comes next in a block: a pair, or none at its end
abbrev pub next_pair_at : Bool → ℕ → List ℕ → Reader (Option Pair)
next_pair_at first next bytes at = next_pair_of next (coefficient_code_of (words_of first) (bits_from bytes at)) at

-- continue with a pair; stop at the end of the block
abbrev pub until_end : Option Pair → (Pair → Reader (List Pair)) → Reader (List Pair)
until_end (Some pair) more = more pair
until_end None more = give []

-- the pairs up to the end of the block. n bounds the recursion: positions grow, so with n + next at least 65 it never reaches zero
unfoldable pub pairs_from : ℕ → Bool → ℕ → List ℕ → Reader (List Pair)
pairs_from zero first next bytes = refuse_here SliceCut
pairs_from (suc n) first next bytes =
    next_pair_at first next bytes then λ found.
    until_end found λ pair.
    pairs_from n false (after_pair next pair) bytes then λ pairs.
    give (pair ∷ pairs)

unfoldable pub pairs_at : Bool → List ℕ → Reader (List Pair)
pairs_at intra bytes = pairs_from 65 (not intra) (first_position intra) bytes

-- only an intra block has a DC difference
unfoldable pub given_difference_at : Bool → ℕ → List ℕ → Reader ℤ
given_difference_at intra block bytes = optional intra default pos 0 read difference_at block bytes

unfoldable pub block_at : Bool → ℕ → List ℕ → Reader Block
block_at intra block bytes =
    given_difference_at intra block bytes then λ difference.
    pairs_at intra bytes then λ pairs.
    give (coded difference pairs)

-- a block, if the pattern says that it is coded
unfoldable pub given_block_at : Bool → Bool → ℕ → List ℕ → Reader Block
given_block_at present intra block bytes = optional present default uncoded read block_at intra block bytes

-- n blocks, from this one on
unfoldable pub blocks_from : Bool → ℕ → ℕ → ℕ → List ℕ → Reader (List Block)
blocks_from intra pattern zero block bytes = give []
blocks_from intra pattern (suc n) block bytes =
    given_block_at (is_coded pattern block) intra block bytes then λ b.
    blocks_from intra pattern n (block + 1) bytes then λ blocks.
    give (b ∷ blocks)
