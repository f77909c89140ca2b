-- Request No. 3: each theorem cites its law; the worked blocks are computed. Assumes nothing.
use mathlib.Core.Bool.{true}
use mathlib.Core.List.{List, ◌++◌}
use mathlib.Core.Path.{◌≡◌, refl, sym, ap}
use Prim.Native.Nat.{ℕ}
use lib.Dec.{leb→le}
use lib.IntN.{ℤ, pos}
use lib.ListN.{take, drop, take-append-drop}
use Rattle.math.specs.Tab.{tab}
use Rattle.tables.specs.Tables.{scan, index_of, zigzag, default_intra}
use Rattle.symbols.specs.declared.pair.Pair.{Pair}
use Rattle.symbols.specs.Pair.{first_position}
use Rattle.symbols.specs.Guard.{require◌else◌then◌}
use Rattle.symbols.proofs.Parsed.{all-at}
use Rattle.decode_coefficients.specs.Block.{positioned_levels, with_levels, with_pairs, dc_block, block_coefficients}
use Rattle.decode_coefficients.specs.Scaling.{scaled, coefficient_of}
use Rattle.decode_coefficients.specs.Dc.{dc_of}
use Rattle.decode_coefficients.specs.SoFar.{PairsInside}
use Rattle.decode_coefficients.proofs.SoFar.{apart, apart-from-0, holds-so-far, one-step, first-inside, last-inside, dc-fits}
use Rattle.decode_coefficients.specs.Matrices.{default_matrices}
use Rattle.format3_records.specs.Field.{byte, two_bytes, signed_two_bytes, twos_complement}
use Rattle.format3_macroblock.specs.Pairs.{legal_level, pair_of, pairs_before_refusal}
use Rattle.format3_macroblock.proofs.Laws.Pairs.{before-inside, before-first, before-all}
use Rattle.theorems.specs.Request3.{intra_coding, intra_pairs, second_refused, AfterEachPair, ScaledAsItLands, NoCollision, WhileReading, WorkedBlocks}

pub after-each-pair : AfterEachPair
after-each-pair c matrix past difference pairs inside k =
    let parts : PairsInside c (take k pairs ++ drop k pairs) = rw (take-append-drop k pairs) inside in
    holds-so-far c matrix _ (take k pairs) (dc-fits c past difference) (first-inside c (take k pairs) (drop k pairs) parts)

pub scaled-as-it-lands : ScaledAsItLands
unfolding block_coefficients
scaled-as-it-lands c matrix past difference pairs pair = one-step c matrix pairs pair (dc_block (dc_of c.intra past difference))

pub no-collision : NoCollision
no-collision c pairs pair inside =
    let low = last-inside c pairs pair inside in record { no-other-pair = apart c pairs pair low; not-the-dc = λ intra same. apart-from-0 c pairs pair low intra (sym same) }

pub while-reading : WhileReading
unfolding block_coefficients
while-reading c matrix past difference bytes =
    let first : ℕ = first_position c.intra in
    let dc : ℤ = dc_of c.intra past difference in record {
      holds = λ k. holds-so-far c matrix dc _ (dc-fits c past difference) (before-inside k first bytes);
      first-ones = λ k count few. before-first k count first bytes few;
      whole = λ count pairs rest e. ap (λ (l : List Pair). with_pairs c matrix l (dc_block dc)) (all-at (before-all count first bytes) e);
    }

one-pair : pairs_before_refusal 2 (first_position true) second_refused ≡ take 1 intra_pairs
unfolding pairs_before_refusal pair_of first_position byte two_bytes signed_two_bytes twos_complement require◌else◌then◌ legal_level
one-pair = refl

pub worked-blocks : WorkedBlocks
unfolding block_coefficients with_levels positioned_levels dc_block first_position zigzag scan index_of tab default_intra coefficient_of scaled
worked-blocks = record {
  intra-inside = (leb→le 1 63 tt, (leb→le 3 63 tt, (leb→le 8 63 tt, tt)));
  intra-0 = refl;
  intra-1 = refl;
  intra-2 = refl;
  intra-3 = refl;
  non-intra-inside = (leb→le 0 63 tt, (leb→le 3 63 tt, (leb→le 4 63 tt, tt)));
  non-intra-0 = refl;
  non-intra-1 = refl;
  non-intra-2 = refl;
  non-intra-3 = refl;
  second-refused = ap (λ (pairs : List Pair). with_pairs intra_coding default_matrices.intra pairs (dc_block (pos 1000))) one-pair;
}
