-- Facts about each coefficient that is read, and about a block's next pair. Assumes nothing.
use mathlib.Core.Bool.{Bool, true, false}
use mathlib.Core.List.{List, []}
use mathlib.Core.Path.{◌≡◌, refl, sym, ap, subst, ◌∙◌}
use Rattle.std.specs.Prelude.{Option, Some, None, Ok, Err}
use Prim.Native.Nat.{ℕ, ◌+◌, ◌≤◌}
use lib.Dec.{leb}
use lib.IntN.{ℤ}
use lib.ListN.{length}
use borrow.Author.Tests.{leb-true}
use Rattle.symbols.specs.declared.pair.Pair.{Pair}
use Rattle.symbols.proofs.Guard.{require-all}
use Rattle.symbols.proofs.Parsed.{All, here, none}
use Rattle.mpeg1_bits.specs.Bits.{bits_from}
use Rattle.mpeg1_bits.specs.declared.BitPosition.{BitPosition}
use Rattle.mpeg1_bits.proofs.Rest.{rest-binary}
use Rattle.mpeg1_vlc.specs.Coefficient.{CoefficientRead, words_of, coefficient_code_of}
use Rattle.mpeg1_vlc.specs.declared.coefficient.Coefficient.{Coefficient}
use Rattle.mpeg1_vlc.proofs.Laws.CoefficientRange.{PairRead, EndRead, WellRead, first-coefficient-well-read, next-coefficient-well-read}
use Rattle.mpeg1_slice.specs.Read.{Reader}
use Rattle.mpeg1_slice.specs.Blocks.{next_pair_of, next_pair_at, until_end}
use Rattle.mpeg1_slice.proofs.Laws.Read.{Ahead, Onward, stepped}

pub coefficient-well-read : (first : Bool) (bytes : List ℕ) (at : BitPosition) → WellRead (length (bits_from bytes at)) (coefficient_code_of (words_of first) (bits_from bytes at))
unfolding words_of
coefficient-well-read true bytes at = first-coefficient-well-read (rest-binary bytes at)
coefficient-well-read false bytes at = next-coefficient-well-read (rest-binary bytes at)

-- what the reader answers is well read
module _ (first : Bool) (bytes : List ℕ) (at : BitPosition) {found : Coefficient} (e : Ok found ≡ coefficient_code_of (words_of first) (bits_from bytes at)) where
  pub pair_read : {run n : ℕ} {level : ℤ} → found ≡ Coefficient.Pair run level n → PairRead (length (bits_from bytes at)) run level n
  pair_read f = subst (WellRead (length (bits_from bytes at))) (sym e ∙ ap Ok f) (coefficient-well-read first bytes at)

  pub end_read : {n : ℕ} → found ≡ Coefficient.EndOfBlock n → EndRead (length (bits_from bytes at)) n
  end_read f = subst (WellRead (length (bits_from bytes at))) (sym e ∙ ap Ok f) (coefficient-well-read first bytes at)

-- ---- the next pair has its position within the block, and it (or the end of the block) ends within the bytes
pub data Lands (next : ℕ) : Option Pair → Type 0 where
  lands : {pair : Pair} → next + pair.run ≤ 63 → Lands next (Some pair)
  ends : Lands next None

pub position : {next : ℕ} {pair : Pair} → Lands next (Some pair) → next + pair.run ≤ 63
position (lands h) = h

module _ (next : ℕ) (at : BitPosition) where
  coefficient-lands : (c : CoefficientRead) → All (λ found p. Lands next found) (next_pair_of next c at)
  unfolding next_pair_of
  coefficient-lands (Ok (Coefficient.Pair run level n)) = require-all (All (λ found p. Lands next found)) (leb (next + run) 63) _ _ none λ t. here (lands (leb-true (next + run) 63 t))
  coefficient-lands (Ok (Coefficient.EndOfBlock n)) = here ends
  coefficient-lands (Err error) = none

  coefficient-onward : {bytes : List ℕ} {least : ℕ} → Ahead bytes least at → (c : CoefficientRead) → WellRead (length (bits_from bytes at)) c → Onward bytes least (next_pair_of next c at)
  unfolding next_pair_of
  coefficient-onward {bytes} {least} h (Ok (Coefficient.Pair run level n)) k = require-all (Onward bytes least) (leb (next + run) 63) _ _ none λ t. here (stepped h n k.inside)
  coefficient-onward h (Ok (Coefficient.EndOfBlock n)) k = here (stepped h n k.inside)
  coefficient-onward h (Err error) k = none

pub next-lands : (first : Bool) (next : ℕ) (bytes : List ℕ) (at : BitPosition) → All (λ found p. Lands next found) (next_pair_at first next bytes at)
next-lands first next bytes at = coefficient-lands next at (coefficient_code_of (words_of first) (bits_from bytes at))

pub next-onward : (first : Bool) (next : ℕ) {bytes : List ℕ} {least : ℕ} {at : BitPosition} → Ahead bytes least at → Onward bytes least (next_pair_at first next bytes at)
next-onward first next {bytes} {at = at} h = coefficient-onward next at h (coefficient_code_of (words_of first) (bits_from bytes at)) (coefficient-well-read first bytes at)

-- what holds of no pairs, and of the pairs from each pair on, holds of a block's pairs
pub all-until : {P : List Pair → BitPosition → Type 0} (found : Option Pair) (more : Pair → Reader (List Pair)) (p : BitPosition) → P [] p → ((pair : Pair) → found ≡ Some pair → All P (more pair p))
    → All P (until_end found more p)
all-until (Some pair) more p h f = f pair refl
all-until None more p h f = here h
