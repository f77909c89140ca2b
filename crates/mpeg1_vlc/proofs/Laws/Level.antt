-- When the bits looked up in a row decide the code for all bits left. Assumes nothing.
use mathlib.Core.Path.{◌≡◌, refl, ap, ◌∙◌, sym, subst}
use mathlib.Core.Bool.{Bool, true, false, not, ◌&&◌}
use mathlib.Core.List.{List, [], ◌∷◌}
use Prim.Native.Nat.{ℕ, zero, suc, ◌+◌, ◌-◌, ◌/◌, ◌^◌, ◌<◌, ◌≤◌}
use native.Mathlib.Decide.{dec_le}
use native.Mathlib.Omega.{arith}
use mathlib.Core.Logic.{◌⊎◌, inl, inr}
use lib.Dec.{T, eqb}
use lib.ListN.{length, take, drop, get_or, take-append-drop, length-drop}
use lib.Seq.{take_all, get_or-drop}
use borrow.Author.Tests.{eq-eqb}
use Rattle.std.specs.Prelude.{Err}
use Rattle.math.specs.Tab.{tab}
use Rattle.math.proofs.Tab.{tab-length, tab-at}
use Rattle.math.proofs.Test.{and_left, and_right}
use Rattle.mpeg1_bits.specs.declared.Window.{Window}
use Rattle.mpeg1_bits.specs.Bits.{bits_of, bits_in}
use Rattle.mpeg1_bits.proofs.Rest.{window-length}
use Rattle.mpeg1_tables.specs.declared.code.CodeError.TheVariants.{Truncated}
use Rattle.mpeg1_tables.specs.declared.word_list.WordList.{WordList}
use Rattle.mpeg1_tables.specs.declared.word_list.WordList.TheVariants.{Increments, IncrementsAfterEscape, IntraTypes, PredictedTypes, BidirectionalTypes, Patterns, MotionCodes, LuminanceSizes, ChrominanceSizes}
use Rattle.mpeg1_tables.specs.Code.{Word, word, digits_of, is_prefix, code_of}
use Rattle.mpeg1_tables.specs.AnnexB.{increment_words, increments, increments_after_escape, intra_types, predicted_types, bidirectional_types, patterns, motion_codes, luminance_sizes, chrominance_sizes}
use Rattle.mpeg1_tables.specs.Table.{table_row_at, packed, entry_of}
use Rattle.mpeg1_tables.specs.WordList.{words_in, row_of, has_long_words}
use Rattle.mpeg1_tables.proofs.Laws.Prefix.{code-stable, code-take, every_word, no_longer}
use Rattle.mpeg1_tables.proofs.Laws.Branch.{branch_of, branches, grown, after, descended, split, split_row, row-entries}
use Rattle.mpeg1_vlc.specs.Requires.{LookUpFits}
use Rattle.mpeg1_vlc.proofs.Laws.LookUp.{next-index}

-- whether x does not occur in a list
unfoldable pub none_is : ℕ → List ℕ → Bool
none_is x [] = true
none_is x (y ∷ l) = not (eqb y x) && none_is x l

none-at : (x : ℕ) (l : List ℕ) (k : ℕ) → T (none_is x l) → k < length l → get_or l k 0 ≡ x → ⊥
unfolding none_is
none-at x [] k t h e = absurd (omega arith)
none-at x (y ∷ l) zero t h e = subst T (ap not (eq-eqb y x e)) (and_left (not (eqb y x)) (none_is x l) t)
none-at x (y ∷ l) (suc k) t h e = none-at x l k (and_right (not (eqb y x)) (none_is x l) t) (omega arith) e

-- whether every entry of a row, from an index on, decides the code: none of them is truncated (31)
unfoldable pub settles : ℕ → ℕ → Bool
settles r from = none_is 31 (drop from (split_row (table_row_at r) 8))

settled : (r from i : ℕ) → T (settles r from) → from ≤ i → i < 256 → code_of (table_row_at r).words (bits_of ((table_row_at r).zeros + 8) i) ≡ Err Truncated → ⊥
unfolding settles entry_of packed
settled r from i t h b e = none-at 31 (drop from (split_row (table_row_at r) 8)) (i - from) t (rw (length-drop, long) (omega arith)) (get_or-drop from (split_row (table_row_at r) 8) (i - from) 0 ∙ ap (λ (k : ℕ). get_or (split_row (table_row_at r) 8) k 0) place ∙ entry ∙ short)
  where
    same : tab 256 (entry_of (table_row_at r) 8) ≡ split_row (table_row_at r) 8
    same = row-entries (table_row_at r) 8

    long : length (split_row (table_row_at r) 8) ≡ 256
    long = ap length (sym same) ∙ tab-length 256 (entry_of (table_row_at r) 8)

    place : from + (i - from) ≡ i
    place = omega (arith, h)

    entry : get_or (split_row (table_row_at r) 8) i 0 ≡ entry_of (table_row_at r) 8 i
    entry = ap (λ (l : List ℕ). get_or l i 0) (sym same) ∙ tab-at 256 (entry_of (table_row_at r) 8) i 0 b

    short : entry_of (table_row_at r) 8 i ≡ 31
    short = ap packed e

-- a row's code is the code of all the window's bits: from an index on where every entry decides, or when the window holds no more bits
-- than the row looks at
module _ (r zeros : ℕ) (next : Window) (f : LookUpFits r zeros next) where
  enough-settles : (from : ℕ) → T (settles r from) → zeros + 8 ≤ next.count → from ≤ next.bits / 2 ^ (24 - zeros) → code_of (table_row_at r).words (take (zeros + 8) (bits_in next)) ≡ code_of (table_row_at r).words (bits_in next)
  enough-settles from t h g =
      sym (code-stable (table_row_at r).words (take (zeros + 8) (bits_in next)) (drop (zeros + 8) (bits_in next)) clear)
      ∙ ap (code_of (table_row_at r).words) (take-append-drop (zeros + 8) (bits_in next))
    where
      clear : code_of (table_row_at r).words (take (zeros + 8) (bits_in next)) ≡ Err Truncated → ⊥
      clear e = settled r from (next.bits / 2 ^ (24 - zeros)) t g f.low (ap (code_of (table_row_at r).words) (sym (next-index r zeros next f h)) ∙ e)

  pub row-whole : next.count ≤ zeros + 8 → code_of (table_row_at r).words (take (zeros + 8) (bits_in next)) ≡ code_of (table_row_at r).words (bits_in next)
  row-whole h = ap (code_of (table_row_at r).words) (take_all (zeros + 8) (bits_in next) (omega (arith, window-length next f.most)))

  pub row-settles : (from : ℕ) → T (settles r from) → from ≤ next.bits / 2 ^ (24 - zeros) → code_of (table_row_at r).words (take (zeros + 8) (bits_in next)) ≡ code_of (table_row_at r).words (bits_in next)
  row-settles from t g = elim (dec_le (zeros + 8) next.count) [
    | yes h ↦ enough-settles from t h g
    | no h ↦ row-whole (omega arith)
  ]

-- ---- the rows of the word lists
pub record FirstRow (list : WordList) : Type 0 where
  pub there : row_of list + 1 < 16
  pub first : (table_row_at (row_of list)).zeros ≡ 0
  pub words : (table_row_at (row_of list)).words ≡ words_in list

pub first_row : (list : WordList) → FirstRow list
first_row Increments = record { there = omega arith; first = refl; words = refl }
first_row IncrementsAfterEscape = record { there = omega arith; first = refl; words = refl }
first_row IntraTypes = record { there = omega arith; first = refl; words = refl }
first_row PredictedTypes = record { there = omega arith; first = refl; words = refl }
first_row BidirectionalTypes = record { there = omega arith; first = refl; words = refl }
first_row Patterns = record { there = omega arith; first = refl; words = refl }
first_row MotionCodes = record { there = omega arith; first = refl; words = refl }
first_row LuminanceSizes = record { there = omega arith; first = refl; words = refl }
first_row ChrominanceSizes = record { there = omega arith; first = refl; words = refl }

-- the row after five zeros, of a list with long words
pub record LongRow (list : WordList) : Type 0 where
  pub second : (table_row_at (row_of list + 1)).zeros ≡ 5
  pub same : (table_row_at (row_of list + 1)).words ≡ words_in list
  pub settling : T (settles (row_of list) 8)
  pub lengths : T (no_longer 13 (words_in list))

pub long-row : (list : WordList) → T (has_long_words list) → LongRow list
unfolding settles none_is split_row split descended after grown branches branch_of is_prefix packed every_word word digits_of increment_words increments increments_after_escape patterns motion_codes
long-row Increments t = record { second = refl; same = refl; settling = tt; lengths = tt }
long-row IncrementsAfterEscape t = record { second = refl; same = refl; settling = tt; lengths = tt }
long-row Patterns t = record { second = refl; same = refl; settling = tt; lengths = tt }
long-row MotionCodes t = record { second = refl; same = refl; settling = tt; lengths = tt }
long-row IntraTypes t = absurd t
long-row PredictedTypes t = absurd t
long-row BidirectionalTypes t = absurd t
long-row LuminanceSizes t = absurd t
long-row ChrominanceSizes t = absurd t

short-words : (list : WordList) → T (not (has_long_words list)) → T (no_longer 8 (words_in list))
unfolding every_word word digits_of intra_types predicted_types bidirectional_types luminance_sizes chrominance_sizes
short-words Increments t = absurd t
short-words IncrementsAfterEscape t = absurd t
short-words Patterns t = absurd t
short-words MotionCodes t = absurd t
short-words IntraTypes t = tt
short-words PredictedTypes t = tt
short-words BidirectionalTypes t = tt
short-words LuminanceSizes t = tt
short-words ChrominanceSizes t = tt

-- ---- look-ups in these rows are allowed, and give the code of all the window's bits
pub fits-first : (r : ℕ) (next : Window) → r < 16 → (table_row_at r).zeros ≡ 0 → next.bits < 4294967296 → next.count ≤ 32 → LookUpFits r 0 next
fits-first r next h e b m = record { there = h; begins = e; few = omega arith; enough = omega arith; most = m; low = omega arith }

-- `long` says whether the list has long words
module _ (list : WordList) (long : Bool) (same : long ≡ has_long_words list) (next : Window) (fits : next.bits < 4294967296) (most : next.count ≤ 32) where
  fits-list : LookUpFits (row_of list) 0 next
  fits-list = let row = first_row list in fits-first (row_of list) next (omega (arith, row.there)) row.first fits most

  has-long : long ≡ true → T (has_long_words list)
  has-long e = subst T (sym e ∙ same) tt

  -- five zeros lead to the second row
  pub second-code : long ≡ true → code_of (table_row_at (row_of list + 1)).words (take 13 (bits_in next)) ≡ code_of (words_in list) (bits_in next)
  second-code e = let row = long-row list (has-long e) in ap (λ (w : List Word). code_of w (take 13 (bits_in next))) row.same ∙ code-take (words_in list) 13 (bits_in next) row.lengths

  in-list : code_of (table_row_at (row_of list)).words (bits_in next) ≡ code_of (words_in list) (bits_in next)
  in-list = ap (λ (w : List Word). code_of w (bits_in next)) (first_row list).words

  -- otherwise the first row decides
  pub first-code : (long ≡ true) × (8 ≤ next.count) × (134217728 ≤ next.bits) ⊎ (long ≡ true) × (next.count < 8) ⊎ (long ≡ false) → code_of (table_row_at (row_of list)).words (take 8 (bits_in next)) ≡ code_of (words_in list) (bits_in next)
  first-code (inl (e, enough, above)) = row-settles (row_of list) 0 next fits-list 8 (long-row list (has-long e)).settling (omega (arith, above)) ∙ in-list
  first-code (inr (inl (e, few))) = row-whole (row_of list) 0 next fits-list (omega (arith, few)) ∙ in-list
  first-code (inr (inr e)) =
      ap (λ (w : List Word). code_of w (take 8 (bits_in next))) (first_row list).words
      ∙ code-take (words_in list) 8 (bits_in next) (short-words list (subst (λ (b : Bool). T (not b)) (sym e ∙ same) tt))
