-- Which entry is where in the code table. Assumes nothing.
use mathlib.Core.Path.{◌≡◌, refl, ap, ◌∙◌}
use mathlib.Core.Bool.{Bool, true, ◌&&◌}
use mathlib.Core.List.{List, [], ◌∷◌, ◌++◌}
use Prim.Native.Nat.{ℕ, zero, suc, ◌+◌, ◌*◌, ◌/◌, ◌%◌, ◌<◌}
use native.Mathlib.Nat.{zero-add}
use native.Mathlib.Omega.{arith}
use lib.Dec.{T, ltb, ltb→lt, lt→ltb}
use lib.ListN.{length, get_or, get_or-append}
use lib.Seq.{get_or-append-add}
use borrow.Author.Tests.{ne_eqb}
use Rattle.std.specs.Prelude.{Err}
use Rattle.math.specs.Joined.{joined}
use Rattle.math.specs.Tab.{tab}
use Rattle.math.proofs.Tab.{tab-length, tab-at}
use Rattle.math.proofs.Test.{and_left, and_right}
use Rattle.mpeg1_bits.specs.Bits.{bits_of}
use Rattle.mpeg1_tables.specs.declared.code.CodeError.TheVariants.{Truncated}
use Rattle.mpeg1_tables.specs.Code.{Word, word, digits_of, is_prefix, code_of, found}
use Rattle.mpeg1_tables.specs.AnnexB.{increment_words, increments, increments_after_escape, intra_types, predicted_types, bidirectional_types, patterns, motion_codes, luminance_sizes, chrominance_sizes, shared_words, next_coefficients}
use Rattle.mpeg1_tables.specs.Table.{TableRow, table_row, table_rows, table_row_at, packed, unpacked_of, entry_of, code_table}
use Rattle.mpeg1_tables.proofs.Laws.Prefix.{case, and_both, code-found, code-truncated, code-later, every_word, every-other, code-tested}

-- an element of the second list in a ++
get_d_after : (l m : List ℕ) (n i j : ℕ) → length l ≡ n → n + i ≡ j → get_or (l ++ m) j 0 ≡ get_or m i 0
get_d_after l m n i j e f = rw (← f, ← e) (get_or-append-add l m i 0)

-- ---- rows of 256 entries, one after the other
joined_at : (f : TableRow → List ℕ) (rs : List TableRow) (d : TableRow) → ((r : TableRow) → length (f r) ≡ 256) → (k i : ℕ) → k < length rs → i < 256 → get_or (joined f rs) (256 * k + i) 0 ≡ get_or (f (get_or rs k d)) i 0
unfolding joined
joined_at f [] d e k i h b = absurd (omega arith)
joined_at f (r ∷ rs) d e zero i h b = rw zero-add (get_or-append (f r) (joined f rs) 0 i (omega (arith, e r)))
joined_at f (r ∷ rs) d e (suc k) i h b = get_d_after (f r) (joined f rs) 256 (256 * k + i) (256 * suc k + i) (e r) (omega arith) ∙ joined_at f rs d e k i (omega arith) b

-- ---- packing a code into a number, and unpacking it
-- whether a value and a length can be packed
abbrev packable : ℕ → ℕ → Bool
packable v n = ltb 0 n && ltb n 31

unpack-value : (v n : ℕ) → 0 < n → n < 31 → unpacked_of (32 * v + n) ≡ found v n
unfolding unpacked_of
unpack-value v n h k =
    let low : (32 * v + n) % 32 ≡ n = omega arith in
    let high : (32 * v + n) / 32 ≡ v = omega arith in
    rw (low, high, ne_eqb n 0 (λ e. omega arith), ne_eqb n 31 (λ e. omega arith))

unpack-truncated : unpacked_of 31 ≡ Err Truncated
unfolding unpacked_of
unpack-truncated = refl

unpack-none : (b : List ℕ) → unpacked_of (packed (code_of [] b)) ≡ code_of [] b
unfolding unpacked_of packed code_of
unpack-none b = refl

unpack-pack : (words : List Word) (b : List ℕ) → T (every_word packable words) → unpacked_of (packed (code_of words b)) ≡ code_of words b
unfolding every_word packed
unpack-pack [] b t = unpack-none b
unpack-pack (w ∷ words) b t =
    let n = length w.bits in
    let sized = and_left (ltb 0 n && ltb n 31) (every_word packable words) t in
    case (is_prefix w.bits b)
    (λ e. rw (code-found w words b e) (unpack-value w.value n (ltb→lt 0 n (and_left (ltb 0 n) (ltb n 31) sized)) (ltb→lt n 31 (and_right (ltb 0 n) (ltb n 31) sized))))
    (λ e. case (is_prefix b w.bits)
    (λ f. rw (code-truncated w words b e f) unpack-truncated)
    (λ f. rw (code-later w words b e f) (unpack-pack words b (and_right (ltb 0 n && ltb n 31) (every_word packable words) t))))

-- whether every row passes a test
unfoldable pub every_row : (TableRow → Bool) → List TableRow → Bool
every_row test [] = true
every_row test (r ∷ rs) = test r && every_row test rs

pub row-test : (test : TableRow → Bool) (rs : List TableRow) (d : TableRow) (k : ℕ) → T (every_row test rs) → k < length rs → T (test (get_or rs k d))
unfolding every_row
row-test test [] d k t h = absurd (omega arith)
row-test test (r ∷ rs) d zero t h = and_left (test r) (every_row test rs) t
row-test test (r ∷ rs) d (suc k) t h = row-test test rs d k (and_right (test r) (every_row test rs) t) (omega arith)

-- the test on all word lists: values below 2048, lengths 1 to 16
abbrev pub sized : ℕ → ℕ → Bool
sized v n = ltb v 2048 && (ltb 0 n && ltb n 17)

rows-sized : T (every_row (λ r. every_word sized r.words) table_rows)
unfolding every_row every_word word digits_of increment_words increments increments_after_escape intra_types predicted_types bidirectional_types patterns motion_codes luminance_sizes chrominance_sizes shared_words next_coefficients
rows-sized = tt

pub row_sized : (r : ℕ) → r < 16 → T (every_word sized (table_row_at r).words)
row_sized r h = row-test (λ r. every_word sized r.words) table_rows (table_row 0 []) r rows-sized h

-- what the test says about a value and a length
pub sized-value : (v n : ℕ) → T (sized v n) → v < 2048
sized-value v n t = ltb→lt v 2048 (and_left (ltb v 2048) (ltb 0 n && ltb n 17) t)

pub sized-length : (v n : ℕ) → T (sized v n) → n < 17
sized-length v n t = ltb→lt n 17 (and_right (ltb 0 n) (ltb n 17) (and_right (ltb v 2048) (ltb 0 n && ltb n 17) t))

sized-packable : (v n : ℕ) → T (sized v n) → T (packable v n)
sized-packable v n t = and_both (ltb 0 n) (ltb n 31) (and_left (ltb 0 n) (ltb n 17) (and_right (ltb v 2048) (ltb 0 n && ltb n 17) t)) (lt→ltb n 31 (omega (arith, sized-length v n t)))

-- a code with such a value and length
pub record Sized (v n : ℕ) : Type 0 where
  pub value : v < 2048
  pub long : n < 17

pub code-sized : (r : ℕ) (b : List ℕ) {v n : ℕ} → r < 16 → code_of (table_row_at r).words b ≡ found v n → Sized v n
code-sized r b {v} {n} h e =
    let t = code-tested sized (table_row_at r).words b v n (row_sized r h) e in
    record { value = sized-value v n t; long = sized-length v n t }

unpack-entry : (k n v : ℕ) → k < 16 → unpacked_of (entry_of (table_row_at k) n v) ≡ code_of (table_row_at k).words (bits_of ((table_row_at k).zeros + n) v)
unfolding entry_of
unpack-entry k n v h = unpack-pack (table_row_at k).words (bits_of ((table_row_at k).zeros + n) v) (every-other sized packable (λ v n t. sized-packable v n t) (table_row_at k).words (row_sized k h))

-- ---- what a look-up gives
pub code-entry : (k i : ℕ) → k < 16 → i < 256 → unpacked_of (get_or code_table (256 * k + i) 0) ≡ code_of (table_row_at k).words (bits_of ((table_row_at k).zeros + 8) i)
unfolding code_table
code-entry k i h b =
    ap unpacked_of (joined_at (λ r. tab 256 (entry_of r 8)) table_rows (table_row 0 []) (λ r. tab-length 256 (entry_of r 8)) k i h b ∙ tab-at 256 (entry_of (table_row_at k) 8) i 0 b)
    ∙ unpack-entry k 8 i h
