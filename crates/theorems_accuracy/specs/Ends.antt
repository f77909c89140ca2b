-- The ends around each cosine: whole numbers over 2^30 (document 01, "Inverse transform"; listed in docs/COSINES.md).
use Rattle.std.specs.Prelude.{List, [], ◌∷◌, ◌≡◌, ℕ, ◌+◌, ◌*◌, ◌^◌, ◌≤◌, ℤ, pos, nat_abs, get_or}

unfoldable pub low_ends : List ℕ
low_ends = 1053110168 ∷ 992008086 ∷ 892783690 ∷ 759250117 ∷ 596538987 ∷ 410903199 ∷ 209476630 ∷ []

unfoldable pub high_ends : List ℕ
high_ends = 1053110184 ∷ 992008102 ∷ 892783706 ∷ 759250133 ∷ 596539003 ∷ 410903215 ∷ 209476646 ∷ []

-- the ends of cosine i, counted from 0
abbrev pub low_end : ℕ → ℕ
low_end i = get_or low_ends i 0

abbrev pub high_end : ℕ → ℕ
high_end i = get_or high_ends i 0

-- an entry of the table, which counts 2^20ths, and the two ends around its cosine, which count 2^30ths
pub record Near (entry : ℤ) (low high : ℕ) : Type 0 where
  -- "at most 16 apart"
  pub apart : high ≤ low + 16
  pub not_negative : pos (nat_abs entry) ≡ entry
  -- the entry is within a 2^20th of both ends, and these are at most 1
  pub below-low : 2 ^ 10 * nat_abs entry ≤ low + 2 ^ 10
  pub above-high : high ≤ 2 ^ 10 * nat_abs entry + 2 ^ 10
  pub at_most_one : high ≤ 2 ^ 30
