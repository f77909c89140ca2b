-- A list that has each member of a set exactly once: a bijection between indices and members.
use Rattle.std.specs.Prelude.{List, ◌≡◌, ℕ, ◌<◌, length, get_or}

-- the list's elements are the members, each at the index that `index` gives. `get_or l k d` is the element at index k; the d that it gives past the end
-- doesn't matter here
pub record Enumerates {A : Type 0} (Member : A → Type 0) (index : A → ℕ) (l : List A) : Type 0 where
  -- from an index to a member, and back to the index
  pub member : (k : ℕ) (d : A) → k < length l → Member (get_or l k d)
  pub index_back : (k : ℕ) (d : A) → k < length l → index (get_or l k d) ≡ k
  -- from a member to an index, and back to the member
  pub inside : (a : A) → Member a → index a < length l
  pub member_back : (a d : A) → Member a → get_or l (index a) d ≡ a
