-- A table's entries computed by splitting its word list bit by bit, which the checker does quickly. Assumes nothing.
-- After a bit, the list keeps the words that start with this bit, without it.
use mathlib.Core.Path.{◌≡◌, refl, ap, ap₂, ◌∙◌, sym}
use mathlib.Core.Bool.{cond}
use mathlib.Core.List.{List, [], ◌∷◌, ◌++◌}
use Prim.Native.Nat.{ℕ, zero, suc, ◌+◌, ◌*◌, ◌/◌, ◌%◌, ◌^◌, ◌<◌, zero-le, suc-le-suc}
use native.Mathlib.Nat.{two-pow-succ, suc-add, zero-add, add-zero, one-mul, div-eq_of_lt, lt_of_lt_of_le, le-add_left, pow-le-pow_right}
use lib.Arith.{digits_div}
use lib.Dec.{eqb}
use lib.ListN.{length}
use borrow.Author.Tests.{eqb-true, eqb-false, eq-eqb, ne_eqb}
use Rattle.std.specs.Prelude.{Result, Err}
use Rattle.math.specs.Tab.{tab}
use Rattle.math.proofs.Tab.{tab-ext}
use Rattle.mpeg1_bits.specs.Bits.{bits_of}
use Rattle.mpeg1_bits.proofs.Number.{bits-low}
use Rattle.mpeg1_tables.specs.declared.code.Code.{Code}
use Rattle.mpeg1_tables.specs.declared.code.CodeError.{CodeError}
use Rattle.mpeg1_tables.specs.declared.code.CodeError.TheVariants.{NoCode, Truncated}
use Rattle.mpeg1_tables.specs.Code.{Word, is_prefix, code_of, found}
use Rattle.mpeg1_tables.specs.Table.{TableRow, packed, entry_of}
use Rattle.mpeg1_tables.proofs.Laws.Prefix.{case}

-- the rest of a word, and its code
pub record Branch : Type 0 where
  pub bits : List ℕ
  pub code : Result Code CodeError

unfoldable pub branch_of : List Branch → List ℕ → Result Code CodeError
branch_of [] b = Err NoCode
branch_of (t ∷ ts) b = cond (is_prefix t.bits b) t.code (cond (is_prefix b t.bits) (Err Truncated) (branch_of ts b))

unfoldable pub branches : List Word → List Branch
branches [] = []
branches (w ∷ words) = record { bits = w.bits; code = found w.value (length w.bits) } ∷ branches words

pub branches-code : (words : List Word) (b : List ℕ) → code_of words b ≡ branch_of (branches words) b
unfolding code_of branch_of branches
branches-code [] b = refl
branches-code (w ∷ words) b = ap (λ (c : Result Code CodeError). cond (is_prefix w.bits b) (found w.value (length w.bits)) (cond (is_prefix b w.bits) (Err Truncated) c)) (branches-code words b)

unfoldable pub grown : ℕ → List ℕ → Result Code CodeError → List Branch → List Branch
grown x [] c ts = record { bits = []; code = c } ∷ ts
grown x (y ∷ a) c ts = cond (eqb y x) (record { bits = a; code = c } ∷ ts) ts

-- the branches after one bit
unfoldable pub after : ℕ → List Branch → List Branch
after x [] = []
after x (t ∷ ts) = grown x t.bits t.code (after x ts)

grown-code : (x : ℕ) (b a : List ℕ) (c : Result Code CodeError) (ts us : List Branch) → branch_of ts (x ∷ b) ≡ branch_of us b → cond (is_prefix a (x ∷ b)) c (cond (is_prefix (x ∷ b) a) (Err Truncated) (branch_of ts (x ∷ b))) ≡ branch_of (grown x a c us) b
unfolding branch_of grown is_prefix
grown-code x b [] c ts us e = refl
grown-code x b (y ∷ a) c ts us e =
    case (eqb y x)
    (λ f. rw (f, eq-eqb x y (sym (eqb-true y x f)), e) refl)
    (λ f. rw (f, ne_eqb x y (λ g. eqb-false y x f (sym g)), e) refl)

pub after-code : (x : ℕ) (b : List ℕ) (ts : List Branch) → branch_of ts (x ∷ b) ≡ branch_of (after x ts) b
unfolding branch_of after
after-code x b [] = refl
after-code x b (t ∷ ts) = grown-code x b t.bits t.code ts (after x ts) (after-code x b ts)

-- the branches after z zeros
unfoldable pub descended : ℕ → List Branch → List Branch
descended zero ts = ts
descended (suc z) ts = descended z (after 0 ts)

pub front-zero : (n v : ℕ) → v < 2 ^ n → v / 2 ^ n % 2 ≡ 0
front-zero n v h = ap (λ (x : ℕ). x % 2) (div-eq_of_lt h)

pub descended-code : (z n v : ℕ) (ts : List Branch) → v < 2 ^ n → branch_of ts (bits_of (z + n) v) ≡ branch_of (descended z ts) (bits_of n v)
unfolding descended bits_of
descended-code zero n v ts h = rw zero-add refl
descended-code (suc z) n v ts h =
    rw (suc-add, front-zero (z + n) v (lt_of_lt_of_le h (pow-le-pow_right (suc-le-suc zero-le) (le-add_left n z))))
    (after-code 0 (bits_of (z + n) v) ts ∙ descended-code z n v (after 0 ts) h)

-- all entries of n bits, in order
unfoldable pub split : ℕ → List Branch → List ℕ
split zero ts = packed (branch_of ts []) ∷ []
split (suc n) ts = split n (after 0 ts) ++ split n (after 1 ts)

tab-add : (m n : ℕ) (f : ℕ → ℕ) → tab (m + n) f ≡ tab m f ++ tab n (λ i. f (m + i))
unfolding tab
tab-add zero n f = rw zero-add (tab-ext n f (λ i. f (zero + i)) (λ k h. ap f (sym (zero-add k))))
tab-add (suc m) n f = rw suc-add (ap (λ (l : List ℕ). f zero ∷ l) (tab-add m n (λ k. f (suc k)) ∙ ap (λ (l : List ℕ). tab m (λ k. f (suc k)) ++ l) (tab-ext n (λ i. f (suc (m + i))) (λ i. f (suc m + i)) (λ k h. ap f (sym (suc-add m k))))))

split-entries : (n : ℕ) (ts : List Branch) → tab (2 ^ n) (λ v. packed (branch_of ts (bits_of n v))) ≡ split n ts
unfolding tab split bits_of
split-entries zero ts = refl
split-entries (suc n) ts =
    rw two-pow-succ
    (tab-add (2 ^ n) (2 ^ n) (λ v. packed (branch_of ts (v / 2 ^ n % 2 ∷ bits_of n v)))
    ∙ ap₂ ◌++◌ (tab-ext (2 ^ n) _ _ lower ∙ split-entries n (after 0 ts)) (tab-ext (2 ^ n) _ _ upper ∙ split-entries n (after 1 ts)))
  where
    lower : (v : ℕ) → v < 2 ^ n → packed (branch_of ts (v / 2 ^ n % 2 ∷ bits_of n v)) ≡ packed (branch_of (after 0 ts) (bits_of n v))
    lower v h = ap packed (ap (λ (x : ℕ). branch_of ts (x ∷ bits_of n v)) (front-zero n v h) ∙ after-code 0 (bits_of n v) ts)

    one : (v : ℕ) → v < 2 ^ n → (2 ^ n + v) / 2 ^ n % 2 ≡ 1
    one v h = ap (λ (x : ℕ). x % 2) (ap (λ (x : ℕ). (x + v) / 2 ^ n) (sym (one-mul (2 ^ n))) ∙ digits_div 1 h)

    low : (v : ℕ) → bits_of n (2 ^ n + v) ≡ bits_of n v
    low v = ap (λ (x : ℕ). bits_of n (x + v)) (sym (one-mul (2 ^ n)) ∙ ap (λ (e : ℕ). 1 * 2 ^ e) (sym (add-zero n))) ∙ bits-low n 0 1 v

    upper : (v : ℕ) → v < 2 ^ n → packed (branch_of ts ((2 ^ n + v) / 2 ^ n % 2 ∷ bits_of n (2 ^ n + v))) ≡ packed (branch_of (after 1 ts) (bits_of n v))
    upper v h = ap packed (ap₂ (λ (x : ℕ) (b : List ℕ). branch_of ts (x ∷ b)) (one v h) (low v) ∙ after-code 1 (bits_of n v) ts)

-- a row's entries of n bits, computed by splitting its words
unfoldable pub split_row : TableRow → ℕ → List ℕ
split_row r n = split n (descended r.zeros (branches r.words))

pub row-entries : (r : TableRow) (n : ℕ) → tab (2 ^ n) (entry_of r n) ≡ split_row r n
unfolding entry_of split_row
row-entries r n =
    tab-ext (2 ^ n) _ _ (λ v h. ap packed (branches-code r.words (bits_of (r.zeros + n) v) ∙ descended-code r.zeros n v (branches r.words) h))
    ∙ split-entries n (descended r.zeros (branches r.words))
