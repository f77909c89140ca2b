-- Bounds on absolute values: of each operation's result, of a table, and that a bounded integer fits its type; zeros at any index. Assumes nothing.
use mathlib.Core.Path.{◌≡◌, refl, sym, subst}
use mathlib.Core.Bool.{Bool, true, false, cond, ◌&&◌}
use mathlib.Core.List.{List, [], ◌∷◌}
use Prim.Native.Nat.{ℕ, zero, suc, ◌+◌, ◌*◌, ◌^◌, ◌≤◌, ◌<◌, zero-le, suc-le-suc}
use native.Mathlib.Omega.{arith}
use native.Mathlib.Nat.{mul-le-mul, le_of_mul-le-mul_left, le_refl, le_trans, lt_of_le_of_lt}
use lib.Dec.{T, leb, ltb, ltb→lt, leb→le}
use lib.IntN.{ℤ, pos, negsuc, neg_ℤ, nat_abs, ◌+ℤ◌, ◌*ℤ◌}
use lib.ListN.{replicate}
use lib.Signed.{◌≤ℤ◌, mag}
use mir.Syntax.{Width}
use mir.Val.{SFits, hbits}
use Rattle.math.specs.Tab.{tab}
use Rattle.math.proofs.Test.{and_left, and_right}
use Rattle.math.specs.Bound.{Within, at, AllWithin}
use Rattle.math.proofs.Difference.{up, dn, of_le, parts_add, parts-neg, parts-mul}

pub zeros-at : (n k : ℕ) → at (replicate n (pos 0)) k ≡ pos 0
zeros-at zero k = refl
zeros-at (suc n) zero = refl
zeros-at (suc n) (suc k) = zeros-at n k

pub abs-parts : (z : ℤ) → nat_abs z ≡ up z + dn z
abs-parts (pos n) = omega arith
abs-parts (negsuc n) = omega arith

pub mag-abs : (z : ℤ) → mag z ≤ nat_abs z
mag-abs (pos n) = omega arith
mag-abs (negsuc n) = omega arith

pub abs-mul : (x y : ℤ) → nat_abs (x *ℤ y) ≡ nat_abs x * nat_abs y
abs-mul x y = omega (arith, abs-parts (x *ℤ y), parts-mul x y, both (abs-parts x) (abs-parts y))
  where
    both : {a b c d : ℕ} → a ≡ c → b ≡ d → a * b ≡ c * d
    both p q = λ i. p i * q i

-- ---- the bound of each operation's result
-- of the parts `up z` and `dn z` one is 0
pub abs-le : (z : ℤ) {b : ℕ} → up z ≤ dn z + b → dn z ≤ up z + b → nat_abs z ≤ b
abs-le (pos n) h k = omega arith
abs-le (negsuc n) h k = omega arith

pub within-add : {a b : ℕ} {x y : ℤ} → Within a x → Within b y → Within (a + b) (x +ℤ y)
within-add {x} {y} p q = record { within = abs-le (x +ℤ y) (omega (arith, abs-parts x, abs-parts y, parts_add x y)) (omega (arith, abs-parts x, abs-parts y, parts_add x y)) }

pub within-neg : {a : ℕ} {x : ℤ} → Within a x → Within a (neg_ℤ x)
within-neg {x} p = record { within = omega (arith, p.within, abs-parts (neg_ℤ x), abs-parts x, parts-neg x) }

pub within-mul : {a b : ℕ} {x y : ℤ} → Within a x → Within b y → Within (a * b) (x *ℤ y)
within-mul {x} {y} p q = record { within = omega (arith, abs-mul x y, mul-le-mul p.within q.within) }

-- a literal, computed
pub within-literal : {b : ℕ} {x : ℤ} → T (leb (nat_abs x) b) → Within b x
within-literal {b} {x} t = record { within = leb→le (nat_abs x) b t }

pub within-self : (x : ℤ) → Within (nat_abs x) x
within-self x = record { within = le_refl (nat_abs x) }

pub within_more : {a b : ℕ} {x : ℤ} → Within a x → a ≤ b → Within b x
within_more p h = record { within = le_trans p.within h }

-- ---- a bounded number fits a type whose limit is above the bound, by computation
pub within-fits : {w : Width} {b : ℕ} {z : ℤ} → Within b z → T (ltb b (2 ^ hbits w)) → SFits w z
within-fits {w} {b} {z} p t = record { sfits = lt_of_le_of_lt (le_trans (mag-abs z) p.within) (ltb→lt b (2 ^ hbits w) t) }

-- from a bound that a contract states with `mag`
pub within-mag : {b : ℕ} {z : ℤ} → mag z < b → Within b z
within-mag {b} {z = pos n} h = record { within = omega arith }
within-mag {b} {z = negsuc n} h = record { within = omega arith }

-- from a bound on k times z, with k above 0
pub within-cancel : (k : ℕ) {b : ℕ} {z : ℤ} → 0 < k → Within (k * b) (pos k *ℤ z) → Within b z
within-cancel k {b} {z} h p = record { within = le_of_mul-le-mul_left (omega (arith, abs-mul (pos k) z, p.within)) h }

pub within-eq : {b : ℕ} {x y : ℤ} → x ≡ y → Within b y → Within b x
within-eq {b} e p = subst (Within b) (sym e) p

-- from a lower and an upper bound
pub within_both : {b : ℕ} {z : ℤ} → neg_ℤ (pos b) ≤ℤ z → z ≤ℤ pos b → Within b z
within_both {b} {z} h k = record { within = abs-le z (omega (arith, of_le k)) (omega (arith, of_le h, parts-neg (pos b))) }

pub within-cond : {b : ℕ} {x y : ℤ} (t : Bool) → Within b x → Within b y → Within b (cond t x y)
within-cond true p q = p
within-cond false p q = q

-- ---- lists: a table by one computed test, any list element by element
pub all_more : {a b : ℕ} {l : List ℤ} → AllWithin a l → a ≤ b → AllWithin b l
all_more s h = record { all = λ k. within_more (s.all k) h }

-- whether each entry of a table is from -b to b
abbrev pub all_within : ℕ → List ℤ → Bool
all_within b [] = true
all_within b (z ∷ l) = leb (nat_abs z) b && all_within b l

table_at : (b : ℕ) (l : List ℤ) → T (all_within b l) → (k : ℕ) → Within b (at l k)
table_at b [] t k = record { within = zero-le }
table_at b (z ∷ l) t zero = within-literal (and_left (leb (nat_abs z) b) (all_within b l) t)
table_at b (z ∷ l) t (suc k) = table_at b l (and_right (leb (nat_abs z) b) (all_within b l) t) k

pub table-within : (b : ℕ) (l : List ℤ) → T (all_within b l) → AllWithin b l
table-within b l t = record { all = table_at b l t }

tab-each : (b n : ℕ) (f : ℕ → ℤ) → ((k : ℕ) → k < n → Within b (f k)) → (k : ℕ) → Within b (at (tab n f) k)
unfolding tab
tab-each b zero f h k = record { within = zero-le }
tab-each b (suc n) f h zero = h zero (suc-le-suc zero-le)
tab-each b (suc n) f h (suc k) = tab-each b n (λ j. f (suc j)) (λ j p. h (suc j) (suc-le-suc p)) k

pub tab-within : (b n : ℕ) (f : ℕ → ℤ) → ((k : ℕ) → k < n → Within b (f k)) → AllWithin b (tab n f)
tab-within b n f h = record { all = tab-each b n f h }
