-- Laws of macroblocks in address order: two lists joined, and a run of uncoded macroblocks. Assumes nothing.
use mathlib.Core.Path.{◌≡◌, refl, sym, subst}
use mathlib.Core.List.{List, [], ◌∷◌, ◌++◌}
use Prim.Native.Nat.{ℕ, zero, suc, ◌+◌, ◌≤◌}
use native.Mathlib.Omega.{arith}
use Rattle.math.specs.Each.{Each}
use Rattle.math.specs.Tab.{tab}
use Rattle.decode_macroblock.specs.declared.compensation.Motion.{Motion}
use Rattle.decode_macroblock.specs.Macroblock.{MadeMacroblock, predicted_only, predicted_only_from, InOrder}

pub order_below : (first last : ℕ) (macroblocks : List MadeMacroblock) → InOrder first macroblocks last → first ≤ last
order_below first last [] e = omega arith
order_below first last (m ∷ macroblocks) e = omega (arith, order_below (first + 1) last macroblocks e.1)

pub order-both : (first middle last : ℕ) (a b : List MadeMacroblock) → InOrder first a middle → InOrder middle b last → InOrder first (a ++ b) last
order-both first middle last [] b p q = subst (λ (n : ℕ). InOrder n b last) (sym p) q
order-both first middle last (m ∷ a) b p q = (p.0, order-both (first + 1) middle last a b p.1 q)

-- ---- a run of uncoded macroblocks
-- f gives their addresses
run-order : (m : Motion) (n first : ℕ) (f : ℕ → ℕ) → ((k : ℕ) → f k ≡ first + k) → InOrder first (tab n (λ k. predicted_only (f k) m)) (first + n)
unfolding tab
run-order m zero first f e = omega arith
run-order m (suc n) first f e =
    let start : f 0 ≡ first = omega (arith, e 0) in
    let end : first + 1 + n ≡ first + suc n = omega arith in
    (start, subst (InOrder (first + 1) (tab n (λ k. predicted_only (f (suc k)) m))) end (run-order m n (first + 1) (λ k. f (suc k)) (λ k. omega (arith, e (suc k)))))

pub uncoded-order : (first n : ℕ) (m : Motion) → InOrder first (predicted_only_from first n m) (first + n)
uncoded-order first n m = run-order m n first (λ k. first + k) (λ k. refl)

run-each : (P : MadeMacroblock → Type 0) (m : Motion) → ((address : ℕ) → P (predicted_only address m)) → (n : ℕ) (f : ℕ → ℕ) → Each P (tab n (λ k. predicted_only (f k) m))
unfolding tab
run-each P m p zero f = tt
run-each P m p (suc n) f = (p (f 0), run-each P m p n (λ k. f (suc k)))

pub uncoded-each : (P : MadeMacroblock → Type 0) (m : Motion) → ((address : ℕ) → P (predicted_only address m)) → (first n : ℕ) → Each P (predicted_only_from first n m)
uncoded-each P m p first n = run-each P m p n (λ k. first + k)
