-- Laws of a chain of tests. Assumes nothing.
use mathlib.Core.Path.{◌≡◌, refl}
use mathlib.Core.Bool.{Bool, true, false, ◌&&◌}
use Prim.Native.Nat.{ℕ}
use native.Mathlib.Omega.{arith}
use Rattle.symbols.specs.Guard.{require◌else◌then◌}

-- what holds for the answer if the test fails, and for the rest if it passes, holds for the whole
pub require-cases : {A : Type 0} (P : A → Type 0) (test : Bool) (answer rest : A) → (test ≡ false → P answer) → (test ≡ true → P rest) → P (require test else answer then rest)
unfolding require◌else◌then◌
require-cases P true answer rest a r = r refl
require-cases P false answer rest a r = a refl

pub require-all : {A : Type 0} (P : A → Type 0) (test : Bool) (answer rest : A) → P answer → (test ≡ true → P rest) → P (require test else answer then rest)
require-all P test answer rest a r = require-cases P test answer rest (λ f. a) r

-- a test that passes, and one that fails
pub passes : {A : Type 0} (test : Bool) (answer rest : A) → test ≡ true → (require test else answer then rest) ≡ rest
unfolding require◌else◌then◌
passes true answer rest e = refl
passes false answer rest e = absurd (let z : ◌≡◌ {A = ℕ} 0 1 = cc in omega arith)

pub fails : {A : Type 0} (test : Bool) (answer rest : A) → test ≡ false → (require test else answer then rest) ≡ answer
unfolding require◌else◌then◌
fails true answer rest e = absurd (let z : ◌≡◌ {A = ℕ} 0 1 = cc in omega arith)
fails false answer rest e = refl

-- both tests of a conjunction pass
pub both : (a b : Bool) → a && b ≡ true → (a ≡ true) × (b ≡ true)
both true b e = (refl, e)
both false b e = absurd (let z : ◌≡◌ {A = ℕ} 0 1 = cc in omega arith)

-- what each test of a chain does, for a function that makes the same tests
pub ruleset guards = (passes, fails)
