-- A chain of tests, each with the answer to give if it fails: the first failure decides.
use Rattle.std.specs.Prelude.{Bool, true, false}

infixr 5 require◌else◌then◌
-- the rest if the test passes, otherwise the answer
unfoldable pub require◌else◌then◌ : {A : Type 0} → Bool → A → A → A
require true else answer then rest = rest
require false else answer then rest = answer
