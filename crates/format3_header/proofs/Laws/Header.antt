-- A header that passes its tests is within the limits. Assumes nothing.
use mathlib.Core.Path.{◌≡◌}
use mathlib.Core.List.{List}
use Prim.Native.Nat.{ℕ}
use native.Mathlib.Omega.{arith}
use lib.Dec.{eqb}
use lib.ListN.{length}
use Rattle.symbols.specs.Header.{header_with}
use Rattle.symbols.proofs.Guard.{require-all}
use Rattle.symbols.proofs.Laws.Header.{LegalHeaderWithin, made-within}
use Rattle.format3_header.specs.Header.{header_of, fields_of}

pub read-within : (body : List ℕ) → LegalHeaderWithin (header_of body)
unfolding header_of
read-within body = require-all LegalHeaderWithin (eqb (length body) 7) _ (header_with (fields_of body))
    (record { within = λ h e. absurd (let z : ◌≡◌ {A = ℕ} 0 1 = cc in omega arith) })
    (λ long. made-within (fields_of body))
