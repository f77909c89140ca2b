-- The refusals' numbers are distinct: each leads back to its refusal. Assumes nothing.
use mathlib.Core.Path.{◌≡◌, refl, sym, ap, ◌∙◌}
use mathlib.Core.Bool.{Bool, cond, true, ◌&&◌}
use mathlib.Core.List.{List, [], ◌∷◌}
use Prim.Native.Nat.{ℕ}
use native.Mathlib.Omega.{arith}
use lib.Dec.{leb}
use lib.ListN.{get_or}
use Rattle.refusals.specs.declared.Refusal.{Refusal}
use Rattle.refusals.specs.declared.Refusal.TheVariants as R
use Rattle.refusals.specs.Refusal.{accepted, number_of}

-- the refusals by number; a number that no refusal has, 0 or one of 28 to 32, holds the first one
by_number : List Refusal
by_number =
    R.FileEmpty ∷
    R.FileEmpty ∷
    R.Version ∷
    R.RecordCut ∷
    R.RecordKind ∷
    R.OutOfTurn ∷
    R.BodyLength ∷
    R.FileEnds ∷
    R.Header ∷
    R.Matrix ∷
    R.QuantizerScale ∷
    R.SliceStart ∷
    R.MacroblockType ∷
    R.AddressIncrement ∷
    R.VectorCode ∷
    R.Pattern ∷
    R.Coefficient ∷
    R.DcCoefficient ∷
    R.ForwardVectorOutside ∷
    R.OutputLength ∷
    R.ForwardLength ∷
    R.BackwardLength ∷
    R.NumberOutOfRange ∷
    R.BackwardVectorOutside ∷
    R.SliceCode ∷
    R.SliceCut ∷
    R.RecordsLength ∷
    R.MacroblockLimit ∷
    R.FileEmpty ∷
    R.FileEmpty ∷
    R.FileEmpty ∷
    R.FileEmpty ∷
    R.FileEmpty ∷
    R.VectorUnreachable ∷
    []

refusal_of : ℕ → Refusal
refusal_of n = get_or by_number n R.FileEmpty

back : (refusal : Refusal) → refusal_of (number_of refusal) ≡ refusal
unfolding refusal_of by_number
back R.FileEmpty = refl
back R.Version = refl
back R.RecordCut = refl
back R.RecordKind = refl
back R.OutOfTurn = refl
back R.BodyLength = refl
back R.FileEnds = refl
back R.Header = refl
back R.Matrix = refl
back R.QuantizerScale = refl
back R.SliceStart = refl
back R.MacroblockType = refl
back R.AddressIncrement = refl
back R.VectorCode = refl
back R.Pattern = refl
back R.Coefficient = refl
back R.DcCoefficient = refl
back R.ForwardVectorOutside = refl
back R.BackwardVectorOutside = refl
back R.MacroblockLimit = refl
back R.OutputLength = refl
back R.ForwardLength = refl
back R.BackwardLength = refl
back R.NumberOutOfRange = refl
back R.VectorUnreachable = refl
back R.SliceCode = refl
back R.SliceCut = refl
back R.RecordsLength = refl

-- two refusals never share a number
pub numbers-differ : (a b : Refusal) → number_of a ≡ number_of b → a ≡ b
numbers-differ a b same = sym (back a) ∙ ap refusal_of same ∙ back b

-- and none has the number of acceptance
pub never-accepted : (refusal : Refusal) → number_of refusal ≡ accepted → ⊥
unfolding refusal_of by_number
never-accepted refusal e =
    let first : refusal ≡ R.FileEmpty = sym (back refusal) ∙ ap refusal_of e in
    let none : number_of R.FileEmpty ≡ 0 = sym (ap number_of first) ∙ e in
    omega arith

-- ---- the refusals that reading a record after the header can cause: 3 to 6 and 9 to 17. Vectors that don't fit cause 18 and 23
abbrev pub of_reading : Refusal → Bool
of_reading refusal = leb 3 (number_of refusal) && cond (leb (number_of refusal) 6) true (leb 9 (number_of refusal) && leb (number_of refusal) 17)
