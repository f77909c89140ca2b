-- Macroblocks with the addresses 0, 1, 2 and so on: their count, the bytes that belong to one of them, and all other bytes. Assumes nothing.
use mathlib.Core.List.{List, [], ◌∷◌}
use mathlib.Core.Path.{◌≡◌, refl, sym}
use Prim.Native.Nat.{ℕ, ◌+◌, ◌≤◌}
use native.Mathlib.Omega.{arith}
use borrow.Author.Tests.{eq-eqb, ne_eqb}
use lib.IntN.{ℤ}
use lib.ListN.{length}
use Rattle.math.specs.Each.{Each}
use Rattle.math.proofs.Each.{each-with}
use Rattle.symbols.specs.declared.size.PictureSize.{PictureSize}
use Rattle.decode_macroblock.specs.Byte.{byte_of, byte_among}
use Rattle.decode_macroblock.specs.Compensation.{References}
use Rattle.decode_macroblock.specs.Macroblock.{MadeMacroblock, InOrder}
use Rattle.decode_macroblock.specs.Owner.{owner_of}

pub order-count : (first last : ℕ) (l : List MadeMacroblock) → InOrder first l last → first + length l ≡ last
order-count first last [] o = omega (arith, o)
order-count first last (m ∷ l) o = omega (arith, order-count (first + 1) last l o.1)

order-after : (first last : ℕ) (l : List MadeMacroblock) → InOrder first l last → (least : ℕ) → least ≤ first → Each (λ m. least ≤ m.address) l
order-after first last [] o least low = tt
order-after first last (m ∷ l) o least low = (omega (arith, o.0), order-after (first + 1) last l o.1 least (omega arith))

module _ (transform : List ℤ → ℕ → ℤ) (r : References) (s : PictureSize) where
  -- a byte that belongs to one of the macroblocks is that macroblock's
  pub among-own : (first last : ℕ) (l : List MadeMacroblock) → InOrder first l last
      → Each (λ m. (i old : ℕ) → owner_of s i ≡ m.address → byte_among transform r s l i old ≡ byte_of transform r s m i) l
  unfolding byte_among
  among-own first last [] o = tt
  among-own first last (m ∷ l) o = (
    (λ i old e. rw (eq-eqb m.address (owner_of s i) (sym e))),
    each-with (λ n below own i old e. rw (ne_eqb m.address (owner_of s i) (λ q. omega (arith, o.0))) (own i old e)) l
        (order-after (first + 1) last l o.1 (first + 1) (omega arith)) (among-own (first + 1) last l o.1),
  )

  -- any other byte is what it was
  pub among-others : (first last : ℕ) (l : List MadeMacroblock) → InOrder first l last → (i old : ℕ) → last ≤ owner_of s i → byte_among transform r s l i old ≡ old
  unfolding byte_among
  among-others first last [] o i old past = refl
  among-others first last (m ∷ l) o i old past =
      rw (ne_eqb m.address (owner_of s i) (λ q. omega (arith, o.0, order-count (first + 1) last l o.1))) (among-others (first + 1) last l o.1 i old past)
