-- `legal_type` meets its contract: bits mark the legal types below 32, and none is higher. Assumes nothing.
use native.Mathlib.Omega.{arith}
use borrow.Author.Tests.{ne_eqb}
use Rattle.symbols.specs.MacroblockType.{legal_type}
use Rattle.symbols.proofs.Laws.MacroblockType.{types-of-I, types-of-P, types-of-B}
use Rattle.symbols.proofs.macroblock_type.legal_type.Goals as goal
use Rattle.symbols.proofs.macroblock_type.legal_type.Goals.{in-1, in-2, in_default}

pub returns : goal.returns
unfolding legal_type
returns c = elim c.match-coding.branch [
  | in-1 w ↦ rw (w.types-is, w.in-1.is) (types-of-I _ c.if-macroblock_type-gt31.false)
  | in-2 w ↦ rw (w.types-is, w.in-2.is) (types-of-P _ c.if-macroblock_type-gt31.false)
  | in_default w ↦ rw (w.types-is, ne_eqb c.args.coding 1 (λ e. omega arith), ne_eqb c.args.coding 2 (λ e. omega arith)) (types-of-B _ c.if-macroblock_type-gt31.false)
]
