-- `residue::reconstruct_coded_block` meets its contract: it transforms the block's own coefficients by their marks. Assumes nothing.
use mathlib.Core.Path.{ap, ◌∙◌}
use mathlib.Core.List.{List, []}
use Prim.Native.Nat.{ℕ}
use lib.IntN.{ℤ}
use Rattle.math.proofs.Tab.{tab-at}
use Rattle.math.specs.Bound.{AllWithin}
use Rattle.math.proofs.Bound.{within-literal, tab-within}
use Rattle.math.proofs.Limit.{all-between-within}
use Rattle.decode_coefficients.specs.BlockArray.{block_in}
use Rattle.decode_coefficients.specs.Rows.{rows_worked}
use Rattle.decode_idct.specs.Transform.{residues_by}
use Rattle.decode_idct.proofs.Passes.{residue-within}
use Rattle.decode_macroblock.proofs.residue.reconstruct_coded_block.Goals as goal

residues-within : (transform : List ℤ → ℕ → ℤ) (c : List ℤ) → AllWithin 256 (residues_by transform c)
unfolding residues_by
residues-within transform c = tab-within 256 64 _ (λ k h. residue-within (transform c k))

pub inverse_transform-residues-requires : goal.inverse_transform-residues-requires
inverse_transform-residues-requires c =
    let own = tab-at 6 (block_in c.args.coefficients.now) c.args.block [] c.requires.1 in
    rw c.block_coefficients-own.ensures
    (rw (← own) (all-between-within (c.requires.0.in-range.all c.args.block) (within-literal tt) (within-literal tt)), c.requires.0.marked.each c.args.block c.requires.1)

pub reconstruct_block-pels-requires : goal.reconstruct_block-pels-requires
reconstruct_block-pels-requires c = rw c.inverse_transform-residues.ensures.values (residues-within _ _)

pub returns-clause-pels_value : goal.returns-clause-pels_value
returns-clause-pels_value c = rw (tab-at 6 (block_in c.args.coefficients.now) c.args.block [] c.requires.1) (c.reconstruct_block-pels.ensures ∙ rw (c.inverse_transform-residues.ensures.values, c.block_coefficients-own.ensures))

pub returns-clause-rows_value : goal.returns-clause-rows_value
returns-clause-rows_value c = rw (tab-at 6 (block_in c.args.coefficients.now) c.args.block [] c.requires.1) (c.inverse_transform-residues.ensures.rows ∙ ap rows_worked c.block_coefficients-own.ensures)
