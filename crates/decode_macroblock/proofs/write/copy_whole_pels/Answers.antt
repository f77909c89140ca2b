-- `write::copy_whole_pels` meets its contract: the blocks of Y use the vector itself, the chroma blocks its half. Assumes nothing.
use mathlib.Core.Path.{sym, ◌∙◌, subst}
use native.Mathlib.Omega.{arith}
use Rattle.decode_macroblock.specs.declared.compensation.Vector.{Vector}
use Rattle.decode_macroblock.specs.Location.{block_location, put_at}
use Rattle.decode_macroblock.specs.Compensation.{predicted_from, pointed_block}
use Rattle.decode_macroblock.specs.Requires.{Readable}
use Rattle.decode_macroblock.proofs.BlocksLaws.{blocks-none, blocks_more}
use Rattle.decode_macroblock.proofs.CopyLaws.{chroma-vector}
use Rattle.decode_macroblock.proofs.write.copy_whole_pels.Goals as goal

pub returns-then-not-is_whole_pel-clause-output_after : goal.returns-then-not-is_whole_pel-clause-output_after
returns-then-not-is_whole_pel-clause-output_after c = blocks-none _ _ _

pub copy_block_at-requires-2 : goal.copy_block_at-requires-2
copy_block_at-requires-2 c = (
  c.requires.inside,
  rw c.vector_for-chroma.ensures (subst (λ (v : Vector). Readable (block_location c.args.position 5) v c.args.reference.now) (chroma-vector c.args.vector) (c.requires.readable 5 (omega arith))),
  sym c.if-not-is_whole_pel-2.ensures,
  omega arith,
  c.copy_block_at.auto.output ∙ c.copy_luma.auto.output ∙ c.requires.output-whole,
)

pub returns-clause-output_after : goal.returns-clause-output_after
returns-clause-output_after c = let blocks = pointed_block c.args.reference.now c.args.position c.args.vector in
    let five = c.vector_for-chroma.ensures ∙ sym (chroma-vector c.args.vector) in
    c.copy_block_at-2.ensures
    ∙ (λ i. put_at (block_location c.args.position 5) (predicted_from c.args.reference.now (block_location c.args.position 5) (five i)) ((
    c.copy_block_at.ensures
    ∙ (λ j. put_at (block_location c.args.position 4) (predicted_from c.args.reference.now (block_location c.args.position 4) (c.vector_for-chroma.ensures j)) (c.copy_luma.ensures j))
    ∙ blocks_more c.args.position blocks 4 c.args.output.now
    ) i))
    ∙ blocks_more c.args.position blocks 5 c.args.output.now
