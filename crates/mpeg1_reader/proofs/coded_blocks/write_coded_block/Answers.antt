-- `write_coded_block` meets its contract: it writes the block if it is coded, else nothing. Assumes nothing.
use mathlib.Core.Path.{refl, sym, ◌∙◌}
use Rattle.symbols.proofs.Parsed.{here}
use Rattle.format3_writer.specs.Written.{written}
use Rattle.format3_writer.specs.Records.{block_bytes}
use Rattle.mpeg1_slice.specs.Blocks.{given_block_at}
use Rattle.mpeg1_reader.proofs.coded_blocks.write_coded_block.Goals as goal

pub returns-then-is_coded-clause-written_at : goal.returns-then-is_coded-clause-written_at
unfolding given_block_at
returns-then-is_coded-clause-written_at c = rw (sym c.is_coded.ensures ∙ c.if-is_coded.true) c.write_block.ensures.written_at

pub returns-clause-written_at : goal.returns-clause-written_at
unfolding given_block_at block_bytes written
returns-clause-written_at c = rw (sym c.is_coded.ensures ∙ c.if-is_coded.false) (here refl)
