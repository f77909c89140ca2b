-- `CodeTable::code` meets its contract: the entry is that of the row and the bits. Assumes nothing.
use mathlib.Core.Path.{◌∙◌}
use Rattle.mpeg1_tables.proofs.Laws.Table.{code-entry}
use Rattle.mpeg1_tables.proofs.table.CodeTable.code.Goals as goal

pub returns : goal.returns
returns c = c.unpacked.ensures ∙ rw c.args.self.now.as_listed (code-entry c.args.row c.args.bits c.requires.0 c.requires.1)
