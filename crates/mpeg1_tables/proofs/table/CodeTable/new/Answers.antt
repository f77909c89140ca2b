-- `CodeTable::new` keeps its invariant: one computed test compares its entries with those split from the word lists. Assumes nothing.
use mathlib.Core.Path.{◌≡◌, sym}
use Rattle.math.specs.Joined.{joined}
use Rattle.math.specs.Tab.{tab}
use Rattle.math.proofs.Joined.{joined_same}
use Rattle.mpeg1_tables.specs.Code.{word, digits_of, is_prefix}
use Rattle.mpeg1_tables.specs.AnnexB.{increment_words, increments, increments_after_escape, intra_types, predicted_types, bidirectional_types, patterns, motion_codes, luminance_sizes, chrominance_sizes, shared_words, next_coefficients}
use Rattle.mpeg1_tables.specs.Table.{code_table, entry_of, packed, table_rows}
use Rattle.mpeg1_tables.proofs.Laws.Branch.{branch_of, branches, grown, after, descended, split, split_row, row-entries}
use Rattle.mpeg1_tables.proofs.table.CodeTable.new.Goals as goal

by-splitting : code_table ≡ joined (λ r. split_row r 8) table_rows
unfolding code_table
by-splitting = joined_same (λ r. tab 256 (entry_of r 8)) (λ r. split_row r 8) table_rows (λ r. row-entries r 8)

pub invariant_of-result : goal.invariant_of-result
unfolding joined split_row split descended after grown branches branch_of is_prefix packed word digits_of increment_words increments increments_after_escape intra_types predicted_types bidirectional_types patterns motion_codes luminance_sizes chrominance_sizes shared_words next_coefficients
invariant_of-result c = record { as_listed = sym by-splitting }
