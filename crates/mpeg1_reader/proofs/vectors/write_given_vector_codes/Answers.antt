-- `write_given_vector_codes` meets its contract: it writes nothing if the type has no codes. Assumes nothing.
use mathlib.Core.Path.{refl, sym, ◌∙◌}
use Rattle.symbols.proofs.Parsed.{here}
use Rattle.format3_writer.specs.Written.{written}
use Rattle.mpeg1_slice.specs.Vectors.{given_vector_codes_at}
use Rattle.mpeg1_reader.proofs.vectors.write_given_vector_codes.Goals as goal

pub returns-clause-written_at : goal.returns-clause-written_at
unfolding given_vector_codes_at written
returns-clause-written_at c = rw (sym c.has_part.ensures ∙ c.if-has_part.false) (here refl)
