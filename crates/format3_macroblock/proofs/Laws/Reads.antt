-- What a function needs that makes the same tests as a parser: what each test does, that a signed number is passed on as it is, and the bytes after
-- two fields. Assumes nothing.
use lib.ListN.{length-drop}
use lib.Seq.{drop-drop}
use mir.ValLaws.{to_z-of_z}
use Rattle.symbols.proofs.Guard.{passes, fails}
use Rattle.format3_records.proofs.Laws.Field.{rest_from}

pub ruleset reads = (passes, fails, to_z-of_z, rest_from, drop-drop, length-drop)
