-- `read_slice` meets its contract: it tests the given numbers, then reads the slice. Assumes nothing.
use Rattle.std.proofs.Common.{rules, ◌≡◌}
use Rattle.std.specs.Prelude.{Ok}
use Rattle.symbols.specs.Header.{header_with}
use Rattle.symbols.proofs.Laws.Header.{made-within}
use Rattle.mpeg1_reader.specs.Answer.{given_fields}
use Rattle.mpeg1_reader.proofs.Laws.Answer.{legal-height}
use Rattle.mpeg1_reader.proofs.entry.read_slice.Goals as goal

pub read_with_room-requires : goal.read_with_room-requires
read_with_room-requires c =
    let legal : header_with (given_fields c.args.given) ≡ Ok c.in_ok-header.header = search rules in
    ((made-within _).within _ legal, legal-height _ legal)
