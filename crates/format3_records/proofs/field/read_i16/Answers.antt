-- `read_i16` meets its contract: it reads an unsigned number, whose bits are those of the signed one. Assumes nothing.
use Prim.Native.Nat.{◌<◌}
use Rattle.format3_records.specs.Field.{twos_complement, two_bytes, signed_two_bytes}
use Rattle.format3_records.proofs.Reader.{last-finds}
use Rattle.format3_records.proofs.Laws.Field.{word-fits, word-held}
use Rattle.format3_records.proofs.field.read_i16.Goals as goal

pub returns : goal.returns
unfolding signed_two_bytes
returns c =
    let fits : c.in_ok-value.value < 65536 = word-fits c.args.rest.now c.type_inv.rest c.in_ok-value.ensures in
    rw (word-held _ _ fits c.cast_signed.ensures) (last-finds two_bytes (twos_complement 32768) _ c.in_ok-value.ensures)
