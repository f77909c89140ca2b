-- `read_i8` meets its contract: it reads an unsigned number, whose bits are those of the signed one. Assumes nothing.
use Prim.Native.Nat.{◌<◌}
use Rattle.format3_records.specs.Field.{twos_complement, byte, signed_byte}
use Rattle.format3_records.proofs.Reader.{last-finds}
use Rattle.format3_records.proofs.Laws.Field.{byte-fits, byte-held}
use Rattle.format3_records.proofs.field.read_i8.Goals as goal

pub returns : goal.returns
unfolding signed_byte
returns c =
    let fits : c.in_ok-value.value < 256 = byte-fits c.args.rest.now c.type_inv.rest c.in_ok-value.ensures in
    rw (byte-held _ _ _ fits c.cast_signed.ensures c.from.ensures) (last-finds byte (twos_complement 128) _ c.in_ok-value.ensures)
