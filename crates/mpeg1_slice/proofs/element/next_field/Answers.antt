-- `next_field` meets its contract: an n-bit number ends within the bytes. Assumes nothing.
use native.Mathlib.Omega.{arith}
use Rattle.mpeg1_slice.proofs.Laws.Read.{field_fits}
use Rattle.mpeg1_slice.proofs.element.next_field.Goals as goal

pub element_of-requires : goal.element_of-requires
element_of-requires c =
    (c.requires.0.bit_small, rw c.read_field.ensures (field_fits c.args.bytes.now c.args.at c.requires.0 c.args.n c.requires.1 (omega arith)))
