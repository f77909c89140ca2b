-- `next_start` meets its contract: a start code ends within the bytes. Assumes nothing.
use native.Mathlib.Omega.{arith}
use Rattle.mpeg1_bits.specs.Bits.{bits_from}
use Rattle.mpeg1_bits.proofs.Rest.{rest-binary}
use Rattle.mpeg1_vlc.specs.SliceStart.{slice_start_of}
use Rattle.mpeg1_slice.specs.Slice.{first_bit}
use Rattle.mpeg1_slice.proofs.Laws.Read.{first-inside, code_fits}
use Rattle.mpeg1_slice.proofs.Laws.Words.{start-read}
use Rattle.mpeg1_slice.proofs.element.next_start.Goals as goal

pub element_of-requires : goal.element_of-requires
element_of-requires c = (
  omega arith,
  rw c.read_slice_start.ensures (code_fits c.args.bytes.now first_bit (first-inside c.args.bytes.now) (slice_start_of c.args.height (bits_from c.args.bytes.now first_bit))
      (λ v n e. let k = start-read c.args.height (rest-binary c.args.bytes.now first_bit) v n e in (k.few, k.inside)) (omega arith)),
)
