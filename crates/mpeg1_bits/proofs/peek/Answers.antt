-- `peek` meets its contract: five bytes hold 40 bits, and the next 32 start within the first byte. Assumes nothing.
use mathlib.Core.Path.{◌∙◌, refl}
use native.Mathlib.Omega.{arith}
use Rattle.mpeg1_bits.proofs.Bytes.{from-bytes}
use Rattle.mpeg1_bits.proofs.Rest.{full-window}
use Rattle.mpeg1_bits.proofs.peek.Goals as goal

pub returns-then-left-gt4 : goal.returns-then-left-gt4
returns-then-left-gt4 c =
    full-window c.args.bytes.now c.args.at (λ i. (c.type_inv.bytes i).fits) c.requires
    (c.shifted.ensures ∙ rw (c.from_be_bytes-high.ensures, from-bytes) refl)
    (omega arith)
