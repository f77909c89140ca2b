-- `last_bits` meets its contract: four bytes, padded with zeros, hold all that is left, at most 32 bits. Assumes nothing.
use mathlib.Core.Path.{◌∙◌, refl}
use Rattle.mpeg1_bits.proofs.Bytes.{from-bytes}
use Rattle.mpeg1_bits.proofs.Rest.{last-window}
use Rattle.mpeg1_bits.proofs.last_bits.Goals as goal

pub returns : goal.returns
returns c =
    last-window c.args.bytes.now c.args.at (λ i. (c.type_inv.bytes i).fits) c.requires.0
    (c.shifted.ensures ∙ rw (c.from_be_bytes-high.ensures, from-bytes, c.byte_or_zero-fourth.ensures, c.byte_or_zero-third.ensures, c.byte_or_zero-second.ensures, c.byte_or_zero-first.ensures) refl)
    c.requires.1
