-- `only_zeros_left` meets its contract: if the next 32 bits are 0, only the bytes after the current one are left to check. Assumes nothing.
use mathlib.Core.Path.{◌≡◌, ap, sym, ◌∙◌}
use Prim.Native.Nat.{◌+◌, ◌-◌}
use native.Mathlib.Omega.{arith}
use lib.ListN.{length, drop, length-drop}
use lib.Seq.{take_all}
use Rattle.mpeg1_bits.specs.declared.Window.{Window}
use Rattle.mpeg1_bits.specs.Bits.{leading_number, bits_from}
use Rattle.mpeg1_bits.proofs.Zeros.{not_zeros, zeros-past, rest-zeros}
use Rattle.mpeg1_bits.proofs.only_zeros_left.Goals as goal

pub returns-then-next-ne0 : goal.returns-then-next-ne0
returns-then-next-ne0 c =
    let number : c.peek-next.result.bits ≡ leading_number 32 (bits_from c.args.bytes.now c.args.at) = ap (λ (w : Window). w.bits) c.peek-next.ensures in
    sym (not_zeros c.args.bytes.now c.args.at (λ e. c.if-next-ne0.true (number ∙ e)))

pub returns-then-bytes-byte : goal.returns-then-bytes-byte
returns-then-bytes-byte c =
    sym (zeros-past c.args.bytes.now c.args.at c.if-bytes-byte.true)

pub returns : goal.returns
returns c =
    let number : c.peek-next.result.bits ≡ leading_number 32 (bits_from c.args.bytes.now c.args.at) = ap (λ (w : Window). w.bits) c.peek-next.ensures in
    c.zero_bytes.ensures
    ∙ rw (take_all (length c.args.bytes.now - (c.args.at.byte + 1)) (drop (c.args.at.byte + 1) c.args.bytes.now) (omega (arith, length-drop (c.args.at.byte + 1) c.args.bytes.now))) (sym (rest-zeros c.args.bytes.now c.args.at c.requires.bit_small c.if-bytes-byte.false (sym number ∙ c.if-next-ne0.false)))
