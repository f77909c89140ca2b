-- `zero_bytes` meets its contract: the bits of bytes are zeros exactly if the bytes are. Assumes nothing.
use Rattle.std.proofs.Common.{◌≡◌, rules, tests}
use Rattle.std.proofs.lemmas.Iterator.{cases_from_all, YieldsList-from_slice}
use Rattle.mpeg1_bits.proofs.Zeros.{zeros-decided}
use Rattle.mpeg1_bits.proofs.zero_bytes.Goals as goal

pub returns : goal.returns
returns c =
    zeros-decided c.args.bytes.now c.all.result (λ i. (c.type_inv.bytes i).fits)
    (cases_from_all _ _ _ (λ x. x ≡ 0) (λ x. x ≡ 0 → ⊥) c.all.ensures.ran (YieldsList-from_slice c.args.bytes.now cc) (λ x q k. search (rules, tests)) (λ x q k. search (rules, tests)))
