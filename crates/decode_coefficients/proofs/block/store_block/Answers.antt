-- `store_block` meets its contract: a part of the array overwritten is as many stores. Assumes nothing.
use Prim.Native.Nat.{◌+◌, ◌-◌, ◌*◌}
use mathlib.Core.Path.{◌≡◌}
use native.Mathlib.Omega.{arith}
use lib.IntN.{pos}
use Rattle.math.proofs.Scatter.{part-stored}
use Rattle.decode_coefficients.specs.BlockArray.{put_block}
use Rattle.decode_coefficients.proofs.block.store_block.Goals as goal

pub returns : goal.returns
unfolding put_block
returns c =
    let start : 64 * c.args.block + 64 - 64 * c.args.block ≡ 64 = omega arith in
    rw (c.copy_from_slice.ensures.after, start) (part-stored (pos 0) (64 * c.args.block) 64 c.args.coefficients.now c.args.values (omega arith) (omega arith))
