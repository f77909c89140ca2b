-- `store_level` meets its contract: it sets one coefficient. Assumes nothing.
use Prim.Native.Nat.{◌<◌, suc-le-suc}
use native.Mathlib.Omega.{arith}
use lib.ListN.{get_or}
use Rattle.tables.proofs.Zigzag.{raster-below}
use Rattle.decode_coefficients.proofs.block.store_level.Goals as goal

pub bounds-matrix-raster : goal.bounds-matrix-raster
bounds-matrix-raster c =
    let below : get_or c.args.order.now c.args.position 0 < 64 = rw c.requires.3 (raster-below c.args.position (suc-le-suc c.requires.0)) in
    omega (arith, below, c.requires.0)

pub bounds-block-raster : goal.bounds-block-raster
bounds-block-raster c =
    let below : get_or c.args.order.now c.args.position 0 < 64 = rw c.requires.3 (raster-below c.args.position (suc-le-suc c.requires.0)) in
    omega (arith, below, c.requires.0)

pub with_coefficient-requires : goal.with_coefficient-requires
with_coefficient-requires c =
    let below : get_or c.args.order.now c.args.position 0 < 64 = rw c.requires.3 (raster-below c.args.position (suc-le-suc c.requires.0)) in
    below
