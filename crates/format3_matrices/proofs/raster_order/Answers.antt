-- `raster_order` meets its contract: before weight k, the first k are at their raster indices. Assumes nothing.
use Prim.Native.Nat.{◌<◌}
use mathlib.Core.Path.{◌≡◌, refl}
use native.Mathlib.Numerals.{add-one}
use native.Mathlib.Omega.{arith}
use lib.ListN.{length, get_or}
use Rattle.std.proofs.Common.{length-append}
use Rattle.std.proofs.lemmas.Slice.Zip.{zip_turn, zip_end}
use Rattle.math.specs.Scatter.{scatter}
use Rattle.math.specs.Tab.{tab}
use Rattle.tables.specs.Tables.{zigzag}
use Rattle.tables.proofs.Zigzag.{raster-below}
use Rattle.format3_matrices.specs.Matrix.{raster_order}
use Rattle.format3_matrices.proofs.raster_order.Goals as goal

zigzag-long : length zigzag ≡ 64
unfolding zigzag tab
zigzag-long = refl

pub bounds-matrix-from : goal.bounds-matrix-from
bounds-matrix-from c =
    let pairs = c.into_iter-raster-iterator.result in
    let from = c.into_iter-raster-iterator.ensures.into_iter_gives in
    let zip = c.zip-raster-items.ensures in
    let first : pairs.a.rest.now ≡ zigzag = rw (from, zip.first, c.iter.ensures.rest) c.zigzag_table-zigzag.ensures in
    let second : pairs.b.rest.now ≡ c.args.weights.now = rw from zip.second.0 in
    let turn = zip_turn zigzag c.args.weights.now c.loop-raster.yielded pairs c.loop-raster.raster-iterator c.next.new.self c.next.result first second c.loop-raster.yielded_by _ c.in-Some.is c.next.ensures.steps in
    let here : c.in-Some.raster.now ≡ get_or zigzag (length c.loop-raster.yielded) 0 = turn.2 0 in
    let below : get_or zigzag (length c.loop-raster.yielded) 0 < 64 = raster-below _ (omega (arith, turn.1)) in
    omega (arith, below, here)

pub loop-raster-preserved : goal.loop-raster-preserved
unfolding scatter
loop-raster-preserved c =
    let pairs = c.into_iter-raster-iterator.result in
    let from = c.into_iter-raster-iterator.ensures.into_iter_gives in
    let zip = c.zip-raster-items.ensures in
    let first : pairs.a.rest.now ≡ zigzag = rw (from, zip.first, c.iter.ensures.rest) c.zigzag_table-zigzag.ensures in
    let second : pairs.b.rest.now ≡ c.args.weights.now = rw from zip.second.0 in
    let turn = zip_turn zigzag c.args.weights.now c.loop-raster.yielded pairs c.loop-raster.raster-iterator c.next.new.self c.next.result first second c.loop-raster.yielded_by _ c.in-Some.is c.next.ensures.steps in
    rw (length-append, add-one, c.from.ensures, turn.2 0, turn.3 0, c.loop-raster.invariant)

pub returns : goal.returns
unfolding raster_order
returns c =
    let pairs = c.into_iter-raster-iterator.result in
    let from = c.into_iter-raster-iterator.ensures.into_iter_gives in
    let zip = c.zip-raster-items.ensures in
    let first : pairs.a.rest.now ≡ zigzag = rw (from, zip.first, c.iter.ensures.rest) c.zigzag_table-zigzag.ensures in
    let second : pairs.b.rest.now ≡ c.args.weights.now = rw from zip.second.0 in
    let end = zip_end zigzag c.args.weights.now c.loop-raster.yielded pairs c.loop-raster.raster-iterator c.next.new.self c.next.result first second c.loop-raster.yielded_by c.in-None.is c.next.ensures.steps in
    rw (c.loop-raster.invariant, end, c.requires, zigzag-long)
