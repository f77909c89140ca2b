-- `pairs::read_pairs` meets its contract: between any two pairs the block holds those read so far. Assumes nothing.
-- The loop's invariant adds that these pairs plus those still to be read are all pairs.
use mathlib.Core.Path.{◌≡◌, refl}
use native.Mathlib.Omega.{arith}
use lib.ListN.{drop}
use mir.Syntax.{w16}
use mir.Val.{to_z, of_z}
use Rattle.std.proofs.Common.{rules}
use Rattle.std.specs.Prelude.{Ok}
use Rattle.math.proofs.Bound.{within-eq}
use Rattle.math.proofs.Machine.{returned}
use Rattle.symbols.proofs.Parsed.{all-at}
use Rattle.format3_records.specs.Reader.{ParsesAs}
use Rattle.format3_records.proofs.Laws.Field.{rest_from}
use Rattle.format3_macroblock.specs.Pairs.{pair_of}
use Rattle.format3_macroblock.proofs.Laws.Pairs.{Legal, pair-legal}
use Rattle.format3_macroblock.proofs.Laws.Landing.{at-start, stops, ends, one_more}
use Rattle.format3_macroblock.proofs.pairs.read_pairs.Goals as goal

pub loop-init : goal.loop-init
loop-init c = rw c.first_position-next.ensures (at-start _ _ _ _ _ c.requires.0 c.requires.1)

pub returns-in-Err-clause-parses_as : goal.returns-in-Err-clause-parses_as
returns-in-Err-clause-parses_as c = stops _ _ _ _ _ c.loop.invariant c.loop-test.true (rw rest_from at c.in-Err.ensures)

pub store_level-marks-requires : goal.store_level-marks-requires
store_level-marks-requires c =
    let got : ParsesAs (pair_of c.loop.next) (drop c.loop.at c.args.rest.now) (Ok c.in-Ok.read) = rw rest_from at c.in-Ok.ensures in
    let lands : Legal c.loop.next c.in-Ok.read.0 = all-at (pair-legal _ _) got.0 in
    let same-level : let level = c.in-Ok.read.0.level in to_z w16 (of_z w16 level) ≡ level = returned w16 (omega (arith, lands.small.within)) refl in
    (rw c.from.ensures lands.low, within-eq same-level lands.small, search rules, search rules)

pub loop-preserved : goal.loop-preserved
loop-preserved c =
    let got : ParsesAs (pair_of c.loop.next) (drop c.loop.at c.args.rest.now) (Ok c.in-Ok.read) = rw rest_from at c.in-Ok.ensures in
    let lands : Legal c.loop.next c.in-Ok.read.0 = all-at (pair-legal _ _) got.0 in
    let same-level : let level = c.in-Ok.read.0.level in to_z w16 (of_z w16 level) ≡ level = returned w16 (omega (arith, lands.small.within)) refl in
    let stored = rw (c.from.ensures, same-level) at c.store_level-marks.ensures in
    rw (stored.block_after, stored.value, c.from.ensures) (one_more _ _ _ _ _ c.loop.invariant c.loop-test.true got)

pub returns-clause-parses_as : goal.returns-clause-parses_as
returns-clause-parses_as c = ends _ _ _ _ _ c.loop.invariant (omega arith)
