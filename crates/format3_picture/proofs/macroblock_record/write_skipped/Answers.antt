-- `macroblock_record::write_skipped` meets its contract: one call, for macroblocks that fit. Assumes nothing.
use native.Mathlib.Omega.{arith}
use Rattle.format3_picture.proofs.WriteLaws.{each_fits}
use Rattle.format3_picture.proofs.macroblock_record.write_skipped.Goals as goal

pub write_predictions-requires : goal.write_predictions-requires
write_predictions-requires c =
    record {
      size = c.requires.0.within;
      inside = omega (arith, c.requires.0.follows, c.requires.0.inside);
      small = c.requires.0.skip-within;
      fits = (each_fits c.args.size c.args.plan c.requires.2).0;
      lent = c.requires.1.skip-lent;
    }
