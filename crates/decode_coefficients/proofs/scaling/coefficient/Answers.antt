-- `scaling::coefficient` meets its contract: the test bounds the numbers for the scaling. Assumes nothing.
use mathlib.Core.Path.{sym}
use Rattle.decode_coefficients.proofs.Ranges.{known-ranges}
use Rattle.decode_coefficients.proofs.scaling.coefficient.Goals as goal

pub scale_level-requires : goal.scale_level-requires
scale_level-requires c =
    let ranges = known-ranges _ _ _ (sym c.if-not-coefficient_entry_in_range.ensures) in
    (ranges.level-within, ranges.scale-within, ranges.weight-within)
