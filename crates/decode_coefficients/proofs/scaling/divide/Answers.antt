-- `scaling::divide` meets its contract: neither the products nor the quotient overflow. Assumes nothing.
use lib.IntN.{◌*ℤ◌}
use mir.Syntax.{w32}
use Rattle.math.proofs.Machine.{Held, fits, kept, parameter, ◌⊠◌, over}
use Rattle.decode_coefficients.specs.Scaling.{quotient_over}
use Rattle.decode_coefficients.proofs.scaling.divide.Goals as goal

pub overflow_mul-result-2 : goal.overflow_mul-result-2
overflow_mul-result-2 c =
    let one : Held (c.args.doubled *ℤ c.args.scale) = parameter c.ranges.doubled c.requires.0 ⊠ parameter c.ranges.scale c.requires.1 in
    let two : Held (c.args.doubled *ℤ c.args.scale *ℤ c.args.weight) = kept w32 one tt ⊠ parameter c.ranges.weight c.requires.2 in
    fits two tt

pub returns : goal.returns
returns c =
    let one : Held (c.args.doubled *ℤ c.args.scale) = parameter c.ranges.doubled c.requires.0 ⊠ parameter c.ranges.scale c.requires.1 in
    let two : Held (c.args.doubled *ℤ c.args.scale *ℤ c.args.weight) = kept w32 one tt ⊠ parameter c.ranges.weight c.requires.2 in
    let sixteenth : Held (quotient_over 16 c.args.doubled c.args.scale c.args.weight) = over (kept w32 two tt) 16 tt in
    (kept w32 sixteenth tt).is
