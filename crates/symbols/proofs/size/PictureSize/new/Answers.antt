-- `PictureSize::new` meets its contract: it makes the same tests as `legal_size`, in the same order. Assumes nothing.
use mathlib.Core.Bool.{true, false, ◌&&◌}
use mathlib.Core.Path.{◌≡◌}
use native.Mathlib.Omega.{arith}
use lib.Dec.{leb}
use Rattle.std.proofs.lemmas.Grind.{common_steps}
use Rattle.symbols.specs.Guard.{require◌else◌then◌}
use Rattle.symbols.specs.Size.{max_width, max_height, legal_size, size_of}
use Rattle.symbols.proofs.size.PictureSize.new.Goals as goal

pub returns-then-not-contains-2 : goal.returns-then-not-contains-2
unfolding size_of legal_size require◌else◌then◌
returns-then-not-contains-2 c =
    let wide : leb 1 c.args.width && leb c.args.width max_width ≡ true = grind (arith, common_steps) in
    let high : leb 1 c.args.height && leb c.args.height max_height ≡ false = grind (arith, common_steps) in
    rw (wide, high)
