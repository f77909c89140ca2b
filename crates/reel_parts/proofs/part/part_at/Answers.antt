-- `part_at` meets its contract: it makes the tests of `part_at` in the same order. Assumes nothing.
use mathlib.Core.Bool.{true}
use mathlib.Core.Path.{◌≡◌}
use Prim.Native.Nat.{◌+◌}
use native.Mathlib.Omega.{arith}
use borrow.Author.Tests.{le-leb, lt-leb}
use lib.Dec.{leb}
use lib.ListN.{length}
use Rattle.symbols.specs.Guard.{require◌else◌then◌}
use Rattle.reel_parts.specs.Part.{part_at}
use Rattle.reel_parts.proofs.part.part_at.Goals as goal

pub returns-then-reel-lt-LENGTH_BYTES : goal.returns-then-reel-lt-LENGTH_BYTES
unfolding part_at require◌else◌then◌
returns-then-reel-lt-LENGTH_BYTES c = rw (lt-leb (c.args.at + 4) (length c.args.reel.now) (omega (arith, c.if-reel-lt-LENGTH_BYTES.true)))

pub returns-then-reel-at : goal.returns-then-reel-at
unfolding part_at require◌else◌then◌
returns-then-reel-at c = rw (lt-leb (c.args.at + 4) (length c.args.reel.now) (omega (arith, c.if-reel-lt-LENGTH_BYTES.false, c.if-reel-at.true)))

pub returns-then-reel-start : goal.returns-then-reel-start
unfolding part_at require◌else◌then◌
returns-then-reel-start c =
    let whole : leb (c.args.at + 4) (length c.args.reel.now) ≡ true = le-leb (c.args.at + 4) (length c.args.reel.now) (omega (arith, c.if-reel-lt-LENGTH_BYTES.false, c.if-reel-at.false)) in
    rw (whole, ← c.file_length_at-length.ensures, lt-leb (c.args.at + 4 + c.file_length_at-length.result) (length c.args.reel.now) (omega (arith, c.if-reel-start.true, c.if-reel-at.false, c.if-reel-lt-LENGTH_BYTES.false)))

pub returns : goal.returns
unfolding part_at require◌else◌then◌
returns c =
    let whole : leb (c.args.at + 4) (length c.args.reel.now) ≡ true = le-leb (c.args.at + 4) (length c.args.reel.now) (omega (arith, c.if-reel-lt-LENGTH_BYTES.false, c.if-reel-at.false)) in
    rw (whole, ← c.file_length_at-length.ensures, le-leb (c.args.at + 4 + c.file_length_at-length.result) (length c.args.reel.now) (omega (arith, c.if-reel-start.false, c.if-reel-at.false, c.if-reel-lt-LENGTH_BYTES.false)))
