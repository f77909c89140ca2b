-- `vectors::decode` meets its contract: each component is decoded from its own code. Assumes nothing.
use Prim.Native.Nat.{◌≤◌}
use native.Mathlib.Nat.{lt_of_lt_of_le}
use mir.Syntax.{w16, w32}
use Rattle.math.proofs.Machine.{Held, number, kept, bound}
use Rattle.decode_vectors.proofs.VectorLaws.{factor-most}
use Rattle.decode_vectors.specs.Vector.{f_of}
use Rattle.decode_state.proofs.vectors.decode.Goals as goal

pub next_vector-right-requires : goal.next_vector-right-requires
next_vector-right-requires c =
    let right : Held c.args.past.right = kept w32 (number c.requires.small.across) tt in
    let horizontal : Held c.args.codes.horizontal.code = kept w16 (number c.requires.legal.across.code) tt in
    let few : f_of c.args.coding.f_code ≤ 64 = factor-most c.args.coding.f_code c.requires.few in
    (rw c.f_of_coding-f.ensures few, bound right tt, rw c.from.ensures (bound (kept w32 horizontal tt) tt), rw c.from-2.ensures (lt_of_lt_of_le c.requires.legal.across.residual few))

pub next_vector-down-requires : goal.next_vector-down-requires
next_vector-down-requires c =
    let down : Held c.args.past.down = kept w32 (number c.requires.small.below) tt in
    let vertical : Held c.args.codes.vertical.code = kept w16 (number c.requires.legal.down.code) tt in
    let few : f_of c.args.coding.f_code ≤ 64 = factor-most c.args.coding.f_code c.requires.few in
    (rw c.f_of_coding-f.ensures few, bound down tt, rw c.from-3.ensures (bound (kept w32 vertical tt) tt), rw c.from-4.ensures (lt_of_lt_of_le c.requires.legal.down.residual few))
