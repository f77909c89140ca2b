-- `line::transform_line` meets its contract: each of the eight numbers is a sum or a difference of two halves. Assumes nothing.
use Prim.Native.Nat.{◌^◌}
use mathlib.Core.List.{List, [], ◌∷◌}
use mathlib.Core.Path.{◌∙◌}
use lib.IntN.{ℤ}
use mir.Syntax.{w64}
use Rattle.math.proofs.Bound.{table-within}
use Rattle.math.proofs.Machine.{Held, fits, kept, result, ◌⊞◌, ◌⊟◌}
use Rattle.decode_idct.proofs.Halves.{even0, even1, even2, even3, odd0, odd1, odd2, odd3, half-within, halves-sum, halves-difference, line-is}
use Rattle.decode_idct.specs.Line.{half_sum}
use Rattle.decode_idct.proofs.line.transform_line.Goals as goal

pub overflow_add-result : goal.overflow_add-result
overflow_add-result c =
    let input : List ℤ = c.args.x in
    let e0 : Held (half_sum even0 input 0) = result w64 c.half_line-e0.ensures (half-within even0 input 0 (table-within (2 ^ 20) even0 tt) c.requires) tt in
    let o0 : Held (half_sum odd0 input 1) = result w64 c.half_line-o0.ensures (half-within odd0 input 1 (table-within (2 ^ 20) odd0 tt) c.requires) tt in
    fits (e0 ⊞ o0) tt

pub overflow_add-result-2 : goal.overflow_add-result-2
overflow_add-result-2 c =
    let input : List ℤ = c.args.x in
    let e1 : Held (half_sum even1 input 0) = result w64 c.half_line-e1.ensures (half-within even1 input 0 (table-within (2 ^ 20) even1 tt) c.requires) tt in
    let o1 : Held (half_sum odd1 input 1) = result w64 c.half_line-o1.ensures (half-within odd1 input 1 (table-within (2 ^ 20) odd1 tt) c.requires) tt in
    fits (e1 ⊞ o1) tt

pub overflow_add-result-3 : goal.overflow_add-result-3
overflow_add-result-3 c =
    let input : List ℤ = c.args.x in
    let e2 : Held (half_sum even2 input 0) = result w64 c.half_line-e2.ensures (half-within even2 input 0 (table-within (2 ^ 20) even2 tt) c.requires) tt in
    let o2 : Held (half_sum odd2 input 1) = result w64 c.half_line-o2.ensures (half-within odd2 input 1 (table-within (2 ^ 20) odd2 tt) c.requires) tt in
    fits (e2 ⊞ o2) tt

pub overflow_add-result-4 : goal.overflow_add-result-4
overflow_add-result-4 c =
    let input : List ℤ = c.args.x in
    let e3 : Held (half_sum even3 input 0) = result w64 c.half_line-e3.ensures (half-within even3 input 0 (table-within (2 ^ 20) even3 tt) c.requires) tt in
    let o3 : Held (half_sum odd3 input 1) = result w64 c.half_line-o3.ensures (half-within odd3 input 1 (table-within (2 ^ 20) odd3 tt) c.requires) tt in
    fits (e3 ⊞ o3) tt

pub overflow_sub-result : goal.overflow_sub-result
overflow_sub-result c =
    let input : List ℤ = c.args.x in
    let e3 : Held (half_sum even3 input 0) = result w64 c.half_line-e3.ensures (half-within even3 input 0 (table-within (2 ^ 20) even3 tt) c.requires) tt in
    let o3 : Held (half_sum odd3 input 1) = result w64 c.half_line-o3.ensures (half-within odd3 input 1 (table-within (2 ^ 20) odd3 tt) c.requires) tt in
    fits (e3 ⊟ o3) tt

pub overflow_sub-result-2 : goal.overflow_sub-result-2
overflow_sub-result-2 c =
    let input : List ℤ = c.args.x in
    let e2 : Held (half_sum even2 input 0) = result w64 c.half_line-e2.ensures (half-within even2 input 0 (table-within (2 ^ 20) even2 tt) c.requires) tt in
    let o2 : Held (half_sum odd2 input 1) = result w64 c.half_line-o2.ensures (half-within odd2 input 1 (table-within (2 ^ 20) odd2 tt) c.requires) tt in
    fits (e2 ⊟ o2) tt

pub overflow_sub-result-3 : goal.overflow_sub-result-3
overflow_sub-result-3 c =
    let input : List ℤ = c.args.x in
    let e1 : Held (half_sum even1 input 0) = result w64 c.half_line-e1.ensures (half-within even1 input 0 (table-within (2 ^ 20) even1 tt) c.requires) tt in
    let o1 : Held (half_sum odd1 input 1) = result w64 c.half_line-o1.ensures (half-within odd1 input 1 (table-within (2 ^ 20) odd1 tt) c.requires) tt in
    fits (e1 ⊟ o1) tt

pub overflow_sub-result-4 : goal.overflow_sub-result-4
overflow_sub-result-4 c =
    let input : List ℤ = c.args.x in
    let e0 : Held (half_sum even0 input 0) = result w64 c.half_line-e0.ensures (half-within even0 input 0 (table-within (2 ^ 20) even0 tt) c.requires) tt in
    let o0 : Held (half_sum odd0 input 1) = result w64 c.half_line-o0.ensures (half-within odd0 input 1 (table-within (2 ^ 20) odd0 tt) c.requires) tt in
    fits (e0 ⊟ o0) tt

pub returns : goal.returns
returns c =
    let input : List ℤ = c.args.x in
    let e0 : Held (half_sum even0 input 0) = result w64 c.half_line-e0.ensures (half-within even0 input 0 (table-within (2 ^ 20) even0 tt) c.requires) tt in
    let e1 : Held (half_sum even1 input 0) = result w64 c.half_line-e1.ensures (half-within even1 input 0 (table-within (2 ^ 20) even1 tt) c.requires) tt in
    let e2 : Held (half_sum even2 input 0) = result w64 c.half_line-e2.ensures (half-within even2 input 0 (table-within (2 ^ 20) even2 tt) c.requires) tt in
    let e3 : Held (half_sum even3 input 0) = result w64 c.half_line-e3.ensures (half-within even3 input 0 (table-within (2 ^ 20) even3 tt) c.requires) tt in
    let o0 : Held (half_sum odd0 input 1) = result w64 c.half_line-o0.ensures (half-within odd0 input 1 (table-within (2 ^ 20) odd0 tt) c.requires) tt in
    let o1 : Held (half_sum odd1 input 1) = result w64 c.half_line-o1.ensures (half-within odd1 input 1 (table-within (2 ^ 20) odd1 tt) c.requires) tt in
    let o2 : Held (half_sum odd2 input 1) = result w64 c.half_line-o2.ensures (half-within odd2 input 1 (table-within (2 ^ 20) odd2 tt) c.requires) tt in
    let o3 : Held (half_sum odd3 input 1) = result w64 c.half_line-o3.ensures (half-within odd3 input 1 (table-within (2 ^ 20) odd3 tt) c.requires) tt in
    (λ i.
    ((kept w64 (e0 ⊞ o0) tt).is ∙ halves-sum even0 odd0 input) i
    ∷ ((kept w64 (e1 ⊞ o1) tt).is ∙ halves-sum even1 odd1 input) i
    ∷ ((kept w64 (e2 ⊞ o2) tt).is ∙ halves-sum even2 odd2 input) i
    ∷ ((kept w64 (e3 ⊞ o3) tt).is ∙ halves-sum even3 odd3 input) i
    ∷ ((kept w64 (e3 ⊟ o3) tt).is ∙ halves-difference even3 odd3 input) i
    ∷ ((kept w64 (e2 ⊟ o2) tt).is ∙ halves-difference even2 odd2 input) i
    ∷ ((kept w64 (e1 ⊟ o1) tt).is ∙ halves-difference even1 odd1 input) i
    ∷ ((kept w64 (e0 ⊟ o0) tt).is ∙ halves-difference even0 odd0 input) i ∷ [])
    ∙ line-is input
