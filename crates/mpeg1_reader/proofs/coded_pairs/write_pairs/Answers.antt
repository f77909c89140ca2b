-- `write_pairs` meets its contract: it writes each pair after the previous ones, and finally the count in front of them. Assumes nothing.
use Rattle.std.proofs.Common.{rules, ◌≡◌, ◌+◌, ◌-◌, ◌≤◌, length, arith, refl, ap, ◌∙◌, w16, to_z, of_z}
use mir.ValLaws.{to_z-of_z}
use Rattle.std.specs.Prelude.{Option, Some, None}
use Rattle.symbols.specs.Parsed.{parsed}
use Rattle.symbols.specs.declared.pair.Pair.{Pair}
use Rattle.symbols.proofs.Parsed.{all-as, all_none}
use Rattle.format3_writer.specs.Records.{levels_bytes}
use Rattle.mpeg1_slice.specs.Blocks.{next_pair_at}
use Rattle.mpeg1_slice.proofs.Laws.Read.{step-read, step-refused}
use Rattle.mpeg1_reader.proofs.Laws.Pairs.{begun-none, begun-refused, begun-end, begun-length, begun-written, begun_more, begun-lands}
use Rattle.mpeg1_reader.proofs.coded_pairs.write_pairs.Goals as goal

pub loop-found-init : goal.loop-found-init
loop-found-init c =
    rw c.first_position-next.ensures (begun-none c.args.bytes.now c.args.intra c.args.offset c.args.buffer.now c.args.from c.requires.0)

pub returns-in_err-found-clause-value : goal.returns-in_err-found-clause-value
returns-in_err-found-clause-value c =
    rw (begun-refused _ _ _ _ c.loop-found.invariant (step-refused _ c.in_err-found.ensures refl)) (search rules)

pub returns-in_err-found-clause-written_at : goal.returns-in_err-found-clause-written_at
returns-in_err-found-clause-written_at c = all_none (begun-refused _ _ _ _ c.loop-found.invariant (step-refused _ c.in_err-found.ensures refl))

pub returns-in_default-clause-value : goal.returns-in_default-clause-value
returns-in_default-clause-value c =
    let loop = c.loop-found in
    let read : next_pair_at loop.first loop.next c.args.bytes.now loop.at ≡ parsed None c.in_ok-found.after = step-read _ c.in_ok-found.ensures refl ∙ ap (λ (o : Option Pair). parsed o c.in_ok-found.after) c.in_default.is in
    let size : loop.end - c.args.offset ≡ length (levels_bytes loop.invariant.pairs) = omega (arith, begun-length _ _ _ _ loop.invariant) in
    rw (begun-end _ _ _ _ loop.invariant read, size) refl

pub returns-in_default-clause-written_at : goal.returns-in_default-clause-written_at
returns-in_default-clause-written_at c =
    let loop = c.loop-found in
    let read : next_pair_at loop.first loop.next c.args.bytes.now loop.at ≡ parsed None c.in_ok-found.after = step-read _ c.in_ok-found.ensures refl ∙ ap (λ (o : Option Pair). parsed o c.in_ok-found.after) c.in_default.is in
    all-as (begun-end _ _ _ _ loop.invariant read) (begun-written _ _ _ _ loop.invariant c.write_u8.ensures)

pub loop-found-smaller : goal.loop-found-smaller
loop-found-smaller c =
    let loop = c.loop-found in
    let read : next_pair_at loop.first loop.next c.args.bytes.now loop.at ≡ parsed (Some c.in-Some.pair) c.in_ok-found.after = step-read _ c.in_ok-found.ensures refl ∙ ap (λ (o : Option Pair). parsed o c.in_ok-found.after) c.in-Some.is in
    let lands : loop.next + c.in-Some.pair.run ≤ 63 = begun-lands _ _ _ _ loop.invariant read in
    omega (arith, lands)

pub loop-found-preserved : goal.loop-found-preserved
loop-found-preserved c =
    let loop = c.loop-found in
    let read : next_pair_at loop.first loop.next c.args.bytes.now loop.at ≡ parsed (Some c.in-Some.pair) c.in_ok-found.after = step-read _ c.in_ok-found.ensures refl ∙ ap (λ (o : Option Pair). parsed o c.in_ok-found.after) c.in-Some.is in
    let same : to_z w16 (of_z w16 c.in-Some.pair.level) ≡ c.in-Some.pair.level = to_z-of_z w16 c.in-Some.pair.level (search rules) in
    rw c.from.ensures (begun_more _ _ _ _ loop.invariant read (rw (← same) c.write_pair.ensures))
