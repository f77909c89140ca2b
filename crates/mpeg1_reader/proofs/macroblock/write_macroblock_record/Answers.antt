-- `write_macroblock_record` meets its contract: it writes head and rest, then the record's length and kind in front. Assumes nothing.
use Rattle.std.proofs.Common.{rules, ◌≤◌, ℕ, List, refl, ap, arith}
use Rattle.std.specs.Prelude.{Ok}
use Rattle.symbols.proofs.Parsed.{all-at, all-as, all_none}
use Rattle.format3_records.specs.Record.{macroblock_kind}
use Rattle.format3_writer.specs.Records.{head_bytes}
use Rattle.format3_writer.proofs.Laws.Lengths.{head-short}
use Rattle.mpeg1_slice.proofs.Laws.Read.{standing}
use Rattle.mpeg1_slice.proofs.Laws.Onward.{head-onward}
use Rattle.mpeg1_reader.specs.WriteAnswer.{vectors_and_blocks_bytes}
use Rattle.mpeg1_reader.proofs.Laws.Writing.{refused-is, part-done, part-refused, head_in, head-read}
use Rattle.mpeg1_reader.proofs.Laws.Few.{rest-size}
use Rattle.mpeg1_reader.proofs.Laws.Macroblock.{record-size, record-written, body_of, head-refused, rest-refused, macroblock-read}
use Rattle.mpeg1_reader.proofs.macroblock.write_macroblock_record.Goals as goal

pub returns-in_err-head-clause-value : goal.returns-in_err-head-clause-value
returns-in_err-head-clause-value c = rw (head-refused c.args.header c.args.increment c.args.bytes.now c.args.from (refused-is _ _ c.in_err-head.ensures)) (search rules)

pub returns-in_err-head-clause-written_at : goal.returns-in_err-head-clause-written_at
returns-in_err-head-clause-written_at c = all_none (head-refused _ _ _ _ (refused-is _ _ c.in_err-head.ensures))

pub overflow_add-body-2 : goal.overflow_add-body-2
overflow_add-body-2 c =
    let head = c.in_ok-head.head in
    omega (arith, c.write_macroblock_head-first.ensures.value, head-short head.macroblock_type c.args.increment head.scale, c.requires.2)

pub write_vectors_and_blocks-requires : goal.write_vectors_and_blocks-requires
write_vectors_and_blocks-requires c =
    let head = c.in_ok-head.head in
    let inside = (all-at (head-onward _ _ (standing c.requires.0)) (head-read _ c.in_ok-head.ensures)).inside in
    let few : c.write_macroblock_head-first.result ≤ 4 = omega (arith, c.write_macroblock_head-first.ensures.value, head-short head.macroblock_type c.args.increment head.scale) in
    (inside, c.requires.1.forward.most, c.requires.1.backward.most, omega (arith, few, c.requires.2))

pub returns-in_err-second-clause-value : goal.returns-in_err-second-clause-value
returns-in_err-second-clause-value c = rw (rest-refused c.args.header c.args.increment c.args.bytes.now c.args.from (head-read _ c.in_ok-head.ensures) (part-refused _ _ c.in_err-second.ensures.value)) (search rules)

pub returns-in_err-second-clause-written_at : goal.returns-in_err-second-clause-written_at
returns-in_err-second-clause-written_at c = all_none (rest-refused _ _ _ _ (head-read _ c.in_ok-head.ensures) (part-refused _ _ c.in_err-second.ensures.value))

pub overflow_add-size : goal.overflow_add-size
overflow_add-size c =
    let head = c.in_ok-head.head in
    omega (arith, c.write_macroblock_head-first.ensures.value, head-short head.macroblock_type c.args.increment head.scale)

pub overflow_add-size-2 : goal.overflow_add-size-2
overflow_add-size-2 c =
    let head = c.in_ok-head.head in
    let rest = rest-size head.macroblock_type _ _ _ _ c.in_ok-second.ensures.value in
    omega (arith, c.write_macroblock_head-first.ensures.value, head-short head.macroblock_type c.args.increment head.scale, rest)

pub overflow_cast-size : goal.overflow_cast-size
overflow_cast-size c =
    let head = c.in_ok-head.head in
    let rest = rest-size head.macroblock_type _ _ _ _ c.in_ok-second.ensures.value in
    omega (arith, c.write_macroblock_head-first.ensures.value, head-short head.macroblock_type c.args.increment head.scale, rest)

pub overflow_add-result : goal.overflow_add-result
overflow_add-result c =
    let head = c.in_ok-head.head in
    let rest = rest-size head.macroblock_type _ _ _ _ c.in_ok-second.ensures.value in
    omega (arith, c.write_macroblock_head-first.ensures.value, head-short head.macroblock_type c.args.increment head.scale, rest)

pub returns-clause-value : goal.returns-clause-value
returns-clause-value c =
    let head = c.in_ok-head.head in
    let rest = part-done (vectors_and_blocks_bytes head.macroblock_type) _ c.in_ok-second.ensures.value in
    let read = macroblock-read c.args.header c.args.increment c.args.bytes.now c.args.from (head-read _ c.in_ok-head.ensures) rest.is in
    let headed : List ℕ = head_bytes head.macroblock_type c.args.increment head.scale in
    let size = record-size c.args.offset macroblock_kind headed (vectors_and_blocks_bytes head.macroblock_type rest.value) c.write_macroblock_head-first.ensures.value rest.size refl in
    rw (read, body_of c.args.increment (head_in head) rest.value) (ap (λ (n : ℕ). Ok (record { at = c.in_ok-second.second.at; size = n })) size)

pub returns-clause-written_at : goal.returns-clause-written_at
returns-clause-written_at c =
    let head = c.in_ok-head.head in
    let rest = part-done (vectors_and_blocks_bytes head.macroblock_type) _ c.in_ok-second.ensures.value in
    let read = macroblock-read c.args.header c.args.increment c.args.bytes.now c.args.from (head-read _ c.in_ok-head.ensures) rest.is in
    let headed : List ℕ = head_bytes head.macroblock_type c.args.increment head.scale in
    all-as read
    (rw (body_of c.args.increment (head_in head) rest.value)
    (record-written c.args.offset macroblock_kind headed (vectors_and_blocks_bytes head.macroblock_type rest.value) c.write_macroblock_head-first.ensures.value rest.size refl c.args.buffer.now
    c.write_macroblock_head-first.ensures.buffer_after (all-at c.in_ok-second.ensures.written_at rest.is) c.write_record_head.ensures))
