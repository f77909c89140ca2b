-- `header_given` meets its contract: a number above 255 exceeds every limit of a header. Assumes nothing.
use Rattle.std.proofs.Common.{rules, ◌≡◌, ap, ◌∙◌, arith}
use Rattle.std.specs.Prelude.{Err}
use Rattle.symbols.specs.Header.{header_with}
use Rattle.mpeg1_reader.proofs.Laws.Answer.{byte-refused, fields-kept, illegal}
use Rattle.mpeg1_reader.proofs.entry.header_given.Goals as goal

pub returns-in_err-byte_given : goal.returns-in_err-byte_given
returns-in_err-byte_given c =
    let large = byte-refused c.args.given.width c.in_err-byte_given.ensures in
    let returned : c.from_residual.result ≡ Err c.in_err-byte_given.field-0.0 = search rules in
    rw (returned, large.1) (illegal _ λ small. omega (arith, small.wide, large.0))

pub returns-in_err-byte_given-2 : goal.returns-in_err-byte_given-2
returns-in_err-byte_given-2 c =
    let large = byte-refused c.args.given.height c.in_err-byte_given-2.ensures in
    let returned : c.from_residual-in_err-byte_given-2.result ≡ Err c.in_err-byte_given-2.field-0.0 = search rules in
    rw (returned, large.1) (illegal _ λ small. omega (arith, small.high, large.0))

pub returns-in_err-byte_given-3 : goal.returns-in_err-byte_given-3
returns-in_err-byte_given-3 c =
    let large = byte-refused c.args.given.coding_type c.in_err-byte_given-3.ensures in
    let returned : c.from_residual-in_err-byte_given-3.result ≡ Err c.in_err-byte_given-3.field-0.0 = search rules in
    rw (returned, large.1) (illegal _ λ small. omega (arith, small.type, large.0))

pub returns-in_err-byte_given-4 : goal.returns-in_err-byte_given-4
returns-in_err-byte_given-4 c =
    let large = byte-refused c.args.given.forward_f_code c.in_err-byte_given-4.ensures in
    let returned : c.from_residual-in_err-byte_given-4.result ≡ Err c.in_err-byte_given-4.field-0.0 = search rules in
    rw (returned, large.1) (illegal _ λ small. omega (arith, small.forward, large.0))

pub returns-in_err-byte_given-5 : goal.returns-in_err-byte_given-5
returns-in_err-byte_given-5 c =
    let large = byte-refused c.args.given.backward_f_code c.in_err-byte_given-5.ensures in
    let returned : c.from_residual-in_err-byte_given-5.result ≡ Err c.in_err-byte_given-5.field-0.0 = search rules in
    rw (returned, large.1) (illegal _ λ small. omega (arith, small.backward, large.0))

pub returns : goal.returns
returns c =
    c.header_with.ensures
    ∙ ap header_with
    (fields-kept c.args.given c.in_ok-byte_given.ensures c.in_ok-byte_given-2.ensures c.in_ok-byte_given-3.ensures c.in_ok-byte_given-4.ensures c.in_ok-byte_given-5.ensures)
