-- `reader::reconstruct_within` meets its contract: once the header is read, the records follow; a refusal leaves the output as it was.
-- Assumes nothing.
use mathlib.Core.Path.{sym, ◌∙◌}
use Rattle.format3_picture.proofs.StartLaws.{header_read}
use Rattle.format3_picture.proofs.reader.reconstruct_within.Goals as goal

pub read_records-requires : goal.read_records-requires
read_records-requires c =
    let s = header_read c.args.limit c.args.file.now c.args.forward.now c.args.backward.now c.args.output.now (sym c.read_file_start.ensures ∙ c.in-Ok.is) in
    (s.header, s.caller.lent, s.in-file)
