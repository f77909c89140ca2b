-- `read_difference` meets its contract: it reads a size, then that many bits. Assumes nothing.
use mathlib.Core.Path.{◌≡◌}
use Rattle.symbols.specs.Parsed.{parsed}
use Rattle.symbols.proofs.Parsed.{all-at}
use Rattle.mpeg1_slice.specs.Read.{word_at}
use Rattle.mpeg1_slice.specs.Blocks.{size_words}
use Rattle.mpeg1_slice.proofs.Laws.Read.{step-read, standing, word-onward, word-between, field_below}
use Rattle.mpeg1_slice.proofs.Laws.Words.{size-read}
use Rattle.mpeg1_slice.proofs.difference.read_difference.Goals as goal

pub next_field-requires : goal.next_field-requires
next_field-requires c =
    let code : word_at (size_words c.args.block) c.args.bytes.now c.args.at ≡ parsed c.in_ok-size.size c.in_ok-size.next = rw c.size_list.ensures at (step-read _ c.next_word.ensures c.in_ok-size.was) in
    ((all-at (word-onward (standing c.requires) _ (size-read c.args.block)) code).inside, rw c.from-size.ensures (all-at (word-between c.args.bytes.now c.args.at _ (size-read c.args.block)) code).1)

pub dc_difference-requires : goal.dc_difference-requires
dc_difference-requires c =
    let code : word_at (size_words c.args.block) c.args.bytes.now c.args.at ≡ parsed c.in_ok-size.size c.in_ok-size.next = rw c.size_list.ensures at (step-read _ c.next_word.ensures c.in_ok-size.was) in
    (rw c.from-size.ensures (all-at (word-between c.args.bytes.now c.args.at _ (size-read c.args.block)) code).1, all-at (field_below _ _ _) (step-read _ c.next_field.ensures c.in_ok-value.was))
