-- `next_word` meets its contract: the code ends within the bytes. Assumes nothing.
use native.Mathlib.Omega.{arith}
use Rattle.mpeg1_tables.specs.WordList.{words_in}
use Rattle.mpeg1_slice.proofs.Laws.Read.{word_fits}
use Rattle.mpeg1_slice.proofs.Laws.Words.{list-read}
use Rattle.mpeg1_slice.proofs.element.next_word.Goals as goal

pub element_of-requires : goal.element_of-requires
element_of-requires c =
    (c.requires.bit_small, rw c.read_word.ensures (word_fits c.args.bytes.now c.args.at c.requires (words_in c.args.list) (list-read c.args.list) (omega arith) (omega arith)))
