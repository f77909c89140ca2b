-- `read_component` meets its contract: it reads a code, then its residual. Assumes nothing.
use native.Mathlib.Omega.{arith}
use Rattle.symbols.proofs.Parsed.{all-at}
use Rattle.mpeg1_vlc.proofs.Laws.Range.{motion-code-read}
use Rattle.mpeg1_slice.proofs.Laws.Read.{step-read, standing, word-onward, word-between}
use Rattle.mpeg1_slice.proofs.Laws.Residual.{residual-small}
use Rattle.mpeg1_slice.proofs.vectors.read_component.Goals as goal

pub read_residual-requires : goal.read_residual-requires
read_residual-requires c =
    ((all-at (word-onward (standing c.requires.0) _ motion-code-read) (step-read _ c.next_word.ensures c.in_ok-value.was)).inside, c.requires.1)

pub code_of-requires : goal.code_of-requires
code_of-requires c = (all-at (word-between c.args.bytes.now c.args.at _ motion-code-read) (step-read _ c.next_word.ensures c.in_ok-value.was)).1

pub overflow_cast-component : goal.overflow_cast-component
overflow_cast-component c =
    omega (arith, all-at (residual-small c.args.bytes.now c.args.f_code c.requires.1 _ _) (step-read _ c.read_residual.ensures c.in_ok-residual.was))
