-- Codes read from a window are the codes read from all bits left. Assumes nothing.
use mathlib.Core.Path.{◌≡◌, ap, ◌∙◌, sym, subst}
use mathlib.Core.List.{List}
use Prim.Native.Nat.{ℕ, ◌<◌, ◌≤◌}
use native.Mathlib.Nat.{min-le_left}
use native.Mathlib.Omega.{arith}
use lib.Dec.{leb, le→leb}
use lib.ListN.{length}
use Rattle.mpeg1_bits.specs.declared.BitPosition.{BitPosition}
use Rattle.mpeg1_bits.specs.declared.Window.{Window}
use Rattle.mpeg1_bits.specs.Bits.{bits_from, bits_in, window_of}
use Rattle.mpeg1_bits.proofs.Rest.{rest-binary, window-bits}
use Rattle.mpeg1_tables.specs.declared.word_list.WordList.{WordList}
use Rattle.mpeg1_tables.specs.Code.{Word, code_of}
use Rattle.mpeg1_tables.specs.Table.{table_row_at}
use Rattle.mpeg1_tables.specs.WordList.{words_in, row_of}
use Rattle.mpeg1_tables.proofs.Laws.Prefix.{code-take, every-other}
use Rattle.mpeg1_tables.proofs.Laws.Table.{sized, row_sized, sized-length}
use Rattle.mpeg1_vlc.proofs.Laws.Level.{FirstRow, first_row}

pub next-count : (b : List ℕ) {next : Window} → next ≡ window_of b → next.count ≤ 32
next-count b e = subst (λ (w : Window). w.count ≤ 32) (sym e) (min-le_left 32 (length b))

-- no word is longer than 32 bits, so the window decides
pub rest-code : (r : ℕ) → r < 16 → (bytes : List ℕ) (p : BitPosition) (next : Window) → next ≡ window_of (bits_from bytes p) → code_of (table_row_at r).words (bits_in next) ≡ code_of (table_row_at r).words (bits_from bytes p)
rest-code r h bytes p next e =
    ap (λ (w : Window). code_of (table_row_at r).words (bits_in w)) e
    ∙ ap (code_of (table_row_at r).words) (window-bits (rest-binary bytes p))
    ∙ code-take (table_row_at r).words 32 (bits_from bytes p) (every-other sized (λ v n. leb n 32) (λ v n t. le→leb n 32 (omega (arith, sized-length v n t))) (table_row_at r).words (row_sized r h))

pub list-code : (list : WordList) (bytes : List ℕ) (p : BitPosition) (next : Window) → next ≡ window_of (bits_from bytes p) → code_of (words_in list) (bits_in next) ≡ code_of (words_in list) (bits_from bytes p)
list-code list bytes p next e = subst (λ (w : List Word). code_of w (bits_in next) ≡ code_of w (bits_from bytes p)) row.words (rest-code (row_of list) (omega (arith, row.there)) bytes p next e)
  where
    row : FirstRow list
    row = first_row list
