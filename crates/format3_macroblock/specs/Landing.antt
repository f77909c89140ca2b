-- What the reader of pairs answers: the block with the scaled levels of the pairs that it read.
use Rattle.std.specs.Prelude.{List, ℕ, ℤ, Result, Ok, Err}
use Rattle.refusals.specs.declared.Refusal.{Refusal}
use Rattle.symbols.specs.Pair.{first_position}
use Rattle.decode_coefficients.specs.declared.block.BlockCoding.{BlockCoding}
use Rattle.decode_coefficients.specs.Block.{with_pairs}
use Rattle.format3_records.specs.declared.field.Cursor.{Cursor}
use Rattle.format3_macroblock.specs.Pairs.{pairs_before_refusal}

-- a block after `count` pairs are read into it: it holds the scaled levels of those before the first one that is refused
abbrev pub block_read : BlockCoding → List ℕ → ℕ → List ℕ → List ℤ → List ℤ
block_read c matrix count bytes block = with_pairs c matrix (pairs_before_refusal count (first_position c.intra) bytes) block

-- ---- what the reader of the pairs answers, with what it made of them
abbrev pub pairs_result : {A : Type 0} → Result Cursor Refusal → A → Result (A × Cursor) Refusal
pairs_result (Ok cursor) made = Ok (made, cursor)
pairs_result (Err refusal) made = Err refusal
