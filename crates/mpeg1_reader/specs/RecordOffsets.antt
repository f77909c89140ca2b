-- What functions that write many records return: the offset after the last one, at most `max_offset`, and a checkpoint.
use Rattle.std.specs.Prelude.{cond, List, ◌++◌, ◌≡◌, ℕ, ◌+◌, ◌≤◌, leb, length, Result, Ok, Err}
use Rattle.math.specs.Joined.{joined}
use Rattle.symbols.specs.Parsed.{parsed, refused}
use Rattle.symbols.specs.declared.header.Header.{Header}
use Rattle.symbols.specs.Macroblock.{Macroblock}
use Rattle.format3_writer.specs.Written.{saturating_add}
use Rattle.format3_writer.specs.Records.{macroblock_record}
use Rattle.mpeg1_bits.specs.Requires.{InBytes}
use Rattle.mpeg1_bits.specs.declared.BitPosition.{BitPosition}
use Rattle.mpeg1_slice.specs.declared.refused.RefusedAt.{RefusedAt}
use Rattle.mpeg1_slice.specs.Read.{Read}
use Rattle.mpeg1_slice.specs.Answers.{answer_with}
use Rattle.mpeg1_slice.specs.Slice.{SliceHead, macroblocks_at}
use Rattle.mpeg1_reader.specs.declared.write_answer.Checkpoint.{Checkpoint}
use Rattle.mpeg1_reader.specs.declared.write_answer.WrittenRecords.{WrittenRecords}
use Rattle.mpeg1_reader.specs.declared.slice_head.SliceHead as Head

-- the next checkpoint, if what is written up to it fits this length; otherwise the last one
unfoldable pub last_whole : Checkpoint → Checkpoint → ℕ → Checkpoint
last_whole last next length = cond (leb next.offset length) next last

-- a checkpoint in records that are written from `offset` on and end at `end`: those before it fit the buffer's length, and those after it
-- are the records of the macroblocks that are read from its position
pub record ResumesAt (h : Header) (bytes : List ℕ) (offset capacity : ℕ) (records : List ℕ) (end : BitPosition) (checkpoint : Checkpoint) : Type 0 where
  pub front : List ℕ
  pub rest : List Macroblock
  pub inside : InBytes bytes checkpoint.at
  pub read : macroblocks_at h bytes checkpoint.at ≡ parsed rest end
  pub same : records ≡ front ++ joined macroblock_record rest
  pub counted : checkpoint.offset ≡ offset + length front
  pub whole : checkpoint.offset ≤ capacity

-- the position after the records, the offset after the last one, and a checkpoint; or the refusal and where it happened
pub data RecordsAnswered {A : Type 0} (records_of : A → List ℕ) (h : Header) (bytes : List ℕ) (offset capacity : ℕ) : Read A → Result WrittenRecords RefusedAt → Type 0 where
  done : {a : A} {p : BitPosition} {checkpoint : Checkpoint} → ResumesAt h bytes offset capacity (records_of a) p checkpoint
      → RecordsAnswered records_of h bytes offset capacity (parsed a p) (Ok (record { at = p; end = saturating_add offset (length (records_of a)); whole = checkpoint }))
  stopped : {reason : RefusedAt} → RecordsAnswered records_of h bytes offset capacity (refused reason) (Err reason)

abbrev pub slice_head_answer : Read SliceHead → Result Head.SliceHead RefusedAt
slice_head_answer = answer_with λ head p. record { row = head.row; scale = head.scale; at = p }
