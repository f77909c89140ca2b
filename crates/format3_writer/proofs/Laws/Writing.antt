-- A count, or a record's length, may be written after what it counts. Assumes nothing.
use mathlib.Core.List.{List, [], ◌∷◌, ◌++◌, append-nil}
use mathlib.Core.Path.{◌≡◌, sym}
use Prim.Native.Nat.{ℕ, ◌+◌}
use lib.ListN.{length}
use Rattle.math.specs.Joined.{joined}
use Rattle.math.proofs.Joined.{joined-append}
use Rattle.symbols.specs.declared.pair.Pair.{Pair}
use Rattle.format3_writer.specs.Written.{written}
use Rattle.format3_writer.specs.Bytes.{big_endian_bytes}
use Rattle.format3_writer.proofs.Laws.Written.{written-append, written-before}
use Rattle.format3_writer.specs.Records.{record_head, record_bytes, pairs_bytes, levels_bytes}

-- the count, written after the pairs
pub written_count_lem : (at : ℕ) (pairs : List Pair) (buffer : List ℕ) → written at (length pairs ∷ []) (written (at + 1) (pairs_bytes pairs) buffer) ≡ written at (levels_bytes pairs) buffer
unfolding levels_bytes
written_count_lem at pairs buffer = written-before at (length pairs ∷ []) (pairs_bytes pairs) buffer

-- the length and kind, written after the body
pub written-record : (at kind : ℕ) (body buffer : List ℕ) → written at (record_head (1 + length body) kind) (written (at + 3) body buffer) ≡ written at (record_bytes kind body) buffer
unfolding record_bytes record_head big_endian_bytes
written-record at kind body buffer = written-before at (record_head (1 + length body) kind) body buffer

-- one more element, written after the others
pub written-more : {A : Type 0} (bytes : A → List ℕ) (at : ℕ) (a : List A) (last : A) (buffer : List ℕ)
    → written (at + length (joined bytes a)) (bytes last) (written at (joined bytes a) buffer) ≡ written at (joined bytes (a ++ (last ∷ []))) buffer
unfolding joined
written-more bytes at a last buffer =
    rw (joined-append bytes a (last ∷ []), append-nil (bytes last)) (sym (written-append at (joined bytes a) (bytes last) buffer))
