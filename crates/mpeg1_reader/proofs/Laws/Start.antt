-- From what the readers of a slice's head return to what the definitions read. Assumes nothing.
use mathlib.Core.List.{List}
use mathlib.Core.Path.{◌≡◌, refl}
use Rattle.std.specs.Prelude.{Ok}
use Prim.Native.Nat.{ℕ, ◌≤◌}
use Rattle.symbols.specs.Parsed.{parsed}
use Rattle.symbols.proofs.Parsed.{All, here, all_then}
use Rattle.mpeg1_bits.specs.Requires.{InBytes}
use Rattle.mpeg1_bits.specs.Bits.{bits_from}
use Rattle.mpeg1_bits.specs.declared.BitPosition.{BitPosition}
use Rattle.mpeg1_bits.proofs.Rest.{rest-binary, in-bytes-advanced}
use Rattle.mpeg1_vlc.specs.SliceStart.{slice_start_of}
use Rattle.mpeg1_slice.specs.Read.{Read}
use Rattle.mpeg1_slice.specs.Slice.{SliceHead, first_bit, slice_start_at, slice_head_at}
use Rattle.mpeg1_slice.proofs.Laws.Read.{all-code, first-inside, standing, field-onward}
use Rattle.mpeg1_slice.proofs.Laws.Onward.{extra-onward}
use Rattle.mpeg1_slice.proofs.Laws.Words.{start-read}
use Rattle.mpeg1_reader.proofs.Laws.Writing.{read-is}
use Rattle.mpeg1_reader.specs.RecordOffsets.{slice_head_answer}
use Rattle.mpeg1_reader.specs.declared.slice_head.SliceHead as Head

-- from what the head's reader returns to what the definition reads
abbrev pub head_in : Head.SliceHead → SliceHead
head_in head = record { row = head.row; scale = head.scale }

pub head-found : (x : Read SliceHead) {head : Head.SliceHead} → Ok head ≡ slice_head_answer x → x ≡ parsed (head_in head) head.at
head-found = read-is (λ head p. record { row = head.row; scale = head.scale; at = p }) head_in (λ head. head.at) (λ a p. refl)

-- ---- the start code with its row and end; then the whole head
module _ (height : ℕ) (bytes : List ℕ) where
  pub record Row (row : ℕ) (p : BitPosition) : Type 0 where
    pub least : 1 ≤ row
    pub most : row ≤ height
    pub inside : InBytes bytes p

  pub start-row : All Row (slice_start_at height bytes first_bit)
  start-row =
      all-code (slice_start_of height (bits_from bytes first_bit)) first_bit λ row n e.
      let k = start-read height (rest-binary bytes first_bit) row n e in
      record { least = k.least; most = k.most; inside = in-bytes-advanced n (first-inside bytes) k.inside }

  pub head-row : All (λ head p. Row head.row p) (slice_head_at height bytes first_bit)
  unfolding slice_head_at
  head-row =
      all_then start-row λ row p h.
      all_then (field-onward (standing h.inside) 5) λ scale q k.
      all_then (extra-onward bytes k) λ dropped r l.
      here (record { least = h.least; most = h.most; inside = l.inside })
