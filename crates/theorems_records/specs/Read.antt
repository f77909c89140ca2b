-- Slices that were read from their bytes.
use Rattle.std.specs.Prelude.{List, [], ◌∷◌, ◌≡◌, ℕ, Ok}
use Rattle.symbols.specs.Parsed.{parsed}
use Rattle.symbols.specs.Header.{header_with}
use Rattle.symbols.specs.declared.header.Header.{Header}
use Rattle.symbols.specs.declared.header.HeaderFields.{HeaderFields}
use Rattle.symbols.specs.Slice.{Slice}
use Rattle.mpeg1_bits.specs.declared.BitPosition.{BitPosition}
use Rattle.mpeg1_slice.specs.Slice.{raw_slice_of}

-- slices, each read from its bytes with given numbers that are legal. The entry is given no full-pel flags, so a file's header may have
-- others
pub data AllRead : List Slice → Type 0 where
  none : AllRead []
  more : (given : HeaderFields) {h : Header} (bytes : List ℕ) {slice : Slice} {end : BitPosition} {slices : List Slice} → header_with given ≡ Ok h → raw_slice_of h bytes ≡ parsed slice end
      → AllRead slices → AllRead (slice ∷ slices)
