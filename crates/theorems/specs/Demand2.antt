-- Demand 2: "A picture that is accepted equals, byte for byte, the one that ISO/IEC 11172-2 clause 2.4.4 defines for those symbols, matrices and
-- reference pictures, with the inverse transform of document 01; and it is accepted exactly when no refusal of document 01 applies, nor one that a
-- later request adds to its reading."
--
-- The theorems are about `picture_within`, for a reader with any limit and with any inverse transform. The contracts of `reconstruct` and
-- `reconstruct_small` say that their answers and outputs are those of `picture_within` with their limits, 396 and 99, and with document 01's
-- transform. `symbols_of` has the symbols and matrices that a file's records give, and `reconstruction`
-- (crates/format3_picture/specs/Reconstruction.antt) is what clause 2.4.4 makes of them: no byte of the file occurs in it. Requests have added two
-- refusals to the readers: No. 1 has added 23 (Request1.antt), and No. 4 has added 27 (Request4.antt).
use Rattle.std.specs.Prelude.{List, [], ◌↔◌, ◌⊎◌, ◌≡◌, ℕ, ◌≤◌, ◌<◌, ℤ, length, get_or, replicate, Ok}
use Rattle.math.specs.Each.{Each}
use Rattle.refusals.specs.Refusal.{accepted, number_of}
use Rattle.refusals.specs.declared.Refusal.{Refusal}
use Rattle.refusals.specs.declared.Refusal.TheVariants.{BackwardVectorOutside, MacroblockLimit}
use Rattle.symbols.specs.Size.{max_macroblocks, macroblock_count}
use Rattle.symbols.specs.declared.header.Header.{Header}
use Rattle.decode_macroblock.specs.Byte.{byte_of}
use Rattle.decode_macroblock.specs.Compensation.{references}
use Rattle.decode_macroblock.specs.Macroblock.{MadeMacroblock, InOrder}
use Rattle.decode_macroblock.specs.Owner.{owner_of}
use Rattle.decode_macroblock.specs.Rows.{rows_of}
use Rattle.format3_picture.specs.Picture.{symbols_of, picture_within, answer_of}
use Rattle.format3_picture.specs.Reconstruction.{macroblocks_of, reconstruction}
use Rattle.theorems_picture.specs.Applies.{Reached, Passing, file_start, Applies}
use Rattle.theorems_picture.specs.Worked.{two_slices, two_wide, two_slices_symbols}

-- document 01's refusals are 1 to 22
abbrev pub OfDocument01 : Refusal → Type 0
OfDocument01 refusal = number_of refusal ≤ 22

-- the refusals that requests have added to the reading of a picture: 23, by No. 1, and 27, by No. 4
abbrev pub AddedByRequest : Refusal → Type 0
AddedByRequest refusal = (refusal ≡ BackwardVectorOutside) ⊎ (refusal ≡ MacroblockLimit)

-- "no refusal of document 01 applies, nor one that a later request adds to its reading", at any place and after any macroblocks
pub record NoneApplies (limit : ℕ) (file forward backward output : List ℕ) : Type 0 where
  pub of-document-01 : (refusal : Refusal) (place : ℕ) (before : List MadeMacroblock) → OfDocument01 refusal → ¬ Applies limit file forward backward output refusal place before
  pub added : (refusal : Refusal) (place : ℕ) (before : List MadeMacroblock) → AddedByRequest refusal → ¬ Applies limit file forward backward output refusal place before

-- "it is accepted exactly when no refusal of document 01 applies, nor one that a later request adds to its reading"
abbrev pub ExactlyWhenNoneApplies : Type 0
ExactlyWhenNoneApplies =
    (limit : ℕ) (transform : List ℤ → ℕ → ℤ) (file forward backward output : List ℕ)
    → ((picture_within limit transform file forward backward output).number ≡ accepted) ↔ NoneApplies limit file forward backward output

-- "A picture that is accepted equals, byte for byte, the one that .. clause 2.4.4 defines for those symbols, matrices and reference pictures"
pub record AcceptedPicture (limit : ℕ) (transform : List ℤ → ℕ → ℤ) (file forward backward output : List ℕ) : Type 0 where
  -- the file has a header, which ends at this offset
  pub header : Header
  pub end : ℕ
  pub header_read : file_start limit file forward backward output ≡ Ok (record { header = header; end = end })
  -- "Accepted is 0, file length, N", and the rows of all macroblocks (document 02, No. 6)
  pub answer :
      answer_of (picture_within limit transform file forward backward output)
      ≡ record { verdict = Ok tt; place = length file; made = macroblock_count header.size; rows = rows_of (macroblocks_of header (symbols_of file header end)) }
  pub number : (picture_within limit transform file forward backward output).number ≡ accepted
  -- every record passes, up to the file's end, and the macroblocks that the records make are those of the symbols
  pub reached : Reached
  pub passing : Passing file header end reached
  pub none_left : reached.offset ≡ length file
  pub same : reached.macroblocks ≡ macroblocks_of header (symbols_of file header end)
  -- the symbols make N macroblocks, with the addresses 0, 1, 2 and so on, each once
  pub order : InOrder 0 (macroblocks_of header (symbols_of file header end)) (macroblock_count header.size)
  -- the output is what clause 2.4.4 makes of the symbols, the matrices and the references
  pub equal : (picture_within limit transform file forward backward output).output ≡ reconstruction transform (references forward backward) header (symbols_of file header end) output
  -- "byte for byte": each byte belongs to one of the macroblocks, and is that macroblock's: prediction plus residue, limited
  pub owned : (i : ℕ) → i < length output → owner_of header.size i < macroblock_count header.size
  pub bytes :
      Each (λ m. (i : ℕ) → i < length output → owner_of header.size i ≡ m.address
      → get_or (picture_within limit transform file forward backward output).output i 0 ≡ byte_of transform (references forward backward) header.size m i)
      (macroblocks_of header (symbols_of file header end))

abbrev pub AcceptedIsReconstruction : Type 0
AcceptedIsReconstruction =
    (limit : ℕ) (transform : List ℤ → ℕ → ℤ) (file forward backward output : List ℕ)
    → (picture_within limit transform file forward backward output).number ≡ accepted
    → AcceptedPicture limit transform file forward backward output

-- "for those symbols, matrices and reference pictures": nothing else matters. For two outputs of one length, whatever they hold,
-- the answer is the same, and so are the bytes of an accepted picture
abbrev pub SameAnswer : Type 0
SameAnswer =
    (limit : ℕ) (transform : List ℤ → ℕ → ℤ) (file forward backward first second : List ℕ) → length first ≡ length second
    → (answer_of (picture_within limit transform file forward backward first) ≡ answer_of (picture_within limit transform file forward backward second))
    × ((picture_within limit transform file forward backward first).number ≡ (picture_within limit transform file forward backward second).number)

abbrev pub SameBytes : Type 0
SameBytes =
    (limit : ℕ) (transform : List ℤ → ℕ → ℤ) (file forward backward first second : List ℕ) → length first ≡ length second
    → (picture_within limit transform file forward backward first).number ≡ accepted
    → (picture_within limit transform file forward backward first).output ≡ (picture_within limit transform file forward backward second).output

-- for any file whose header is read: the output is what clause 2.4.4 makes of its symbols. If the file is refused, these are the symbols
-- of the records before the refused one, and the macroblocks of those records are the macroblocks of the symbols
abbrev pub OutputOfSymbols : Type 0
OutputOfSymbols =
    (limit : ℕ) (transform : List ℤ → ℕ → ℤ) (file forward backward output : List ℕ) (h : Header) (end : ℕ) → file_start limit file forward backward output ≡ Ok (record { header = h; end = end })
    → (picture_within limit transform file forward backward output).output ≡ reconstruction transform (references forward backward) h (symbols_of file h end) output

abbrev pub RefusedMakesSymbols : Type 0
RefusedMakesSymbols =
    (limit : ℕ) (file forward backward output : List ℕ) (h : Header) (end : ℕ) → file_start limit file forward backward output ≡ Ok (record { header = h; end = end })
    → (refusal : Refusal) (place : ℕ) (before : List MadeMacroblock) → Applies limit file forward backward output refusal place before
    → before ≡ macroblocks_of h (symbols_of file h end)

-- A file worked to its symbols: two slices of one macroblock each, and a record that is cut
pub record WorkedSymbols : Type 0 where
  pub header_read : file_start max_macroblocks two_slices [] [] (replicate 768 7) ≡ Ok (record { header = two_wide; end = 11 })
  pub symbols : symbols_of two_slices two_wide 11 ≡ two_slices_symbols
