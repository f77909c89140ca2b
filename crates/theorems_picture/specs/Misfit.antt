-- Which vector of a record doesn't fit (request No. 1, refusals 18 and 23).
use Rattle.std.specs.Prelude.{Bool, true, false, List, [], ◌∷◌, ◌≡◌, ℕ, take, drop, Ok}
use Rattle.refusals.specs.declared.Refusal.{Refusal}
use Rattle.refusals.specs.declared.Refusal.TheVariants.{ForwardVectorOutside, BackwardVectorOutside}
use Rattle.symbols.specs.declared.header.Header.{Header}
use Rattle.symbols.specs.declared.size.PictureSize.{PictureSize}
use Rattle.symbols.specs.Macroblock.{Macroblock}
use Rattle.symbols.specs.Parsed.{parsed}
use Rattle.decode_macroblock.specs.Fit.{direction_fits}
use Rattle.decode_macroblock.specs.Location.{macroblock_position}
use Rattle.decode_macroblock.specs.Macroblock.{MadeMacroblock}
use Rattle.decode_state.specs.Plan.{macroblocks_of_plan}
use Rattle.format3_records.specs.Record.{macroblock_kind, record_of}
use Rattle.format3_records.specs.Turn.{in_turn}
use Rattle.format3_macroblock.specs.Macroblock.{macroblock_of}
use Rattle.format3_picture.specs.MacroblockRecord.{context_of}
use Rattle.format3_picture.specs.Reconstruction.{plan_for, coefficients_for}
use Rattle.theorems_picture.specs.Applies.{Reached, Passing, file_start}

-- whether a macroblock's vector fits; a direction that the macroblock doesn't use always fits
abbrev pub forward_fits : PictureSize → MadeMacroblock → Bool
forward_fits size m = direction_fits (macroblock_position size m.address) m.motion.forward

abbrev pub backward_fits : PictureSize → MadeMacroblock → Bool
backward_fits size m = direction_fits (macroblock_position size m.address) m.motion.backward

-- the refusal of a macroblock that doesn't fit
pub data Misfit (size : PictureSize) (m : MadeMacroblock) : Refusal → Type 0 where
  -- "18 speaks of the forward vector alone"
  forward : forward_fits size m ≡ false → Misfit size m ForwardVectorOutside
  -- "23 when the backward vector doesn't fit, tested just after the same macroblock's forward one"
  backward : forward_fits size m ≡ true → backward_fits size m ≡ false → Misfit size m BackwardVectorOutside

-- the first of some macroblocks that doesn't fit, with its refusal: both vectors of each macroblock before it fit
pub data FirstMisfit (size : PictureSize) (refusal : Refusal) : List MadeMacroblock → Type 0 where
  here : {m : MadeMacroblock} {after : List MadeMacroblock} → Misfit size m refusal → FirstMisfit size refusal (m ∷ after)
  later : {m : MadeMacroblock} {after : List MadeMacroblock} → forward_fits size m ≡ true → backward_fits size m ≡ true
      → FirstMisfit size refusal after → FirstMisfit size refusal (m ∷ after)

-- the macroblocks that a record's symbols ask for: the skipped ones in address order, then its own
abbrev pub macroblocks_of_record : Reached → Macroblock → List MadeMacroblock
macroblocks_of_record r m =
    macroblocks_of_plan (plan_for r.state.header r.state.next r.state.slice m) (coefficients_for r.matrices r.state.slice m)

-- a record is refused for a vector: all before it pass, it is a macroblock record in turn, its symbols are legal, and a vector doesn't fit
pub record VectorRefused (limit : ℕ) (file forward backward output : List ℕ) (refusal : Refusal) : Type 0 where
  pub header : Header
  pub end : ℕ
  pub header_read : file_start limit file forward backward output ≡ Ok (record { header = header; end = end })
  pub reached : Reached
  pub passing : Passing file header end reached
  -- the next record, with its body
  pub start : ℕ
  pub count : ℕ
  pub found : record_of file reached.offset ≡ Ok (record { kind = macroblock_kind; start = start; length = count })
  pub in-turn : in_turn reached.state.turn macroblock_kind ≡ true
  -- "Bytes left over: 6": none are
  pub symbols : Macroblock
  pub legal : macroblock_of (context_of reached.state) (take count (drop start file)) ≡ parsed symbols []
  pub misfit : FirstMisfit header.size refusal (macroblocks_of_record reached symbols)
