-- The plan of a macroblock: which macroblocks it makes, with which motion, and the slice's state after it (document 01, "Vectors and prediction").
use Rattle.std.specs.Prelude.{cond, List, [], ◌∷◌, ◌++◌, ℕ, ◌+◌, ◌-◌, eqb, ℤ}
use Rattle.symbols.specs.Header.{type_p}
use Rattle.symbols.specs.declared.header.Header.{Header}
use Rattle.decode_coefficients.specs.declared.dc.DcPasts.{DcPasts}
use Rattle.decode_coefficients.specs.declared.macroblock.SymbolsWithDc.{SymbolsWithDc}
use Rattle.decode_macroblock.specs.Macroblock.{MadeMacroblock, predicted_only_from}
use Rattle.decode_macroblock.specs.declared.compensation.Motion.{Motion}
use Rattle.decode_state.specs.State.{still_motion}
use Rattle.decode_state.specs.Slice.{slice_after}
use Rattle.decode_state.specs.declared.state.SliceState.{SliceState}
use Rattle.decode_state.specs.declared.plan.Plan.{Plan}

-- "Skipped: P copies with vector 0; B repeats the last macroblock's directions and vectors"
unfoldable pub skip_motion : ℕ → Motion → Motion
skip_motion coding last = cond (eqb coding type_p) still_motion last

-- the plan for a macroblock's symbols, from the next address and the slice's state before it
unfoldable pub plan_of : Header → ℕ → SliceState → SymbolsWithDc → Plan
plan_of h next slice m = record {
  first = next;
  skipped = m.symbols.increment - 1;
  skip_motion = skip_motion h.coding_type slice.motion;
  address = next + (m.symbols.increment - 1);
  motion = (slice_after h m slice).motion;
  pattern = m.symbols.pattern;
  slice = slice_after h m slice;
}

-- the macroblock itself, with its blocks' coefficients
abbrev pub own_macroblock : Plan → List (List ℤ) → MadeMacroblock
own_macroblock p coefficients = record { address = p.address; motion = p.motion; pattern = p.pattern; coefficients = coefficients }

-- the macroblocks that the plan makes: the skipped ones in order, then its own
unfoldable pub macroblocks_of_plan : Plan → List (List ℤ) → List MadeMacroblock
macroblocks_of_plan p coefficients = predicted_only_from p.first p.skipped p.skip_motion ++ (own_macroblock p coefficients ∷ [])

-- ---- what the code uses: the plan with other DC pasts
abbrev pub with_dc : Plan → DcPasts → Plan
with_dc p dc = record {
  first = p.first;
  skipped = p.skipped;
  skip_motion = p.skip_motion;
  address = p.address;
  motion = p.motion;
  pattern = p.pattern;
  slice = record { scale = p.slice.scale; dc = dc; pasts = p.slice.pasts; motion = p.slice.motion; intra = p.slice.intra; first = p.slice.first };
}
