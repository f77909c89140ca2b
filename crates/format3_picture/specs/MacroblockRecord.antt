-- What a macroblock record does (document 01, kind 4 and refusal 18; request No. 1, refusal 23; request No. 6, rows worked).
use Rattle.std.specs.Prelude.{List, [], ℕ, ◌+◌, eqb, ℤ, Result, Ok, Err, ⊤}
use Rattle.std.specs.Result.{result_and}
use Rattle.refusals.specs.declared.Refusal.{Refusal}
use Rattle.refusals.specs.declared.Refusal.TheVariants.{ForwardVectorOutside, BackwardVectorOutside}
use Rattle.symbols.specs.Parsed.{Parsed, parsed, refused}
use Rattle.symbols.specs.Size.{macroblock_count}
use Rattle.symbols.specs.declared.size.PictureSize.{PictureSize}
use Rattle.symbols.specs.Macroblock.{Macroblock}
use Rattle.decode_coefficients.specs.declared.matrices.Matrices.{Matrices}
use Rattle.decode_vectors.specs.Vector.{f_of}
use Rattle.decode_macroblock.specs.Compensation.{References}
use Rattle.decode_macroblock.specs.Fit.{fit_of, first_misfit}
use Rattle.decode_macroblock.specs.Macroblock.{MadeMacroblock, with_macroblocks}
use Rattle.decode_macroblock.specs.Rows.{rows_of}
use Rattle.decode_macroblock.specs.declared.fit.Direction.{Direction}
use Rattle.decode_macroblock.specs.declared.fit.Direction.TheVariants.{Forward, Backward}
use Rattle.decode_state.specs.Plan.{macroblocks_of_plan}
use Rattle.decode_state.specs.declared.plan.Plan.{Plan}
use Rattle.format3_records.specs.Turn.{turn_after}
use Rattle.format3_records.specs.Record.{macroblock_kind}
use Rattle.format3_macroblock.specs.Macroblock.{macroblock_of}
use Rattle.format3_macroblock.specs.declared.macroblock.MacroblockContext.{MacroblockContext}
use Rattle.format3_picture.specs.declared.state.PictureState.{PictureState}
use Rattle.format3_picture.specs.Reconstruction.{plan_for, coefficients_for}

-- what reading a macroblock record depends on
abbrev pub context_of : PictureState → MacroblockContext
context_of s = record {
  head = record {
    coding_type = s.header.coding_type;
    macroblocks = macroblock_count s.header.size;
    next = s.next;
    first = s.slice.first;
    intra = s.slice.intra;
  };
  forward_f = f_of s.header.forward.f_code;
  backward_f = f_of s.header.backward.f_code;
  dc = s.slice.dc;
}

-- the result of a record: the verdict, the state after it, and the macroblocks that it makes
pub record Applied : Type 0 where
  pub verdict : Result ⊤ Refusal
  pub state : PictureState
  pub macroblocks : List MadeMacroblock

-- a refused record makes no macroblock and leaves the state unchanged
abbrev pub refused_record : Refusal → PictureState → Applied
refused_record refusal s = record { verdict = Err refusal; state = s; macroblocks = [] }

-- "Last 18: skipped macroblocks in order, then its own, forward before backward"; request No. 1: "Place and order stay"
unfoldable pub record_fit : PictureSize → Plan → Result ⊤ Direction
record_fit size p = result_and (first_misfit size p.first p.skipped p.skip_motion) (fit_of size p.address p.motion)

-- the state after the record's macroblocks are made, with the rows worked for them
abbrev pub state_after : PictureState → Plan → ℕ → PictureState
state_after s p rows = record {
  header = s.header;
  loaded = s.loaded;
  turn = turn_after macroblock_kind (eqb (p.address + 1) (macroblock_count s.header.size));
  next = p.address + 1;
  made = s.made + (p.skipped + 1);
  rows = s.rows + rows;
  slice = p.slice;
}

-- ---- `Refusing`: with any refusal for a backward misfit, so that a theorem can say what depends on it. The reader's own follow, with 23
module _ (backward_refusal : Refusal) where
  -- request No. 1: "18 speaks of the forward vector alone"
  abbrev pub fit_verdict_refusing : Result ⊤ Direction → Result ⊤ Refusal
  fit_verdict_refusing (Ok fits) = Ok fits
  fit_verdict_refusing (Err Forward) = Err ForwardVectorOutside
  fit_verdict_refusing (Err Backward) = Err backward_refusal

  -- if every macroblock of the record fits, all are made; otherwise the record is refused and makes none
  unfoldable pub plan_applied_refusing : PictureState → Plan → List (List ℤ) → Applied
  plan_applied_refusing s p coefficients = go (fit_verdict_refusing (record_fit s.header.size p))
    where
      go : Result ⊤ Refusal → Applied
      go (Ok fits) =
          let macroblocks = macroblocks_of_plan p coefficients in
          record { verdict = Ok fits; state = state_after s p (rows_of macroblocks); macroblocks = macroblocks }
      go (Err refusal) = refused_record refusal s

  -- what a macroblock's symbols do: test that the vectors fit (18 and 23), then make the macroblocks
  unfoldable pub symbols_applied_refusing : Matrices → PictureState → Macroblock → Applied
  symbols_applied_refusing q s m = plan_applied_refusing s (plan_for s.header s.next s.slice m) (coefficients_for q s.slice m)

  abbrev pub parsed_applied_refusing : Matrices → PictureState → Parsed Macroblock → Applied
  parsed_applied_refusing q s (parsed m rest) = symbols_applied_refusing q s m
  parsed_applied_refusing q s (refused refusal) = refused_record refusal s

  -- a macroblock record: reads and tests all its symbols, then makes its macroblocks
  abbrev pub macroblock_applied_refusing : Matrices → PictureState → List ℕ → Applied
  macroblock_applied_refusing q s body = parsed_applied_refusing q s (macroblock_of (context_of s) body)

-- request No. 1: "23 when the backward vector doesn't fit"
abbrev pub fit_verdict : Result ⊤ Direction → Result ⊤ Refusal
fit_verdict = fit_verdict_refusing BackwardVectorOutside

abbrev pub plan_applied : PictureState → Plan → List (List ℤ) → Applied
plan_applied = plan_applied_refusing BackwardVectorOutside

abbrev pub parsed_applied : Matrices → PictureState → Parsed Macroblock → Applied
parsed_applied = parsed_applied_refusing BackwardVectorOutside

abbrev pub macroblock_applied : Matrices → PictureState → List ℕ → Applied
macroblock_applied = macroblock_applied_refusing BackwardVectorOutside

-- ---- what the code answers, and what it leaves in the output
abbrev pub outcome_of : Applied → Result PictureState Refusal
outcome_of a = result_and a.verdict (Ok a.state)

abbrev pub with_applied : (List ℤ → ℕ → ℤ) → References → PictureState → Applied → List ℕ → List ℕ
with_applied transform r s a output = with_macroblocks transform r s.header.size a.macroblocks output
