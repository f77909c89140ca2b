-- Laws of reading a macroblock record in steps: its symbols, then its blocks. Assumes nothing.
use mathlib.Core.Bool.{false}
use mathlib.Core.List.{List, [], ◌∷◌}
use mathlib.Core.Path.{◌≡◌, sym, ap, ◌∙◌, subst}
use Prim.Native.Nat.{ℕ, ◌≤◌, ◌<◌}
use native.Mathlib.Omega.{arith}
use lib.IntN.{ℤ}
use lib.ListN.{length, drop}
use Rattle.std.specs.Prelude.{Ok, Err}
use Rattle.refusals.specs.declared.Refusal.{Refusal}
use Rattle.refusals.specs.declared.Refusal.TheVariants.{BodyLength}
use Rattle.symbols.specs.Block.{Block}
use Rattle.symbols.specs.MacroblockType.{is_intra}
use Rattle.symbols.specs.declared.macroblock.MacroblockSymbols.{MacroblockSymbols}
use Rattle.symbols.proofs.Parsed.{all-at}
use Rattle.decode_coefficients.specs.Matrices.{matrix_for}
use Rattle.decode_coefficients.specs.declared.matrices.Matrices.{Matrices}
use Rattle.decode_coefficients.specs.Requires.{BlocksInRange}
use Rattle.decode_coefficients.specs.declared.dc.DcPasts.{DcPasts}
use Rattle.decode_coefficients.specs.Dc.{starting_dc_pasts}
use Rattle.decode_coefficients.specs.Macroblock.{scale_after, block_coding, symbols_with_dc_left}
use Rattle.decode_macroblock.specs.Compensation.{References}
use Rattle.decode_state.specs.Plan.{plan_of}
use Rattle.decode_state.specs.declared.plan.Plan.{Plan}
use Rattle.format3_records.specs.declared.field.Cursor.{Cursor}
use Rattle.format3_records.specs.Reader.{ParsesAs}
use Rattle.format3_records.proofs.Reader.{made_of, stopped-before}
use Rattle.format3_macroblock.specs.Decoding.{DecodedBlocks, decoded_blocks, decoded_to_end_of}
use Rattle.format3_macroblock.specs.Macroblock.{macroblock_symbols_of, blocks_to_end_of, macroblock_with_symbols, macroblock_of}
use Rattle.format3_macroblock.proofs.Laws.Macroblock.{SymbolsLegal, symbols-legal, none_coded, none-then-end, none-then-more, none-through, whole-legal, coefficients-in-range}
use Rattle.format3_picture.specs.declared.state.PictureState.{PictureState}
use Rattle.format3_picture.specs.Requires.{SymbolsRead, starting_plan}
use Rattle.format3_picture.specs.MacroblockRecord.{Applied, context_of, refused_record, plan_applied, symbols_applied_refusing, parsed_applied, macroblock_applied, outcome_of, with_applied}
use Rattle.format3_picture.proofs.WriteLaws.{any-coefficients, same_outcome}

-- ---- the symbols
pub given-legal : {s : PictureState} {m : MacroblockSymbols} → SymbolsRead s m → SymbolsLegal (context_of s) m
given-legal {s} g = all-at (symbols-legal (context_of s) g.body) g.read

module _ (q : Matrices) (s : PictureState) (body : List ℕ) where
  pub symbols-refused : {refusal : Refusal} → ParsesAs (macroblock_symbols_of (context_of s)) body (Err refusal) → macroblock_applied q s body ≡ refused_record refusal s
  unfolding macroblock_of
  symbols-refused found = rw found

  pub given : {m : MacroblockSymbols} {end : Cursor} → ParsesAs (macroblock_symbols_of (context_of s)) body (Ok (m, end)) → SymbolsRead s m
  given found = record { body = body; rest = _; read = found.0 }

  pub symbols-read : {m : MacroblockSymbols} {end : Cursor} → ParsesAs (macroblock_symbols_of (context_of s)) body (Ok (m, end))
      → macroblock_applied q s body ≡ parsed_applied q s (macroblock_with_symbols s.slice.dc m (drop end.at body))
  unfolding macroblock_of
  symbols-read found = rw found.0

-- ---- the blocks, with the scale and the pasts that apply
module _ (q : Matrices) (s : PictureState) (m : MacroblockSymbols) (rest : List ℕ) where
  abbrev scale : ℕ
  scale = scale_after s.slice.scale m

  abbrev starting : DcPasts
  starting = starting_dc_pasts s.slice.dc m.increment

  abbrev from-blocks : Applied
  from-blocks = parsed_applied q s (macroblock_with_symbols s.slice.dc m rest)

  abbrev pub decoding : List Block → DecodedBlocks
  decoding blocks = decoded_blocks (block_coding m scale) (matrix_for (is_intra m.macroblock_type) q) starting blocks

  pub blocks-refused : {refusal : Refusal} → ParsesAs (decoded_to_end_of m scale q starting) rest (Err refusal) → from-blocks ≡ refused_record refusal s
  blocks-refused found = rw (stopped-before (blocks_to_end_of m starting) decoding rest found)

  -- the result: the plan for the symbols, with the blocks' coefficients, which are in range
  pub record BlocksRead (p : Plan) (d : DecodedBlocks) : Type 0 where
    pub comes-to : from-blocks ≡ plan_applied s p d.coefficients
    pub in-range : BlocksInRange d.coefficients

  pub blocks-read : {p : Plan} {d : DecodedBlocks} {end : Cursor} → ParsesAs (decoded_to_end_of m scale q starting) rest (Ok (d, end))
      → p ≡ plan_of s.header s.next s.slice (symbols_with_dc_left m d.pasts) → BlocksRead p d
  unfolding symbols_applied_refusing
  blocks-read {p} {d} found planned =
      let b = made_of (blocks_to_end_of m starting) decoding rest found in
      let legal = all-at (whole-legal m starting rest) b.found.0 in
      subst (λ (x : Plan). BlocksRead x d) (sym planned)
      (subst (λ (x : DecodedBlocks). BlocksRead (plan_of s.header s.next s.slice (symbols_with_dc_left m x.pasts)) x) b.is (record {
        comes-to = rw b.found.0;
        in-range = coefficients-in-range q scale starting (record { symbols = m; blocks = b.source }) legal;
      }))

  -- ---- if no block is coded, the macroblock is not intra, so it leaves reset DC pasts
  module _ (none-given : m.pattern ≡ 0) where
    pub bytes-behind : 0 < length rest → from-blocks ≡ refused_record BodyLength s
    bytes-behind more = rw (none-then-more m starting none-given rest more)

    pub predicted : is_intra m.macroblock_type ≡ false → length rest ≤ 0 → from-blocks ≡ plan_applied s (starting_plan s m) (decoding none_coded).coefficients
    unfolding symbols_applied_refusing
    predicted inter none = go rest none
      where
        go : (bytes : List ℕ) → length bytes ≤ 0 → parsed_applied q s (macroblock_with_symbols s.slice.dc m bytes) ≡ plan_applied s (starting_plan s m) (decoding none_coded).coefficients
        go [] h = rw (none-then-end m starting none-given, none-through (is_intra m.macroblock_type) starting, inter)
        go (b ∷ bytes) h = absurd (omega arith)

    -- its coefficients then don't matter
    pub record Uncoded (p : Plan) : Type 0 where
      pub pattern : p.pattern ≡ 0
      pub outcome : outcome_of from-blocks ≡ outcome_of (plan_applied s p [])
      pub output : (transform : List ℤ → ℕ → ℤ) (r : References) (picture : List ℕ) → with_applied transform r s from-blocks picture ≡ with_applied transform r s (plan_applied s p []) picture

    pub uncoded : {p : Plan} → p ≡ starting_plan s m → SymbolsRead s m → length rest ≤ 0 → Uncoded p
    unfolding plan_of
    uncoded planned read none =
        let inter = (given-legal read).inter-if-uncoded none-given in
        let coefficients = (decoding none_coded).coefficients in
        subst Uncoded (sym planned) (record {
          pattern = none-given;
          outcome = ap outcome_of (predicted inter none) ∙ same_outcome s (starting_plan s m) none-given coefficients;
          output = λ transform r picture.
              ap (λ (a : Applied). with_applied transform r s a picture) (predicted inter none) ∙ any-coefficients s (starting_plan s m) transform r none-given coefficients picture;
        })
