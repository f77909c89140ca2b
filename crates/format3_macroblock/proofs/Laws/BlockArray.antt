-- The loop that reads six blocks, and stores each in the array of 384, agrees with the definitions. Assumes nothing.
use mathlib.Core.Path.{◌≡◌, refl, sym, ap, subst, ◌∙◌}
use mathlib.Core.Bool.{Bool, true}
use mathlib.Core.List.{List, [], ◌∷◌, ◌++◌, append-nil}
use Prim.Native.Nat.{ℕ, zero, suc, ◌+◌, ◌-◌, ◌*◌, ◌<◌, ◌≤◌}
use native.Mathlib.Numerals.{sub-one}
use native.Mathlib.Omega.{arith}
use lib.IntN.{ℤ, pos}
use lib.ListN.{length, get_or, drop, replicate, length-drop, length-append, length-set}
use lib.Seq.{drop-drop}
use Rattle.std.specs.Prelude.{Ok, Err}
use Rattle.math.proofs.Tab.{tab-ext, tab-self}
use Rattle.math.proofs.Scatter.{scatter-length, scatter-at, scatter-other}
use Rattle.math.specs.Bound.{at}
use Rattle.math.proofs.Bound.{zeros-at}
use Rattle.refusals.specs.declared.Refusal.{Refusal}
use Rattle.symbols.specs.Parsed.{parsed, refused, bind, give}
use Rattle.symbols.specs.Block.{Block, uncoded, coded}
use Rattle.symbols.specs.Pattern.{is_coded}
use Rattle.symbols.proofs.Parsed.{all-at, after, nothing-after, after-after}
use Rattle.decode_coefficients.specs.declared.block.BlockCoding.{BlockCoding}
use Rattle.decode_coefficients.specs.Block.{PositionedLevel, block_levels, with_levels, dc_block, block_coefficients, coefficients_of}
use Rattle.decode_coefficients.specs.declared.dc.DcPasts.{DcPasts}
use Rattle.decode_coefficients.specs.Dc.{dc_past_of, dc_pasts_with, dc_pasts_after, dc_pasts_through}
use Rattle.decode_coefficients.proofs.SoFar.{dc-fits}
use Rattle.decode_coefficients.specs.Macroblock.{coefficients_from}
use Rattle.decode_coefficients.specs.BlockArray.{six_blocks, block_in, put_block}
use Rattle.format3_records.specs.declared.field.Cursor.{Cursor}
use Rattle.format3_records.specs.Reader.{ParsesAs}
use Rattle.format3_records.proofs.Reader.{made_of, stopped-before}
use Rattle.format3_macroblock.specs.declared.blocks.BlocksCoding.{BlocksCoding}
use Rattle.format3_macroblock.specs.Blocks.{levels_of, given_difference_of, block_of, given_block_of, blocks_of}
use Rattle.format3_macroblock.specs.Requires.{BeforePairs, LegalDcPasts}
use Rattle.format3_macroblock.specs.Decoding.{one_block_coding, read_dc_of, levels_into, Progress, progress_after, block_into, decoded_blocks_of}
use Rattle.format3_macroblock.proofs.Laws.Blocks.{pasts-legal}

-- ---- one block
-- a block with the DC that was read is one before its pairs
pub begun : (c : BlockCoding) (past : ℤ) (part : List ℕ) {dc : ℤ} {end : Cursor} → ParsesAs (read_dc_of c.intra past) part (Ok (dc, end)) → BeforePairs c (dc_block dc)
begun c past part {dc} found =
    let d = made_of (given_difference_of c.intra past) _ part found in
    record { dc = dc; fits = rw (← d.is) (dc-fits c past d.source); is = refl }

module _ (c : BlocksCoding) (matrix : List ℕ) (block : ℕ) (s : Progress) (part : List ℕ) where
  module _ (e : is_coded c.pattern block ≡ true) where
    pub dc-stops : {refusal : Refusal} → ParsesAs (read_dc_of c.intra (dc_past_of s.pasts block)) part (Err refusal) → ParsesAs (block_into c matrix block s) part (Err refusal)
    unfolding block_of
    dc-stops found = rw (e, stopped-before (given_difference_of c.intra (dc_past_of s.pasts block)) _ part found)

    module _ {dc : ℤ} {after_dc : Cursor} (first : ParsesAs (read_dc_of c.intra (dc_past_of s.pasts block)) part (Ok (dc, after_dc))) where
      pub levels-stop : {refusal : Refusal} → ParsesAs (levels_into (one_block_coding c) matrix (dc_block dc)) (drop after_dc.at part) (Err refusal) → ParsesAs (block_into c matrix block s) part (Err refusal)
      unfolding block_of
      levels-stop found =
          let d = made_of (given_difference_of c.intra (dc_past_of s.pasts block)) _ part first in
          rw (e, d.found.0, stopped-before (levels_of c.intra) _ (drop after_dc.at part) found)

      pub block-found : {values : List ℤ} {end : Cursor} → ParsesAs (levels_into (one_block_coding c) matrix (dc_block dc)) (drop after_dc.at part) (Ok (values, end))
          → ParsesAs (block_into c matrix block s) part (Ok (record { pasts = dc_pasts_with c.intra s.pasts block dc; coefficients = put_block block values s.coefficients }, record { at = after_dc.at + end.at }))
      unfolding block_of block_coefficients
      block-found {values} {end} second =
          let d = made_of (given_difference_of c.intra (dc_past_of s.pasts block)) _ part first in
          let l = made_of (levels_of c.intra) _ (drop after_dc.at part) second in
          (rw (e, d.found.0, l.found.0, d.is, l.is, drop-drop), omega (arith, first.1, second.1, length-drop after_dc.at part))

-- ---- one step in the definition of the six blocks
module _ (intra : Bool) (pattern : ℕ) where
  none_left : (n block : ℕ) (pasts : DcPasts) (bytes : List ℕ) → n ≤ 0 → blocks_of intra pattern n pasts block bytes ≡ parsed [] bytes
  unfolding blocks_of
  none_left zero block pasts bytes h = refl
  none_left (suc n) block pasts bytes h = absurd (omega arith)

  one-refused : (n block : ℕ) (pasts : DcPasts) (bytes : List ℕ) {refusal : Refusal} → 0 < n → given_block_of intra pattern pasts block bytes ≡ refused refusal → blocks_of intra pattern n pasts block bytes ≡ refused refusal
  unfolding blocks_of
  one-refused zero block pasts bytes h e = absurd (omega arith)
  one-refused (suc n) block pasts bytes h e = rw e

  one-read : (n block : ℕ) (pasts : DcPasts) (bytes : List ℕ) {b : Block} {rest : List ℕ} → 0 < n → given_block_of intra pattern pasts block bytes ≡ parsed b rest
      → blocks_of intra pattern n pasts block bytes ≡ bind (blocks_of intra pattern (n - 1) (dc_pasts_after intra pasts block b) (block + 1) rest) (λ blocks. give (b ∷ blocks))
  unfolding blocks_of
  one-read zero block pasts bytes h e = absurd (omega arith)
  one-read (suc n) block pasts bytes h e = rw (e, sub-one)

-- ---- consecutive blocks stored, from a given block on
module _ (c : BlocksCoding) (matrix : List ℕ) where
  pub stored_through : ℕ → Progress → List Block → Progress
  stored_through block s [] = s
  stored_through block s (b ∷ blocks) = stored_through (block + 1) (progress_after c matrix block s b) blocks

  progress-pasts : (block : ℕ) (s : Progress) (b : Block) → (progress_after c matrix block s b).pasts ≡ dc_pasts_after c.intra s.pasts block b
  progress-pasts block s uncoded = refl
  progress-pasts block s (coded difference pairs) = refl

  through-more : (block : ℕ) (s : Progress) (blocks : List Block) (b : Block) (k : ℕ) → block + length blocks ≡ k → stored_through block s (blocks ++ (b ∷ [])) ≡ progress_after c matrix k (stored_through block s blocks) b
  unfolding stored_through
  through-more block s [] b k e = let q : block ≡ k = omega arith in rw q
  through-more block s (a ∷ blocks) b k e = through-more (block + 1) (progress_after c matrix block s a) blocks b k (omega arith)

  through-pasts : (block : ℕ) (s : Progress) (blocks : List Block) → (stored_through block s blocks).pasts ≡ dc_pasts_through c.intra s.pasts block blocks
  unfolding stored_through dc_pasts_through
  through-pasts block s [] = refl
  through-pasts block s (b ∷ blocks) = through-pasts (block + 1) (progress_after c matrix block s b) blocks ∙ ap (λ (p : DcPasts). dc_pasts_through c.intra p (block + 1) blocks) (progress-pasts block s b)

  -- ---- what the array holds after that
  progress-long : (block : ℕ) (s : Progress) (b : Block) → length (progress_after c matrix block s b).coefficients ≡ length s.coefficients
  unfolding put_block
  progress-long block s uncoded = refl
  progress-long block s (coded difference pairs) = scatter-length _ _ 64 s.coefficients

  progress-other : (block : ℕ) (s : Progress) (b : Block) (i : ℕ) → ((k : ℕ) → k < 64 → i ≡ 64 * block + k → ⊥) → at (progress_after c matrix block s b).coefficients i ≡ at s.coefficients i
  unfolding put_block
  progress-other block s uncoded i h = refl
  progress-other block s (coded difference pairs) i h = scatter-other _ _ 64 s.coefficients i (pos 0) h

  progress-own : (block : ℕ) (s : Progress) (b : Block) (k : ℕ) → k < 64 → 64 * block + 64 ≤ length s.coefficients → at s.coefficients (64 * block + k) ≡ pos 0
      → at (progress_after c matrix block s b).coefficients (64 * block + k) ≡ at (coefficients_of (one_block_coding c) matrix (dc_past_of s.pasts block) b) k
  unfolding put_block
  progress-own block s uncoded k low fits zero-there = zero-there ∙ sym (zeros-at 64 k)
  progress-own block s (coded difference pairs) k low fits zero-there = scatter-at _ _ 64 s.coefficients k (pos 0) low (omega arith) (λ j more below same. omega arith)

  through-other : (block : ℕ) (s : Progress) (blocks : List Block) (i : ℕ) → i < 64 * block → at (stored_through block s blocks).coefficients i ≡ at s.coefficients i
  unfolding stored_through
  through-other block s [] i h = refl
  through-other block s (b ∷ blocks) i h = through-other (block + 1) (progress_after c matrix block s b) blocks i (omega arith) ∙ progress-other block s b i (λ k low e. omega arith)

  through-at : (block : ℕ) (s : Progress) (blocks : List Block) (j k : ℕ) → j < length blocks → k < 64 → 64 * (block + length blocks) ≤ length s.coefficients → ((i : ℕ) → 64 * block ≤ i → at s.coefficients i ≡ pos 0)
      → at (stored_through block s blocks).coefficients (64 * (block + j) + k) ≡ at (get_or (coefficients_from (one_block_coding c) matrix s.pasts block blocks) j []) k
  unfolding stored_through coefficients_from
  through-at block s [] j k few low fits zeros = absurd (omega arith)
  through-at block s (b ∷ blocks) zero k few low fits zeros =
      let here : 64 * (block + 0) + k ≡ 64 * block + k = omega arith in
      rw here (through-other (block + 1) (progress_after c matrix block s b) blocks (64 * block + k) (omega arith) ∙ progress-own block s b k low (omega arith) (zeros (64 * block + k) (omega arith)))
  through-at block s (b ∷ blocks) (suc j) k few low fits zeros =
      let next : 64 * (block + suc j) + k ≡ 64 * (block + 1 + j) + k = omega arith in
      rw (next, ← progress-pasts block s b)
      (through-at (block + 1) (progress_after c matrix block s b) blocks j k (omega arith) low (rw (progress-long block s b) (omega arith))
      (λ i above. progress-other block s b i (λ n small e. omega arith) ∙ zeros i (omega arith)))

  coefficients-long : (pasts : DcPasts) (block : ℕ) (blocks : List Block) → length (coefficients_from (one_block_coding c) matrix pasts block blocks) ≡ length blocks
  unfolding coefficients_from
  coefficients-long pasts block [] = refl
  coefficients-long pasts block (b ∷ blocks) = ap suc (coefficients-long (dc_pasts_after c.intra pasts block b) (block + 1) blocks)

with-levels-long : (c : BlockCoding) (matrix : List ℕ) (levels : List PositionedLevel) (block : List ℤ) → length (with_levels c matrix levels block) ≡ length block
unfolding with_levels
with-levels-long c matrix [] block = refl
with-levels-long c matrix (p ∷ levels) block = with-levels-long c matrix levels _ ∙ simp length-set

block-long : (c : BlockCoding) (matrix : List ℕ) (past : ℤ) (b : Block) → length (coefficients_of c matrix past b) ≡ 64
unfolding block_coefficients dc_block
block-long c matrix past uncoded = refl
block-long c matrix past (coded difference pairs) = with-levels-long c matrix (block_levels c pairs) _ ∙ simp length-set

each_long : (c : BlockCoding) (matrix : List ℕ) (pasts : DcPasts) (block : ℕ) (blocks : List Block) (j : ℕ) → j < length blocks → length (get_or (coefficients_from c matrix pasts block blocks) j []) ≡ 64
unfolding coefficients_from
each_long c matrix pasts block [] j h = absurd (omega arith)
each_long c matrix pasts block (b ∷ blocks) zero h = block-long c matrix (dc_past_of pasts block) b
each_long c matrix pasts block (b ∷ blocks) (suc j) h = each_long c matrix (dc_pasts_after c.intra pasts block b) (block + 1) blocks j (omega arith)

-- storing six blocks in an array of zeros gives the six blocks
six-in-array : (c : BlocksCoding) (matrix : List ℕ) (pasts : DcPasts) (blocks : List Block) → length blocks ≡ 6
    → six_blocks (stored_through c matrix 0 (record { pasts = pasts; coefficients = replicate 384 (pos 0) }) blocks).coefficients ≡ coefficients_from (one_block_coding c) matrix pasts 0 blocks
six-in-array c matrix pasts blocks six =
    let s : Progress = record { pasts = pasts; coefficients = replicate 384 (pos 0) } in
    let all = coefficients_from (one_block_coding c) matrix pasts 0 blocks in
    let store = (stored_through c matrix 0 s blocks).coefficients in
    tab-ext 6 (block_in store) (λ b. get_or all b []) (λ b low.
    tab-ext 64 (λ k. at store (64 * b + k)) (λ k. at (get_or all b []) k) (λ k small.
    let here : 64 * (0 + b) + k ≡ 64 * b + k = omega arith in
    rw here at (through-at c matrix 0 s blocks b k (omega arith) small (rw six (omega arith)) (λ i above. zeros-at 384 i)))
    ∙ tab-self 64 (get_or all b []) (pos 0) (each_long (one_block_coding c) matrix pasts 0 blocks b (omega arith)))
    ∙ tab-self 6 all [] (coefficients-long c matrix pasts 0 blocks ∙ six)

-- ---- the loop: the array holds the blocks read so far, and these plus the blocks still to be read are all six
module _ (c : BlocksCoding) (matrix : List ℕ) (start : Progress) (body : List ℕ) where
  pub record BetweenBlocks (block at : ℕ) (s : Progress) : Type 0 where
    pub below : block ≤ 6
    pub inside : at ≤ length body
    pub legal : LegalDcPasts s.pasts
    pub blocks : List Block
    pub count : length blocks ≡ block
    pub holds : s ≡ stored_through c matrix 0 start blocks
    pub goes_on : blocks_of c.intra c.pattern 6 start.pasts 0 body ≡ after blocks (blocks_of c.intra c.pattern (6 - block) s.pasts block (drop at body))

  pub at-start : LegalDcPasts start.pasts → BetweenBlocks 0 0 start
  unfolding stored_through
  at-start p = record { below = omega arith; inside = omega arith; legal = p; blocks = []; count = refl; holds = refl; goes_on = sym (nothing-after (blocks_of c.intra c.pattern 6 start.pasts 0 body)) }

  module _ {block at : ℕ} {s : Progress} (p : BetweenBlocks block at s) where
    pub ends : 6 ≤ block → start.coefficients ≡ replicate 384 (pos 0) → ParsesAs (decoded_blocks_of c matrix start.pasts) body (Ok (record { pasts = s.pasts; coefficients = six_blocks s.coefficients }, record { at = at }))
    ends h zeros =
        let none : 6 - block ≤ 0 = omega arith in
        let six : length p.blocks ≡ 6 = omega (arith, p.count, p.below) in
        let begun : start ≡ record { pasts = start.pasts; coefficients = replicate 384 (pos 0) } = λ i. record { pasts = start.pasts; coefficients = zeros i } in
        let stands : s ≡ stored_through c matrix 0 (record { pasts = start.pasts; coefficients = replicate 384 (pos 0) }) p.blocks = p.holds ∙ ap (λ (t : Progress). stored_through c matrix 0 t p.blocks) begun in
        (rw (p.goes_on, none_left c.intra c.pattern (6 - block) block s.pasts (drop at body) none, append-nil, stands, through-pasts c matrix 0, six-in-array c matrix start.pasts p.blocks six), p.inside)

    module _ (h : block < 6) where
      some : 0 < 6 - block
      some = omega arith

      pub stops : {refusal : Refusal} → ParsesAs (block_into c matrix block s) (drop at body) (Err refusal) → ParsesAs (decoded_blocks_of c matrix start.pasts) body (Err refusal)
      stops found =
          let e = stopped-before (given_block_of c.intra c.pattern s.pasts block) _ (drop at body) found in
          rw (p.goes_on, one-refused c.intra c.pattern (6 - block) block s.pasts (drop at body) some e)

      pub one_more : {next : Progress} {cursor : Cursor} → ParsesAs (block_into c matrix block s) (drop at body) (Ok (next, cursor)) → BetweenBlocks (block + 1) (at + cursor.at) next
      one_more {next} {cursor} found =
          let n = cursor.at in
          let b = made_of (given_block_of c.intra c.pattern s.pasts block) _ (drop at body) found in
          let read = b.found.0 in
          let pasts : dc_pasts_after c.intra s.pasts block b.source ≡ next.pasts = sym (progress-pasts c matrix block s b.source) ∙ ap (λ (t : Progress). t.pasts) b.is in
          let less : 6 - block - 1 ≡ 6 - (block + 1) = omega arith in record {
            below = omega arith;
            inside = omega (arith, p.inside, found.1, length-drop at body);
            legal = subst LegalDcPasts pasts (all-at (pasts-legal c.intra c.pattern s.pasts block (drop at body) p.legal) read);
            blocks = p.blocks ++ (b.source ∷ []);
            count = simp length-append (omega (arith, p.count));
            holds = sym b.is ∙ ap (λ (t : Progress). progress_after c matrix block t b.source) p.holds ∙ sym (through-more c matrix 0 start p.blocks b.source block (omega (arith, p.count)));
            goes_on = rw (p.goes_on, one-read c.intra c.pattern (6 - block) block s.pasts (drop at body) some read, drop-drop n at body, less, pasts) (after-after p.blocks (b.source ∷ []) (blocks_of c.intra c.pattern (6 - (block + 1)) next.pasts (block + 1) (drop (at + n) body)));
          }
