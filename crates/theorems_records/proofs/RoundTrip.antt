-- The writer and the reader of a slice's record, and of a macroblock's, undo one another. Assumes nothing.
use mathlib.Core.Bool.{Bool, true, false, cond}
use mathlib.Core.List.{List, [], ◌∷◌, ◌++◌, append_assoc, append-nil}
use mathlib.Core.Path.{◌≡◌, refl, ap, ◌∙◌}
use Prim.Native.Nat.{ℕ}
use native.Mathlib.Omega.{arith}
use borrow.Author.Tests.{eqb-true}
use lib.Dec.{eqb}
use lib.ListN.{length}
use mir.Syntax.{w8, w16}
use mir.Val.{Fits}
use prog.Model.{AllFit}
use Rattle.refusals.specs.declared.Refusal.TheVariants as Refusal
use Rattle.symbols.specs.Parsed.{Parsed, Parser, parsed, give}
use Rattle.symbols.specs.declared.slice.SliceHeader.{SliceHeader}
use Rattle.symbols.specs.declared.macroblock.MacroblockHead.{MacroblockHead}
use Rattle.symbols.specs.MacroblockType.{has_scale, has_forward, has_backward, has_pattern, is_intra, legal_type}
use Rattle.symbols.specs.Pattern.{coded_pattern}
use Rattle.symbols.specs.Block.{Block}
use Rattle.symbols.specs.declared.vector_codes.Vectors.{Vectors}
use Rattle.symbols.specs.declared.macroblock.MacroblockSymbols.{MacroblockSymbols}
use Rattle.symbols.specs.VectorCodes.{no_codes}
use Rattle.symbols.specs.Macroblock.{Macroblock}
use Rattle.symbols.proofs.Guard.{require-all}
use Rattle.symbols.proofs.Parsed.{All, here, none, all_then, all-require, all-at}
use Rattle.decode_coefficients.specs.declared.dc.DcPasts.{DcPasts}
use Rattle.decode_coefficients.specs.Dc.{starting_dc_pasts}
use Rattle.decode_vectors.specs.Vector.{code_in_range, residual_in_range}
use Rattle.format3_macroblock.specs.Slice.{legal_scale, scale_of, slice_fields_of, slice_of}
use Rattle.format3_macroblock.specs.MacroblockHead.{legal_increment, head_of}
use Rattle.format3_macroblock.specs.VectorCodes.{vector_code_of, vector_codes_of}
use Rattle.format3_macroblock.specs.declared.macroblock.MacroblockContext.{MacroblockContext}
use Rattle.format3_macroblock.specs.Vectors.{vectors_of}
use Rattle.format3_macroblock.specs.Macroblock.{legal_pattern, pattern_of, coded_pattern_of, macroblock_symbols_of, at_end, blocks_to_end_of, macroblock_of}
use Rattle.format3_writer.specs.Bytes.{big_endian_bytes}
use Rattle.format3_writer.specs.Records.{slice_body, head_bytes, vector_code_bytes, vector_codes_bytes, vectors_bytes, pattern_bytes, blocks_bytes, macroblock_body}
use Rattle.theorems_records.specs.FieldFit.{CodedBy, WhereGiven, Matching}
use Rattle.theorems_records.specs.Legal.{LegalSlice, LegalCode, LegalCodes, LegalSymbols, LegalBlocks, LegalMacroblock}
use Rattle.theorems_records.specs.ReadBack.{ReadBack, back, other}
use Rattle.theorems_records.proofs.Legal.{macroblock-fits}
use Rattle.theorems_records.proofs.Slice.{slice_back}
use Rattle.theorems_records.proofs.Macroblock.{macroblock-back}
use Rattle.theorems_records.proofs.Written.{Written, as_written, both-written, given-written, byte-written, word-written, signed-byte-written, scale-written, blocks-written}

-- ---- what is within its ranges is read back
legal-back : {A : Type 0} {a : A} {Fit Legal : Type 0} {behind : List ℕ} {x : Parsed A} → ReadBack (λ b. Fit → b ≡ a) Legal behind x → Fit → Legal → x ≡ parsed a behind
legal-back {A} {behind = behind} (back same) fits legal = ap (λ (b : A). parsed b behind) (same fits)
legal-back (other o not) fits legal = absurd (not legal)

known-pattern : (type pattern : ℕ) → coded_pattern type (λ known. eqb pattern known) (legal_pattern pattern) ≡ true → pattern ≡ coded_pattern type (λ known. known) pattern
known-pattern type pattern = go (is_intra type) (has_pattern type)
  where
    go : (intra given : Bool) → cond intra (eqb pattern 63) (cond given (legal_pattern pattern) (eqb pattern 0)) ≡ true → pattern ≡ cond intra 63 (cond given pattern 0)
    go true given e = eqb-true pattern 63 e
    go false true e = refl
    go false false e = eqb-true pattern 0 e

pub legal-matching : {c : MacroblockContext} {m : Macroblock} → LegalMacroblock c m → Matching m
legal-matching {m = m} legal = record { pattern = known-pattern m.symbols.macroblock_type m.symbols.pattern legal.symbols.pattern; blocks = legal.coded }

pub macroblock-read-back : {c : MacroblockContext} {m : Macroblock} → LegalMacroblock c m → macroblock_of c (macroblock_body m) ≡ parsed m []
macroblock-read-back {c} {m} legal = legal-back (macroblock-back c m (legal-matching legal)) (macroblock-fits legal) legal

pub slice-read-back : {s : SliceHeader} → LegalSlice s → slice_of (slice_body s.scale s.start) ≡ parsed s []
slice-read-back {s} legal = legal-back (slice_back s.scale s.start) legal.two_bytes legal

-- ---- what is read from bytes is within its ranges, and the bytes are those that the writer makes of it
code-written : (f : ℕ) (bytes : List ℕ) → AllFit w8 bytes → All (λ code rest. Written (LegalCode f code) (vector_code_bytes code.code code.residual) bytes rest) (vector_code_of f bytes)
unfolding vector_code_of vector_code_bytes
code-written f bytes fit =
    all_then (signed-byte-written bytes fit) λ code rest w.
    all-require (code_in_range code) Refusal.VectorCode _ rest λ small.
    all_then (byte-written rest w.left) λ residual end v.
    all-require (residual_in_range f code residual) Refusal.VectorCode _ end λ below.
    here (both-written w v (record { code = small; residual = below }))

codes-written : (f : ℕ) (bytes : List ℕ) → AllFit w8 bytes → All (λ codes rest. Written (LegalCodes f codes) (vector_codes_bytes codes) bytes rest) (vector_codes_of f bytes)
unfolding vector_codes_of vector_codes_bytes
codes-written f bytes fit =
    all_then (code-written f bytes fit) λ horizontal rest w.
    all_then (code-written f rest w.left) λ vertical end v.
    here (both-written w v (record { horizontal = w.legal; vertical = v.legal }))

pattern-written : (type : ℕ) (bytes : List ℕ) → AllFit w8 bytes
    → All (λ pattern rest. Written (coded_pattern type (λ known. eqb pattern known) (legal_pattern pattern) ≡ true) (pattern_bytes type pattern) bytes rest) (coded_pattern_of type bytes)
unfolding pattern_bytes pattern_of
pattern-written type bytes fit = go (is_intra type) (has_pattern type)
  where
    go : (intra given : Bool)
        → All (λ pattern rest. Written (cond intra (eqb pattern 63) (cond given (legal_pattern pattern) (eqb pattern 0)) ≡ true) (cond {A = List ℕ} intra [] (cond {A = List ℕ} given (pattern ∷ []) [])) bytes rest)
        (cond {A = Parser ℕ} intra (give 63) (cond {A = Parser ℕ} given pattern_of (give 0)) bytes)
    go true given = here (record { legal = refl; written = refl; left = fit })
    go false true =
        all_then (byte-written bytes fit) λ pattern rest w.
        all-require (legal_pattern pattern) Refusal.Pattern _ rest λ legal.
        here (as_written w legal)
    go false false = here (record { legal = refl; written = refl; left = fit })

abbrev symbols_bytes : MacroblockSymbols → List ℕ
symbols_bytes m = head_bytes m.macroblock_type m.increment m.scale ++ (vectors_bytes m.macroblock_type m.forward m.backward ++ pattern_bytes m.macroblock_type m.pattern)

-- the blocks, and no byte is left over
record WholeBlocks (m : MacroblockSymbols) (pasts : DcPasts) (bytes : List ℕ) (blocks : List Block) (rest : List ℕ) : Type 0 where
  as-coded : CodedBy m.pattern 6 0 blocks
  inside : LegalBlocks (is_intra m.macroblock_type) pasts 0 blocks
  none_left : rest ≡ []
  all-bytes : bytes ≡ blocks_bytes (is_intra m.macroblock_type) blocks

whole-written : (m : MacroblockSymbols) (pasts : DcPasts) (bytes : List ℕ) → AllFit w8 bytes → All (WholeBlocks m pasts bytes) (blocks_to_end_of m pasts bytes)
unfolding blocks_to_end_of
whole-written m pasts bytes fit = all_then (blocks-written (is_intra m.macroblock_type) m.pattern 6 pasts 0 bytes fit) go
  where
    go : (blocks : List Block) (rest : List ℕ) → Written (CodedBy m.pattern 6 0 blocks × LegalBlocks (is_intra m.macroblock_type) pasts 0 blocks) (blocks_bytes (is_intra m.macroblock_type) blocks) bytes rest
        → All (WholeBlocks m pasts bytes) (at_end blocks rest)
    go blocks [] w = here (record { as-coded = w.legal.0; inside = w.legal.1; none_left = refl; all-bytes = w.written ∙ append-nil _ })
    go blocks (b ∷ rest) w = none

-- a macroblock, read against a context
module _ (c : MacroblockContext) where
  record LegalHead (head : MacroblockHead) : Type 0 where
    type : legal_type c.head.coding_type head.macroblock_type ≡ true
    increment : legal_increment c.head head.increment ≡ true
    two_bytes : Fits w16 head.increment
    scale : WhereGiven (has_scale head.macroblock_type) (legal_scale head.scale ≡ true) 0 head.scale

  head-written : (bytes : List ℕ) → AllFit w8 bytes → All (λ head rest. Written (LegalHead head) (head_bytes head.macroblock_type head.increment head.scale) bytes rest) (head_of c.head bytes)
  unfolding head_of head_bytes
  head-written bytes fit =
      all_then (byte-written bytes fit) λ type rest w.
      all-require (legal_type c.head.coding_type type) Refusal.MacroblockType _ rest λ known.
      all_then (word-written rest w.left) λ increment after v.
      all-require (legal_increment c.head increment) Refusal.AddressIncrement _ after λ near.
      all_then (given-written (has_scale type) 0 scale_of after v.left (scale-written after v.left)) λ scale end u.
      here (both-written w (both-written v u (tt {0})) (record { type = known; increment = near; two_bytes = v.legal; scale = u.legal }))

  record LegalVectors (type : ℕ) (vectors : Vectors) : Type 0 where
    first : WhereGiven (has_forward type) (LegalCodes c.forward_f vectors.forward) no_codes vectors.forward
    second : WhereGiven (has_backward type) (LegalCodes c.backward_f vectors.backward) no_codes vectors.backward

  vectors-written : (type : ℕ) (bytes : List ℕ) → AllFit w8 bytes
      → All (λ vectors rest. Written (LegalVectors type vectors) (vectors_bytes type vectors.forward vectors.backward) bytes rest) (vectors_of type c.forward_f c.backward_f bytes)
  unfolding vectors_of
  vectors-written type bytes fit =
      all_then (given-written (has_forward type) no_codes (vector_codes_of c.forward_f) bytes fit (codes-written c.forward_f bytes fit)) λ forward rest w.
      all_then (given-written (has_backward type) no_codes (vector_codes_of c.backward_f) rest w.left (codes-written c.backward_f rest w.left)) λ backward end v.
      here (both-written w v (record { first = w.legal; second = v.legal }))

  symbols-written : (bytes : List ℕ) → AllFit w8 bytes → All (λ m rest. Written (LegalSymbols c m) (symbols_bytes m) bytes rest) (macroblock_symbols_of c bytes)
  unfolding macroblock_symbols_of
  symbols-written bytes fit =
      all_then (head-written bytes fit) λ head rest w.
      all_then (vectors-written head.macroblock_type rest w.left) λ vectors after v.
      all_then (pattern-written head.macroblock_type after v.left) λ pattern end u.
      here (both-written w (both-written v u (tt {0})) (record {
        type = w.legal.type;
        increment = w.legal.increment;
        two_bytes = w.legal.two_bytes;
        scale = w.legal.scale;
        forward = v.legal.first;
        backward = v.legal.second;
        pattern = u.legal;
      }))

  -- no byte of the body is left over, and the body is the one that the writer makes of the macroblock
  pub record MacroblockWritten (m : Macroblock) (body rest : List ℕ) : Type 0 where
    pub legal : LegalMacroblock c m
    pub whole : rest ≡ []
    pub written : body ≡ macroblock_body m

  macroblock-body : (body : List ℕ) → AllFit w8 body → All (λ m rest. MacroblockWritten m body rest) (macroblock_of c body)
  unfolding macroblock_of macroblock_body
  macroblock-body body fit =
      all_then (symbols-written body fit) λ m rest w.
      all_then (whole-written m (starting_dc_pasts c.dc m.increment) rest w.left) λ blocks end v.
      here (record {
        legal = record { symbols = w.legal; coded = v.as-coded; blocks = v.inside };
        whole = v.none_left;
        written = w.written ∙ rw (v.all-bytes, append_assoc, append_assoc);
      })

  pub macroblock-written : (m : Macroblock) (body rest : List ℕ) → AllFit w8 body → macroblock_of c body ≡ parsed m rest → MacroblockWritten m body rest
  macroblock-written m body rest fit e = all-at (macroblock-body body fit) e

-- ---- the same for a slice's record
pub record SliceWritten (s : SliceHeader) (body rest : List ℕ) : Type 0 where
  pub legal : LegalSlice s
  pub whole : rest ≡ []
  pub written : body ≡ slice_body s.scale s.start

slice-body : (body : List ℕ) → AllFit w8 body → All (λ s rest. SliceWritten s body rest) (slice_of body)
unfolding slice_of slice_fields_of slice_body big_endian_bytes
slice-body body fit =
    require-all (All (λ s rest. SliceWritten s body rest)) (eqb (length body) 3) _ _ none λ three.
    all_then (scale-written body fit) λ scale rest w.
    all_then (word-written rest w.left) λ start end v.
    here (done scale start end three (both-written w v (record { scale = w.legal; two_bytes = v.legal })))
  where
    done : (scale start : ℕ) (end : List ℕ) → eqb (length body) 3 ≡ true
        → Written (LegalSlice (record { scale = scale; start = start })) (scale ∷ big_endian_bytes start) body end → SliceWritten (record { scale = scale; start = start }) body end
    done scale start [] three w = record { legal = w.legal; whole = refl; written = w.written }
    done scale start (b ∷ end) three w = absurd (omega (arith, eqb-true (length body) 3 three, ap length w.written))

pub slice_written : (s : SliceHeader) (body rest : List ℕ) → AllFit w8 body → slice_of body ≡ parsed s rest → SliceWritten s body rest
slice_written s body rest fit e = all-at (slice-body body fit) e
