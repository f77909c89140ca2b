-- A macroblock's record, once written, is read back. Assumes nothing.
use mathlib.Core.Bool.{Bool, true, false, cond}
use mathlib.Core.List.{List, [], ◌∷◌, ◌++◌, append_assoc, append-nil}
use mathlib.Core.Path.{◌≡◌, refl, sym, ap}
use Prim.Native.Nat.{ℕ, suc, ◌≤◌}
use native.Mathlib.Omega.{arith}
use lib.Dec.{eqb}
use lib.IntN.{ℤ}
use lib.ListN.{length}
use mir.Syntax.{w8}
use mir.Val.{SFits}
use Rattle.refusals.specs.declared.Refusal.TheVariants as Refusal
use Rattle.symbols.specs.Parsed.{Parser, give}
use Rattle.symbols.specs.declared.macroblock.MacroblockHead.{MacroblockHead}
use Rattle.symbols.specs.declared.vector_codes.VectorCode.{VectorCode}
use Rattle.symbols.specs.declared.vector_codes.VectorCodes.{VectorCodes}
use Rattle.symbols.specs.MacroblockType.{has_scale, has_forward, has_backward, has_pattern, is_intra, legal_type}
use Rattle.symbols.specs.Pattern.{coded_pattern}
use Rattle.symbols.specs.Block.{Block}
use Rattle.symbols.specs.declared.vector_codes.Vectors.{Vectors}
use Rattle.symbols.specs.declared.macroblock.MacroblockSymbols.{MacroblockSymbols}
use Rattle.symbols.specs.VectorCodes.{no_codes}
use Rattle.symbols.specs.Macroblock.{Macroblock}
use Rattle.decode_coefficients.specs.declared.dc.DcPasts.{DcPasts}
use Rattle.decode_vectors.specs.Vector.{code_in_range, residual_in_range}
use Rattle.format3_records.specs.Field.{byte}
use Rattle.format3_macroblock.specs.Slice.{scale_of}
use Rattle.format3_macroblock.specs.MacroblockHead.{legal_increment, head_of}
use Rattle.format3_macroblock.specs.VectorCodes.{vector_code_of, vector_codes_of}
use Rattle.format3_macroblock.specs.declared.macroblock.MacroblockContext.{MacroblockContext}
use Rattle.format3_macroblock.specs.Vectors.{vectors_of}
use Rattle.format3_macroblock.specs.Macroblock.{legal_pattern, pattern_of, coded_pattern_of, macroblock_symbols_of, blocks_to_end_of, macroblock_of}
use Rattle.format3_writer.specs.Bytes.{big_endian_bytes}
use Rattle.format3_writer.specs.Records.{head_bytes, vector_code_bytes, vector_codes_bytes, vectors_bytes, pattern_bytes, blocks_bytes, macroblock_body}
use Rattle.format3_writer.proofs.Laws.Lengths.{FewPairs, macroblock-short}
use Rattle.theorems_records.specs.FieldFit.{CodedBy, none, more, Matching, CodesFitFields, SymbolsFitFields, BlocksFitFields}
use Rattle.theorems_records.specs.Legal.{LegalCode, LegalCodes, LegalSymbols, LegalBlocks}
use Rattle.theorems_records.specs.ReadBack.{ReadBack, back, MacroblockReadBack}
use Rattle.theorems_records.proofs.Legal.{code_fits, symbols-fit}
use Rattle.theorems_records.proofs.ReadBack.{back-then, back-need, back-given, back_more, word_back, signed-byte-back}
use Rattle.theorems_records.proofs.Slice.{scale_back}
use Rattle.theorems_records.proofs.Blocks.{blocks-back}

-- ---- the head
record HeadBack (m : MacroblockSymbols) (head : MacroblockHead) : Type 0 where
  same-type : head.macroblock_type ≡ m.macroblock_type
  same-increment : SymbolsFitFields m → head.increment ≡ m.increment
  same_scale : SymbolsFitFields m → head.scale ≡ m.scale

head-back : (c : MacroblockContext) (m : MacroblockSymbols) (behind : List ℕ) → ReadBack (HeadBack m) (LegalSymbols c m) behind (head_of c.head (head_bytes m.macroblock_type m.increment m.scale ++ behind))
unfolding head_of head_bytes big_endian_bytes byte
head-back c m behind =
    back-need (legal_type c.head.coding_type m.macroblock_type) Refusal.MacroblockType _ _ refl (λ legal. legal.type) λ known.
    back-then _ (word_back m.increment _) (λ legal. tt) λ increment found.
    back-need (legal_increment c.head increment) Refusal.AddressIncrement _ _ refl (λ legal. rw (found legal.two_bytes) legal.increment) λ near.
    back-then _ (back-given (has_scale m.macroblock_type) 0 m.scale scale_of (m.scale ∷ []) behind (back_more (scale_back m.scale behind) λ n same fits. same)) (λ legal. legal.scale) λ scale given.
    back (record { same-type = refl; same-increment = λ fits. found fits.increment; same_scale = λ fits. given fits.scale })

-- ---- the vectors' codes
code-back : (f : ℕ) (code : VectorCode) (behind : List ℕ) → ReadBack (λ c. SFits w8 code.code → c ≡ code) (LegalCode f code) behind (vector_code_of f (vector_code_bytes code.code code.residual ++ behind))
unfolding vector_code_of vector_code_bytes byte
code-back f code behind =
    back-then _ (signed-byte-back code.code _) (λ legal. tt) λ z found.
    back-need (code_in_range z) Refusal.VectorCode _ _ refl (λ legal. rw (found (code_fits _ legal.code)) legal.code) λ small.
    back-need (residual_in_range f z code.residual) Refusal.VectorCode _ _ refl (λ legal. rw (found (code_fits _ legal.code)) legal.residual) λ below.
    back (λ fits. ap (λ (y : ℤ). record { code = y; residual = code.residual }) (found fits))

codes-back : (f : ℕ) (codes : VectorCodes) (behind : List ℕ) → ReadBack (λ c. CodesFitFields codes → c ≡ codes) (LegalCodes f codes) behind (vector_codes_of f (vector_codes_bytes codes ++ behind))
unfolding vector_codes_of vector_codes_bytes
codes-back f codes behind =
    rw append_assoc
    (back-then _ (code-back f codes.horizontal _) (λ legal. legal.horizontal) λ horizontal across.
    back-then _ (code-back f codes.vertical behind) (λ legal. legal.vertical) λ vertical down.
    back {a = record { horizontal = horizontal; vertical = vertical }} (λ fits. rw (across fits.across, down fits.down)))

record VectorsBack (m : MacroblockSymbols) (vectors : Vectors) : Type 0 where
  same-forward : SymbolsFitFields m → vectors.forward ≡ m.forward
  same-backward : SymbolsFitFields m → vectors.backward ≡ m.backward

vectors-back : (c : MacroblockContext) (m : MacroblockSymbols) (behind : List ℕ)
    → ReadBack (VectorsBack m) (LegalSymbols c m) behind (vectors_of m.macroblock_type c.forward_f c.backward_f (vectors_bytes m.macroblock_type m.forward m.backward ++ behind))
unfolding vectors_of
vectors-back c m behind =
    rw append_assoc
    (back-then _ (back-given (has_forward m.macroblock_type) no_codes m.forward (vector_codes_of c.forward_f) (vector_codes_bytes m.forward) _ (codes-back c.forward_f m.forward _)) (λ legal. legal.forward) λ forward first.
    back-then _ (back-given (has_backward m.macroblock_type) no_codes m.backward (vector_codes_of c.backward_f) (vector_codes_bytes m.backward) behind (codes-back c.backward_f m.backward behind)) (λ legal. legal.backward) λ backward second.
    back (record { same-forward = λ fits. first fits.forward; same-backward = λ fits. second fits.backward }))

-- ---- the pattern
abbrev LegalPattern : ℕ → ℕ → Type 0
LegalPattern type pattern = coded_pattern type (λ known. eqb pattern known) (legal_pattern pattern) ≡ true

pattern-back : (type pattern : ℕ) (behind : List ℕ) → pattern ≡ coded_pattern type (λ known. known) pattern
    → ReadBack (λ p. p ≡ pattern) (LegalPattern type pattern) behind (coded_pattern_of type (pattern_bytes type pattern ++ behind))
unfolding pattern_bytes pattern_of byte
pattern-back type pattern behind = go (is_intra type) (has_pattern type)
  where
    go : (intra given : Bool) → pattern ≡ cond intra 63 (cond given pattern 0)
        → ReadBack (λ p. p ≡ pattern) (cond intra (eqb pattern 63) (cond given (legal_pattern pattern) (eqb pattern 0)) ≡ true) behind
        (cond {A = Parser ℕ} intra (give 63) (cond {A = Parser ℕ} given pattern_of (give 0)) (cond {A = List ℕ} intra [] (cond {A = List ℕ} given (pattern ∷ []) []) ++ behind))
    go true given e = back (sym e)
    go false true e = back-need (legal_pattern pattern) Refusal.Pattern _ behind refl (λ legal. legal) λ known. back refl
    go false false e = back (sym e)

-- ---- the symbols before the blocks
record SymbolsBack (m read : MacroblockSymbols) : Type 0 where
  same-type : read.macroblock_type ≡ m.macroblock_type
  same-pattern : read.pattern ≡ m.pattern
  whole : SymbolsFitFields m → read ≡ m

symbols-back : (c : MacroblockContext) (m : MacroblockSymbols) (behind : List ℕ) → m.pattern ≡ coded_pattern m.macroblock_type (λ known. known) m.pattern
    → ReadBack (SymbolsBack m) (LegalSymbols c m) behind (macroblock_symbols_of c (head_bytes m.macroblock_type m.increment m.scale ++ (vectors_bytes m.macroblock_type m.forward m.backward ++ (pattern_bytes m.macroblock_type m.pattern ++ behind))))
unfolding macroblock_symbols_of
symbols-back c m behind known =
    back-then _ (head-back c m _) (λ legal. legal) λ head h.
    rw h.same-type
    (back-then _ (vectors-back c m _) (λ legal. legal) λ vectors v.
    back-then _ (pattern-back m.macroblock_type m.pattern behind known) (λ legal. legal.pattern) λ pattern same.
    back (record {
      same-type = refl;
      same-pattern = same;
      whole = λ fits. rw (h.same-increment fits, h.same_scale fits, v.same-forward fits, v.same-backward fits, same);
    }))

-- ---- the whole
whole_back : (read : MacroblockSymbols) (m : Macroblock) (pasts : DcPasts) → SymbolsBack m.symbols read → CodedBy m.symbols.pattern 6 0 m.blocks
    → ReadBack (λ l. BlocksFitFields (is_intra m.symbols.macroblock_type) m.blocks → l ≡ m.blocks) (LegalBlocks (is_intra m.symbols.macroblock_type) pasts 0 m.blocks) [] (blocks_to_end_of read pasts (blocks_bytes (is_intra m.symbols.macroblock_type) m.blocks))
unfolding blocks_to_end_of
whole_back read m pasts s coded =
    rw (s.same-type, s.same-pattern, ← append-nil (blocks_bytes (is_intra m.symbols.macroblock_type) m.blocks))
    (back-then _ (blocks-back (is_intra m.symbols.macroblock_type) m.symbols.pattern coded pasts []) (λ legal. legal) λ l found. back found)

pub macroblock-back : (c : MacroblockContext) (m : Macroblock) → MacroblockReadBack c m
unfolding macroblock_of macroblock_body
macroblock-back c m matching =
    back-then _ (symbols-back c m.symbols _ matching.pattern) (λ legal. legal.symbols) λ read s.
    back-then _ (whole_back read m _ s matching.blocks) (λ legal. rw (s.whole (symbols-fit legal.symbols)) legal.blocks) λ l found.
    back {a = record { symbols = read; blocks = l }} (λ fits. rw (s.whole fits.symbols, found fits.blocks))

-- ---- two bytes hold the length of its record, where each block has at most 64 pairs
coded-count : {pattern n block : ℕ} {blocks : List Block} → CodedBy pattern n block blocks → length blocks ≡ n
coded-count none = refl
coded-count (more e others) = ap suc (coded-count others)

pub matching-short : (m : Macroblock) → Matching m → FewPairs m.blocks → length (macroblock_body m) ≤ 65534
matching-short m matching few = omega (arith, macroblock-short m (omega (arith, coded-count matching.blocks)) few)
