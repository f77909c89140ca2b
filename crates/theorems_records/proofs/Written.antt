-- What is read from bytes is within its ranges, and the bytes are those that the writer makes of it: a law for each field and each part.
-- Assumes nothing.
use mathlib.Core.Bool.{Bool, true, false, cond}
use mathlib.Core.List.{List, [], ◌∷◌, ◌++◌, append_assoc}
use mathlib.Core.Path.{◌≡◌, refl, sym, ap, ◌∙◌}
use Prim.Native.Nat.{ℕ, zero, suc, ◌+◌, ◌-◌, ◌*◌, ◌/◌, ◌%◌, ◌<◌}
use native.Mathlib.Omega.{arith}
use borrow.Author.Tests.{ltb-false}
use lib.Dec.{leb, ltb}
use lib.IntN.{ℤ, pos, negsuc, neg_ℤ, ◌-ℤ◌}
use lib.ListN.{length}
use mir.Syntax.{w8, w16}
use mir.Val.{Fits}
use prog.Model.{AllFit}
use Rattle.math.specs.Joined.{joined}
use Rattle.math.proofs.Difference.{parts_add, parts-neg, same_of}
use Rattle.refusals.specs.declared.Refusal.TheVariants.{Coefficient, DcCoefficient, QuantizerScale}
use Rattle.symbols.specs.Parsed.{Parser, optional◌default◌read◌}
use Rattle.symbols.specs.Pair.{first_position, after_pair}
use Rattle.symbols.specs.Block.{uncoded}
use Rattle.symbols.specs.Pattern.{is_coded}
use Rattle.symbols.proofs.Parsed.{All, here, none, all_then, all-require, all_more}
use Rattle.decode_coefficients.specs.Scaling.{intra_dc}
use Rattle.decode_coefficients.specs.declared.dc.DcPasts.{DcPasts}
use Rattle.decode_coefficients.specs.Dc.{dc_past_of, dc_pasts_after}
use Rattle.format3_records.specs.Field.{big_endian, twos_complement, byte, two_bytes, signed_byte, signed_two_bytes}
use Rattle.format3_macroblock.specs.Pairs.{legal_level, pair_of, pairs_of}
use Rattle.format3_macroblock.specs.Blocks.{legal_difference, legal_dc, difference_of, legal_count, count_of, levels_of, block_of, given_block_of, blocks_of}
use Rattle.format3_macroblock.specs.Slice.{legal_scale, scale_of}
use Rattle.format3_writer.specs.Bytes.{complement, big_endian_bytes, signed_big_endian_bytes}
use Rattle.format3_writer.specs.Bytes as Bytes
use Rattle.format3_writer.specs.Records.{pair_bytes, pairs_bytes, levels_bytes, block_bytes, blocks_bytes}
use Rattle.theorems_records.specs.FieldFit.{was_coded, CodedBy, WhereGiven}
use Rattle.theorems_records.specs.FieldFit as Fitting
use Rattle.theorems_records.specs.Legal.{LegalPair, LegalPairs, LegalDifference, LegalBlock, LegalBlocks}

-- what was read is legal; the bytes are those that the writer makes of it, then those that are left; and what is left fits bytes too
pub record Written (Legal : Type 0) (bytes-of bytes rest : List ℕ) : Type 0 where
  pub legal : Legal
  pub written : bytes ≡ bytes-of ++ rest
  pub left : AllFit w8 rest

-- the same with what else is known of it, and for two parts, one after the other
pub as_written : {Before Legal : Type 0} {bytes-of bytes rest : List ℕ} → Written Before bytes-of bytes rest → Legal → Written Legal bytes-of bytes rest
as_written w legal = record { legal = legal; written = w.written; left = w.left }

pub both-written : {First Second Legal : Type 0} {first second bytes rest end : List ℕ} → Written First first bytes rest → Written Second second rest end → Legal → Written Legal (first ++ second) bytes end
both-written {first = first} {second} {end = end} w v legal =
    record { legal = legal; written = w.written ∙ ap (λ (l : List ℕ). first ++ l) v.written ∙ sym (append_assoc first second end); left = v.left }

pub given-written : {A : Type 0} {Legal : A → Type 0} {bytes_of : A → List ℕ} (present : Bool) (absent : A) (p : Parser A) (bytes : List ℕ) → AllFit w8 bytes
    → All (λ a rest. Written (Legal a) (bytes_of a) bytes rest) (p bytes)
    → All (λ a rest. Written (WhereGiven present (Legal a) absent a) (cond present (bytes_of a) []) bytes rest) ((optional present default absent read p) bytes)
given-written true absent p bytes fit r = r
given-written false absent p bytes fit r = here (record { legal = refl; written = refl; left = fit })

-- ---- fields
pub byte-written : (bytes : List ℕ) → AllFit w8 bytes → All (λ n rest. Written (Unit {0}) (n ∷ []) bytes rest) (byte bytes)
unfolding byte
byte-written [] fit = none
byte-written (b ∷ rest) fit = here (record { legal = tt; written = refl; left = fit.1 })

word_split : (high low : ℕ) → high < 256 → low < 256 → big_endian_bytes (big_endian high low) ≡ high ∷ low ∷ []
unfolding big_endian_bytes
word_split high low h l =
    let first : big_endian high low / 256 % 256 ≡ high = omega arith in
    let second : big_endian high low % 256 ≡ low = omega arith in
    cc (first, second)

pub word-written : (bytes : List ℕ) → AllFit w8 bytes → All (λ n rest. Written (Fits w16 n) (big_endian_bytes n) bytes rest) (two_bytes bytes)
unfolding two_bytes
word-written [] fit = none
word-written (a ∷ []) fit = none
word-written (a ∷ b ∷ rest) fit =
    let small : big_endian a b < 65536 = omega (arith, fit.0.fits, fit.1.0.fits) in
    here (record { legal = record { fits = small }; written = ap (λ (l : List ℕ). l ++ rest) (sym (word_split a b fit.0.fits fit.1.0.fits)); left = fit.1.1 })

-- two's complement, read and written back
complement-back : (half n : ℕ) → n < 2 * half → complement half (twos_complement half n) ≡ n
unfolding twos_complement complement
complement-back half n h = go (ltb n half) refl
  where
    less : half < n + 1 → pos n -ℤ pos (2 * half) ≡ negsuc (2 * half - n - 1)
    less k =
        let sum = parts_add (pos n) (neg_ℤ (pos (2 * half))) in
        let neg = parts-neg (pos (2 * half)) in
        same_of _ _ (omega (arith, sum, neg))

    go : (t : Bool) → ltb n half ≡ t → complement half (cond t (pos n) (pos n -ℤ pos (2 * half))) ≡ n
    go true e = refl
    go false e = rw (less (omega (arith, ltb-false n half e))) (omega (arith, ltb-false n half e))

pub signed-byte-written : (bytes : List ℕ) → AllFit w8 bytes → All (λ z rest. Written (Unit {0}) (Bytes.complement_byte z ∷ []) bytes rest) (signed_byte bytes)
unfolding signed_byte byte
signed-byte-written [] fit = none
signed-byte-written (b ∷ rest) fit = here (record { legal = tt; written = ap (λ (n : ℕ). n ∷ rest) (sym (complement-back 128 b fit.0.fits)); left = fit.1 })

pub signed-word-written : (bytes : List ℕ) → AllFit w8 bytes → All (λ z rest. Written (Unit {0}) (signed_big_endian_bytes z) bytes rest) (signed_two_bytes bytes)
unfolding signed_two_bytes
signed-word-written bytes fit =
    all_then (word-written bytes fit) λ n rest w.
    here (record { legal = tt; written = rw (complement-back 32768 n w.legal.fits) w.written; left = w.left })

pub scale-written : (bytes : List ℕ) → AllFit w8 bytes → All (λ scale rest. Written (legal_scale scale ≡ true) (scale ∷ []) bytes rest) (scale_of bytes)
unfolding scale_of
scale-written bytes fit =
    all_then (byte-written bytes fit) λ scale rest w.
    all-require (legal_scale scale) QuantizerScale _ rest λ legal.
    here (as_written w legal)

-- ---- blocks
pair-written : (next : ℕ) (bytes : List ℕ) → AllFit w8 bytes → All (λ pair rest. Written (LegalPair next pair) (pair_bytes pair.run pair.level) bytes rest) (pair_of next bytes)
unfolding pair_of pair_bytes
pair-written next bytes fit =
    all_then (byte-written bytes fit) λ run rest w.
    all-require (leb (next + run) 63) Coefficient _ rest λ low.
    all_then (signed-word-written rest w.left) λ level end v.
    all-require (legal_level level) Coefficient _ end λ small.
    here (both-written w v (record { position = low; level = small }))

pairs-written : (n next : ℕ) (bytes : List ℕ) → AllFit w8 bytes → All (λ pairs rest. Written ((length pairs ≡ n) × LegalPairs next pairs) (pairs_bytes pairs) bytes rest) (pairs_of n next bytes)
unfolding pairs_of joined
pairs-written zero next bytes fit = here (record { legal = (refl, tt); written = refl; left = fit })
pairs-written (suc n) next bytes fit =
    all_then (pair-written next bytes fit) λ pair rest w.
    all_then (pairs-written n (after_pair next pair) rest w.left) λ pairs end v.
    here (both-written w v (ap suc v.legal.0, (w.legal, v.legal.1)))

count-written : (intra : Bool) (bytes : List ℕ) → AllFit w8 bytes → All (λ n rest. Written (legal_count intra n ≡ true) (n ∷ []) bytes rest) (count_of intra bytes)
unfolding count_of
count-written intra bytes fit =
    all_then (byte-written bytes fit) λ n rest w.
    all-require (legal_count intra n) Coefficient _ rest λ legal.
    here (as_written w legal)

levels-written : (intra : Bool) (bytes : List ℕ) → AllFit w8 bytes
    → All (λ pairs rest. Written ((legal_count intra (length pairs) ≡ true) × LegalPairs (first_position intra) pairs) (levels_bytes pairs) bytes rest) (levels_of intra bytes)
unfolding levels_of levels_bytes
levels-written intra bytes fit =
    all_then (count-written intra bytes fit) λ n rest w.
    all_more (pairs-written n (first_position intra) rest w.left) λ pairs end v.
    rw v.legal.0 (both-written w v (w.legal, v.legal.1))

difference-written : (past : ℤ) (bytes : List ℕ) → AllFit w8 bytes → All (λ z rest. Written (LegalDifference past z) (signed_big_endian_bytes z) bytes rest) (difference_of past bytes)
unfolding difference_of
difference-written past bytes fit =
    all_then (signed-word-written bytes fit) λ z rest w.
    all-require (legal_difference z) DcCoefficient _ rest λ small.
    all-require (legal_dc (intra_dc past z)) DcCoefficient _ rest λ dc.
    here (as_written w (record { small = small; dc = dc }))

block_written : (intra : Bool) (past : ℤ) (bytes : List ℕ) → AllFit w8 bytes
    → All (λ b rest. Written ((was_coded b ≡ true) × LegalBlock intra past b) (block_bytes intra b) bytes rest) (block_of intra past bytes)
unfolding block_of block_bytes
block_written intra past bytes fit =
    all_then (given-written intra (pos 0) (difference_of past) bytes fit (difference-written past bytes fit)) λ z rest w.
    all_then (levels-written intra rest w.left) λ pairs end v.
    here (both-written w v (refl, record { difference = w.legal; count = v.legal.0; pairs = v.legal.1 }))

one_written : (intra : Bool) (pattern : ℕ) (pasts : DcPasts) (block : ℕ) (bytes : List ℕ) → AllFit w8 bytes
    → All (λ b rest. Written ((was_coded b ≡ is_coded pattern block) × LegalBlock intra (dc_past_of pasts block) b) (block_bytes intra b) bytes rest) (given_block_of intra pattern pasts block bytes)
unfolding block_bytes
one_written intra pattern pasts block bytes fit = go (is_coded pattern block)
  where
    go : (present : Bool) → All (λ b rest. Written ((was_coded b ≡ present) × LegalBlock intra (dc_past_of pasts block) b) (block_bytes intra b) bytes rest)
        ((optional present default uncoded read block_of intra (dc_past_of pasts block)) bytes)
    go true = block_written intra (dc_past_of pasts block) bytes fit
    go false = here (record { legal = (refl, tt); written = refl; left = fit })

pub blocks-written : (intra : Bool) (pattern n : ℕ) (pasts : DcPasts) (block : ℕ) (bytes : List ℕ) → AllFit w8 bytes
    → All (λ blocks rest. Written (CodedBy pattern n block blocks × LegalBlocks intra pasts block blocks) (blocks_bytes intra blocks) bytes rest) (blocks_of intra pattern n pasts block bytes)
unfolding blocks_of joined
blocks-written intra pattern zero pasts block bytes fit = here (record { legal = (Fitting.none, tt); written = refl; left = fit })
blocks-written intra pattern (suc n) pasts block bytes fit =
    all_then (one_written intra pattern pasts block bytes fit) λ b rest w.
    all_then (blocks-written intra pattern n (dc_pasts_after intra pasts block b) (block + 1) rest w.left) λ blocks end v.
    here (both-written w v (Fitting.more w.legal.0 v.legal.0, (w.legal.1, v.legal.1)))
