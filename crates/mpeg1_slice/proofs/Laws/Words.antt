-- Bounds on the code of a block's DC size, and on the start code. Assumes nothing.
use mathlib.Core.List.{List}
use mathlib.Core.Path.{◌≡◌, refl}
use Rattle.std.specs.Prelude.{Result, Ok, Err}
use Prim.Native.Nat.{ℕ, ◌≤◌}
use native.Mathlib.Omega.{arith}
use lib.Dec.{T, ltb, leb, leb→le}
use lib.ListN.{drop, length-drop}
use borrow.Author.Tests.{ltb-false}
use Rattle.mpeg1_bits.proofs.Number.{Binary, binary-drop}
use Rattle.mpeg1_tables.specs.declared.code.Code.{Code}
use Rattle.mpeg1_tables.specs.declared.code.CodeError.{CodeError}
use Rattle.mpeg1_tables.specs.Code.{word, found, digits_of, code_of, field_of}
use Rattle.mpeg1_tables.specs.AnnexB.{types_of}
use Rattle.mpeg1_tables.specs.WordList.{words_in}
use Rattle.mpeg1_tables.specs.declared.word_list.WordList.{WordList}
use Rattle.mpeg1_tables.specs.declared.word_list.WordList.TheVariants.{Increments, IncrementsAfterEscape, IntraTypes, PredictedTypes, BidirectionalTypes, Patterns, MotionCodes, LuminanceSizes, ChrominanceSizes}
use Rattle.mpeg1_tables.proofs.Laws.Prefix.{case, found-same, every_word, no_longer, code_inside, code-tested}
use Rattle.mpeg1_vlc.specs.SliceStart.{start_prefix, slice_start_of}
use Rattle.mpeg1_vlc.proofs.Laws.Range.{Read, field-read, increment-read, increment-after-escape-read, type-read, pattern-read, motion-code-read, luminance-size-read, chrominance-size-read}
use Rattle.mpeg1_slice.specs.Blocks.{size_words}

wider : {low high long : ℕ} {b : List ℕ} {v n : ℕ} → Read low high long b v n → high ≤ 63 → long ≤ 11 → Read 0 63 11 b v n
wider k h l = record { least = omega arith; most = omega (arith, k.most); some = k.some; few = omega (arith, k.few); inside = k.inside }

-- any list's code
pub list-read : (list : WordList) (b : List ℕ) (v n : ℕ) → code_of (words_in list) b ≡ found v n → Read 0 63 11 b v n
unfolding types_of
list-read Increments b v n e = wider (increment-read b v n e) (omega arith) (omega arith)
list-read IncrementsAfterEscape b v n e = wider (increment-after-escape-read b v n e) (omega arith) (omega arith)
list-read IntraTypes b v n e = wider (type-read 1 b v n e) (omega arith) (omega arith)
list-read PredictedTypes b v n e = wider (type-read 2 b v n e) (omega arith) (omega arith)
list-read BidirectionalTypes b v n e = wider (type-read 3 b v n e) (omega arith) (omega arith)
list-read Patterns b v n e = wider (pattern-read b v n e) (omega arith) (omega arith)
list-read MotionCodes b v n e = wider (motion-code-read b v n e) (omega arith) (omega arith)
list-read LuminanceSizes b v n e = wider (luminance-size-read b v n e) (omega arith) (omega arith)
list-read ChrominanceSizes b v n e = wider (chrominance-size-read b v n e) (omega arith) (omega arith)

pub size-read : (block : ℕ) (b : List ℕ) (v n : ℕ) → code_of (size_words block) b ≡ found v n → Read 0 8 8 b v n
unfolding size_words
size-read block b v n e =
    case (ltb block 4)
    (λ t. let k = luminance-size-read b v n (rw t at e) in record { least = k.least; most = k.most; some = k.some; few = omega (arith, k.few); inside = k.inside })
    (λ t. chrominance-size-read b v n (rw t at e))

prefix-short : T (no_longer 24 start_prefix)
unfolding every_word start_prefix word digits_of
prefix-short = tt

no_value : {A : Type 0} {v n : ℕ} {error : CodeError} → Err error ≡ found v n → A
no_value e = let z : ◌≡◌ {A = ℕ} 0 1 = cc in absurd (omega arith)

pub start-read : (height : ℕ) {b : List ℕ} → Binary b → (v n : ℕ) → slice_start_of height b ≡ found v n → Read 1 height 32 b v n
unfolding slice_start_of
start-read height {b} binary v n e = first (code_of start_prefix b) refl
  where
    second : (w m : ℕ) → code_of start_prefix b ≡ found w m → (d : Result Code CodeError) → field_of 8 (drop m b) ≡ d → Read 1 height 32 b v n
    second w m f (Ok field) g =
        case (ltb field.value 1)
        (λ t. no_value (rw (f, g, t) at e))
        (λ t. case (ltb height field.value)
        (λ u. no_value (rw (f, g, t, u) at e))
        (λ u.
        let same = found-same (rw (f, g, t, u) at e) in
        let known = field-read 8 field.value field.length (binary-drop m binary) g in
        let front = code_inside start_prefix b w m f in
        let few = leb→le m 24 (code-tested (λ v n. leb n 24) start_prefix b w m prefix-short f) in
        record {
          least = omega (arith, same.0, ltb-false field.value 1 t);
          most = omega (arith, same.0, ltb-false height field.value u);
          some = omega (arith, same.1, known.long);
          few = omega (arith, same.1, known.long, few);
          inside = omega (arith, same.1, known.long, known.inside, front, length-drop m b);
        }))
    second w m f (Err error) g = no_value (rw (f, g) at e)

    first : (c : Result Code CodeError) → code_of start_prefix b ≡ c → Read 1 height 32 b v n
    first (Ok code) f = second code.value code.length f (field_of 8 (drop code.length b)) refl
    first (Err error) f = no_value (rw f at e)
