-- Laws of playing a reel: the code's buffers hold the references that the definition carries. Assumes nothing.
use mathlib.Core.Bool.{Bool, true, false}
use mathlib.Core.List.{List}
use mathlib.Core.Path.{◌≡◌, refl, sym, ap, ◌∙◌}
use Prim.Native.Nat.{ℕ, ◌≤◌}
use native.Mathlib.Omega.{arith}
use lib.Dec.{eqb, leb}
use lib.ListN.{length, take, replicate, length-replicate}
use lib.Seq.{length-take-le}
use borrow.Author.Tests.{eqb-true, leb-true, ne_eqb}
use Rattle.std.specs.Prelude.{Result, Ok, Err, is_err}
use Rattle.refusals.specs.declared.Refusal.{Refusal}
use Rattle.refusals.proofs.Laws.{never-accepted}
use Rattle.refusals.specs.Refusal.{accepted, number_in, number_of}
use Rattle.symbols.specs.Size.{max_macroblocks, macroblock_count}
use Rattle.decode_idct.specs.Transform.{inverse_transform}
use Rattle.format3_header.specs.FileStart.{first_header}
use Rattle.format3_header.specs.declared.file_start.FileStart.{FileStart}
use Rattle.format3_header.specs.declared.file_start.RefusedAt.{RefusedAt}
use Rattle.format3_header.proofs.Laws.FileStart.{begun}
use Rattle.format3_writer.specs.Written.{written}
use Rattle.format3_writer.proofs.Laws.Written.{written_same}
use Rattle.format3_header.specs.FileStart.{file_start_of}
use Rattle.format3_picture.specs.Picture.{Picture, picture_refusing}
use Rattle.format3_picture.specs.declared.reader.Answer.{Answer}
use Rattle.format3_picture.specs.Alone.{Alike}
use Rattle.format3_picture.proofs.Alone.{picture-alone}
use Rattle.reel_parts.specs.References.{forward_for, backward_for}
use Rattle.reel_parts.specs.declared.references.Kept.{Kept}
use Rattle.reel_player.specs.Items.{Carried, lent_bytes, picture_into, picture_from}
use Rattle.reel_player.specs.Requires.{StartWithin, KeptWithin}
use Rattle.reel_player.specs.Next.{held_in, kept_of, played_as, played_into, played_file}

-- ---- a file's header, and the output lent for it
pub start-within : (file : List ℕ) → StartWithin (first_header file)
start-within file = record { size = λ read e. (begun file e).header.size }

pub lent-within : (start : Result FileStart RefusedAt) → lent_bytes start ≤ 15360
lent-within (Err refused) = omega arith
lent-within (Ok read) = go (leb (macroblock_count read.header.size) 40) refl
  where
    go : (b : Bool) → leb (macroblock_count read.header.size) 40 ≡ b → lent_bytes (Ok read) ≤ 15360
    go true e = rw e (omega (arith, leb-true (macroblock_count read.header.size) 40 e))
    go false e = rw e (omega arith)

pub lent-part : (start : Result FileStart RefusedAt) (buffer : List ℕ) → 15360 ≤ length buffer → length (take (lent_bytes start) buffer) ≡ lent_bytes start
lent-part start buffer long = length-take-le (lent_bytes start) buffer (omega (arith, lent-within start))

-- ---- the kept references fit both buffers
module _ (kept : Kept) (older newer : List ℕ) (within : KeptWithin kept older newer) where
  pub newer-length : length (take kept.newer newer) ≡ kept.newer
  newer-length = length-take-le kept.newer newer within.newer-fits

  -- if no picture is kept, the references stay as they are
  pub nothing-kept : (kept ≡ kept_of (held_in kept older newer)) × ((older ≡ written 0 (held_in kept older newer).older older) × (newer ≡ written 0 (held_in kept older newer).newer newer))
  nothing-kept =
      let older-length = length-take-le kept.older older within.older-fits in
      (rw (older-length, newer-length), (sym (written_same kept.older older), sym (written_same kept.newer newer)))

-- ---- a picture written into a lent output is the one defined, whatever the output held
pub made_alike : (file : List ℕ) (carried : Carried) (output : List ℕ) → length output ≡ lent_bytes (first_header file)
    → Alike (lent_bytes (first_header file)) (picture_into (first_header file) file carried output) (picture_from file carried)
unfolding picture_into
made_alike file carried output lent =
    let start = first_header file in
    rw lent at (picture-alone max_macroblocks inverse_transform file (forward_for start carried.older carried.newer) (backward_for start carried.newer)
    output (replicate (lent_bytes start) 0) (lent ∙ sym (length-replicate (lent_bytes start) 0)))

-- its number is that of its verdict
pub numbered : (start : Result FileStart RefusedAt) (file : List ℕ) (carried : Carried) (output : List ℕ) → let p = picture_into start file carried output in p.number ≡ number_in p.verdict
unfolding picture_into picture_refusing
numbered start file carried output = go (file_start_of max_macroblocks file (length output) (length (forward_for start carried.older carried.newer)) (length (backward_for start carried.newer))) refl
  where
    go : (begun : Result FileStart RefusedAt) → file_start_of max_macroblocks file (length output) (length (forward_for start carried.older carried.newer)) (length (backward_for start carried.newer)) ≡ begun
        → let p = picture_into start file carried output in p.number ≡ number_in p.verdict
    go (Ok begun) e = rw e
    go (Err stop) e = rw e

-- so it is accepted exactly if its verdict is no refusal
module _ (p : Picture) (counted : p.number ≡ number_in p.verdict) where
  pub refused-number : is_err p.verdict ≡ true → eqb p.number accepted ≡ false
  refused-number = rw counted (go p.verdict)
    where
      go : (v : Result (Unit {0}) Refusal) → is_err v ≡ true → eqb (number_in v) accepted ≡ false
      go (Ok passed) e = absurd (let z : ◌≡◌ {A = Bool} true false = sym e in let w : ◌≡◌ {A = ℕ} 0 1 = cc in omega arith)
      go (Err refusal) e = ne_eqb (number_of refusal) accepted (never-accepted refusal)

  pub accepted-number : is_err p.verdict ≡ false → eqb p.number accepted ≡ true
  accepted-number = rw counted (go p.verdict)
    where
      go : (v : Result (Unit {0}) Refusal) → is_err v ≡ false → eqb (number_in v) accepted ≡ true
      go (Ok passed) e = refl
      go (Err refusal) e = absurd (let z : ◌≡◌ {A = Bool} true false = e in let w : ◌≡◌ {A = ℕ} 0 1 = cc in omega arith)

-- so playing either gives the same result
module _ (number : ℕ) (start : Result FileStart RefusedAt) (kept : Kept) (older newer : List ℕ) where
  alike-played : {n : ℕ} {p q : Picture} → Alike n p q → p.number ≡ number_in p.verdict → q.number ≡ number_in q.verdict → played_as number start p kept older newer ≡ played_as number start q kept older newer
  unfolding played_as
  alike-played {n} {p} {q} a first second = go (eqb p.number accepted) refl
    where
      same_number : p.number ≡ q.number
      same_number = first ∙ (ap (λ (x : Answer). number_in x.verdict) a.answer ∙ sym second)

      go : (b : Bool) → eqb p.number accepted ≡ b → played_as number start p kept older newer ≡ played_as number start q kept older newer
      go true e =
          let same : p ≡ q = λ i. record { verdict = (a.answer i).verdict; number = same_number i; place = (a.answer i).place; made = (a.answer i).made; rows = (a.answer i).rows; output = a.bytes (eqb-true p.number accepted e) i } in
          ap (λ (x : Picture). played_as number start x kept older newer) same
      go false e =
          let other : eqb q.number accepted ≡ false = ap (λ (m : ℕ). eqb m accepted) (sym same_number) ∙ e in
          rw (e, other, a.answer)

pub file-played : (number : ℕ) (file : List ℕ) (kept : Kept) (older newer output : List ℕ) → 15360 ≤ length output
    → let start = first_header file in played_into number start file kept older newer (take (lent_bytes start) output) ≡ played_file number file kept older newer
file-played number file kept older newer output long =
    let start = first_header file in
    alike-played number start kept older newer (made_alike file (held_in kept older newer) _ (lent-part start output long)) (numbered start file (held_in kept older newer) _) (numbered start file (held_in kept older newer) _)
