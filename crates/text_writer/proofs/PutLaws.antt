-- Text written into a buffer part by part is the whole text written at once. Assumes nothing.
use mathlib.Core.List.{List, ◌++◌}
use mathlib.Core.Path.{◌≡◌, refl, sym, ap, ◌∙◌}
use Prim.Native.Nat.{ℕ, ◌+◌, ◌≤◌, ◌<◌}
use native.Mathlib.Omega.{arith}
use lib.ListN.{length, drop, length-append}
use lib.Seq.{length-take-le}
use Rattle.io.specs.Counts.{IsPrefixLen}
use Rattle.format3_writer.specs.Written.{written}
use Rattle.format3_writer.proofs.Laws.Written.{written-length, written-append, written-whole}
use Rattle.math.proofs.Joined.{blocks, blocks_more, blocks_end}

-- a text written at an offset: where it ends, and the buffer afterwards
pub record Put (at : ℕ) (text before : List ℕ) (end : ℕ) (after : List ℕ) : Type 0 where
  pub ends : end ≡ at + length text
  pub lies : after ≡ written at text before

pub put : {at end : ℕ} {text before after : List ℕ} → end ≡ at + length text → after ≡ written at text before → Put at text before end after
put e l = record { ends = e; lies = l }

pub put_then : {at middle end : ℕ} {one two before between after : List ℕ} → Put at one before middle between → Put middle two between end after → Put at (one ++ two) before end after
put_then {at} {middle} {end} {one} {two} {before} {between} {after} p q = record {
  ends = simp length-append (omega (arith, p.ends, q.ends));
  lies = q.lies ∙ rw (p.ends, p.lies) (sym (written-append at one two before));
}

-- the rest of a text, once its first part is written
pub put_rest : {at middle end : ℕ} {one two before between after : List ℕ} → Put at (one ++ two) before end after → Put at one before middle between → Put middle two between end after
put_rest {at} {middle} {end} {one} {two} {before} {between} {after} p q = record {
  ends = let whole = simp length-append at p.ends in omega (arith, q.ends);
  lies = p.lies ∙ written-append at one two before ∙ rw (q.ends, q.lies) refl;
}

-- a text that fits, written at the buffer's start: what a caller that takes `&text[..end]` must know
pub put_whole : {text before : List ℕ} {end : ℕ} {after : List ℕ} → length text ≤ length before → Put 0 text before end after
    → IsPrefixLen end after × ((end ≡ length text) × (after ≡ text ++ drop (length text) before))
put_whole {text} {before} {end} {after} fits p =
    let ends : end ≡ length text = omega (arith, p.ends) in
    let inside : end ≤ length after = omega (arith, ap length p.lies, written-length 0 text before) in
    ((inside, sym (length-take-le end after inside)), (ends, p.lies ∙ written-whole text before fits))

-- ---- a loop that writes a text of n blocks, one after the other, and has written the first k
pub record PutBlocks (block : ℕ → List ℕ) (n at : ℕ) (before : List ℕ) (k end : ℕ) (after : List ℕ) : Type 0 where
  pub most : k ≤ n
  pub so_far : Put at (blocks block k) before end after

pub put-none : {block : ℕ → List ℕ} {n at : ℕ} {before : List ℕ} → PutBlocks block n at before 0 at before
unfolding blocks written
put-none = record { most = omega arith; so_far = record { ends = omega arith; lies = refl } }

module _ {block : ℕ → List ℕ} {n at : ℕ} {before : List ℕ} {k end : ℕ} {between : List ℕ} (p : PutBlocks block n at before k end between) where
  -- the next block fits if all of them do
  pub block-fits : k < n → at + length (blocks block n) ≤ length before → end + length (block k) ≤ length between
  block-fits h fits = omega (arith, p.so_far.ends, ap length p.so_far.lies, written-length at (blocks block k) before, blocks_end block k n h)

  pub put-block : {end' : ℕ} {after : List ℕ} → k < n → Put end (block k) between end' after → PutBlocks block n at before (k + 1) end' after
  put-block h q = record { most = omega arith; so_far = rw (blocks_more block k) (put_then p.so_far q) }

  pub put_all : n ≤ k → Put at (blocks block n) before end between
  put_all h = let all : k ≡ n = omega (arith, p.most) in rw all at p.so_far
