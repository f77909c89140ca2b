-- Laws of a block of 64 that is filled column by column. Assumes nothing.
use Prim.Native.Nat.{ℕ, ◌+◌, ◌*◌, ◌/◌, ◌%◌, ◌≤◌, ◌<◌}
use mathlib.Core.List.{List}
use mathlib.Core.Path.{◌≡◌, refl, sym, ◌∙◌, subst}
use native.Mathlib.Decide.{ℕ_discrete}
use native.Mathlib.Omega.{arith}
use lib.ListN.{length, get_or, replicate, get_or-replicate}
use lib.Seq.{ext_get_or}
use Rattle.math.proofs.Scatter.{scatter-length, scatter-other, scatter-at}
use Rattle.math.proofs.Tab.{tab-length, tab-at}
use Rattle.math.specs.Scatter.{scatter}
use Rattle.math.specs.Tab.{tab}
use Rattle.decode_idct.specs.Line.{column_index}

module _ {A : Type 0} where
  -- the first v columns of a block hold f's values, the others still their initial value
  pub record Columns (f : ℕ → A) (d : A) (v : ℕ) (l : List A) : Type 0 where
    pub long : length l ≡ 64
    pub made : (k : ℕ) → k < 64 → k % 8 < v → get_or l k d ≡ f k
    pub left : (k : ℕ) → k < 64 → v ≤ k % 8 → get_or l k d ≡ d

  pub columns-none : {f : ℕ → A} {d : A} → Columns f d 0 (replicate 64 d)
  columns-none {f} {d} = record { long = refl; made = λ k h b. absurd (omega arith); left = λ k h b. get_or-replicate 64 k d d h }

  pub columns-more : {f y : ℕ → A} {d : A} {v : ℕ} {l : List A} → Columns f d v l → v < 8 → ((u : ℕ) → u < 8 → y u ≡ f (8 * u + v)) → Columns f d (v + 1) (scatter (column_index v) y 8 l)
  columns-more {f} {y} {d} {v} {l} p h e = record {
    long = scatter-length (column_index v) y 8 l ∙ p.long;
    made = λ k b t. go k b t (ℕ_discrete (k % 8) v);
    left = λ k b t. other k (λ s. omega arith) ∙ p.left k b (omega arith);
  }
    where
      next : List A
      next = scatter (column_index v) y 8 l

      other : (k : ℕ) → (k % 8 ≡ v → ⊥) → get_or next k d ≡ get_or l k d
      other k s = scatter-other (column_index v) y 8 l k d (λ u q r. s (omega arith))

      here : (u : ℕ) → u < 8 → get_or next (8 * u + v) d ≡ f (8 * u + v)
      here u b = scatter-at (column_index v) y 8 l u d b (omega (arith, p.long)) (λ j q r s. omega arith) ∙ e u b

      go : (k : ℕ) → k < 64 → k % 8 < v + 1 → Dec (k % 8 ≡ v) → get_or next k d ≡ f k
      go k b t (yes s) =
          let q : 8 * (k / 8) + v ≡ k = omega arith in
          subst (λ (j : ℕ). get_or next j d ≡ f j) q (here (k / 8) (omega arith))
      go k b t (no s) = other k s ∙ p.made k b (omega arith)

  -- a column that f leaves at the initial value is skipped
  pub columns-skip : {f : ℕ → A} {d : A} {v : ℕ} {l : List A} → Columns f d v l → ((u : ℕ) → u < 8 → f (8 * u + v) ≡ d) → Columns f d (v + 1) l
  columns-skip {f} {d} {v} {l} p e = record {
    long = p.long;
    made = λ k b t. go k b t (ℕ_discrete (k % 8) v);
    left = λ k b t. p.left k b (omega arith);
  }
    where
      go : (k : ℕ) → k < 64 → k % 8 < v + 1 → Dec (k % 8 ≡ v) → get_or l k d ≡ f k
      go k b t (yes s) =
          let q : 8 * (k / 8) + v ≡ k = omega arith in
          p.left k b (omega arith) ∙ sym (subst (λ (j : ℕ). f j ≡ d) q (e (k / 8) (omega arith)))
      go k b t (no s) = p.made k b (omega arith)

  pub columns-all : {f : ℕ → A} {d : A} {v : ℕ} {l : List A} → Columns f d v l → 8 ≤ v → l ≡ tab 64 f
  columns-all {f} {d} {v} {l} p all = ext_get_or d l (tab 64 f) (p.long ∙ sym (tab-length 64 f)) (λ k q. p.made k (omega (arith, p.long)) (omega arith) ∙ sym (tab-at 64 f k d (omega (arith, p.long))))
