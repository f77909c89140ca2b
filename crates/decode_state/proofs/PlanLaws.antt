-- Laws of a macroblock's plan: vectors and pasts stay in range, and its directions suit the picture's type. Assumes nothing.
-- Also what skips, unused directions and the full-pel flag do to the pasts.
use Prim.Native.Nat.{ℕ, ◌≤◌, ◌<◌, zero-le}
use mathlib.Core.Bool.{Bool, true, false, cond, ◌&&◌}
use mathlib.Core.Path.{◌≡◌, refl, sym, ◌∙◌, subst}
use native.Mathlib.Omega.{arith}
use borrow.Author.Tests.{ltb-true, ltb-false, eqb-true, lt-ltb, le-leb}
use lib.Dec.{T, ltb, leb, eqb}
use lib.IntN.{ℤ}
use Rattle.std.specs.Prelude.{Some, None, IfSome, OnSome}
use Rattle.math.specs.Test.{all_below}
use Rattle.math.proofs.Test.{and_left, and_right, at-below₂}
use Rattle.math.specs.Bound.{Within}
use Rattle.symbols.specs.Header.{type_i, type_p, type_b, uses_forward, uses_backward}
use Rattle.symbols.specs.MacroblockType.{has_forward, has_backward, is_intra, legal_type}
use Rattle.symbols.specs.declared.header.Header.{Header}
use Rattle.symbols.specs.declared.header.VectorCoding.{VectorCoding}
use Rattle.symbols.specs.declared.vector_codes.VectorCode.{VectorCode}
use Rattle.symbols.specs.declared.vector_codes.VectorCodes.{VectorCodes}
use Rattle.symbols.specs.declared.macroblock.MacroblockSymbols.{MacroblockSymbols}
use Rattle.symbols.proofs.Laws.MacroblockType.{types-above}
use Rattle.decode_coefficients.specs.declared.macroblock.SymbolsWithDc.{SymbolsWithDc}
use Rattle.decode_vectors.specs.Vector.{f_of, vector_of}
use Rattle.decode_vectors.proofs.VectorLaws.{vector-within, used-within, factor-most}
use Rattle.decode_macroblock.specs.Requires.{VectorWithin, MotionWithin}
use Rattle.decode_macroblock.specs.declared.compensation.Motion.{Motion}
use Rattle.decode_macroblock.specs.declared.compensation.Vector.{Vector}
use Rattle.decode_state.specs.Vectors.{decoded_vector, vector_pasts_before, forward_after, backward_after, vector_pasts_after, vector_for_use, own_vector, predicts_forward, predicts_backward, own_motion, next_vector_pasts}
use Rattle.decode_state.specs.Requires.{CodeWithin, Decodable, VectorPastsWithin, SymbolsWithin, Updatable}
use Rattle.decode_state.specs.Plan.{skip_motion}
use Rattle.decode_state.specs.State.{zero_vector, zero_vector_pasts, no_motion, still_motion}
use Rattle.decode_state.specs.declared.state.VectorPasts.{VectorPasts}
use Rattle.decode_state.specs.declared.state.SliceState.{SliceState}

-- what holds for both values holds for the one that a test picks
either : {A : Type 0} (P : A → Type 0) (test : Bool) {x y : A} → P x → P y → P (cond test x y)
either P true p q = p
either P false p q = q

-- ---- the pasts stay in range
zero-within : (b : ℕ) → VectorWithin b zero_vector
zero-within b = record { across = record { within = zero-le }; below = record { within = zero-le } }

zero-pasts-within : VectorPastsWithin zero_vector_pasts
zero-pasts-within = record { forward = zero-within 1024; backward = zero-within 1024 }

pub before-within : (coding increment : ℕ) (pasts : VectorPasts) → VectorPastsWithin pasts → VectorPastsWithin (vector_pasts_before coding increment pasts)
unfolding vector_pasts_before
before-within coding increment pasts p = either VectorPastsWithin (eqb coding type_p && ltb 1 increment) zero-pasts-within p

decoded-within : (coding : VectorCoding) (past : Vector) (codes : VectorCodes) → Decodable coding past codes → VectorWithin 1024 (decoded_vector coding past codes)
decoded-within coding past codes d = record { across = part past.right codes.horizontal d.small.across d.legal.across; below = part past.down codes.vertical d.small.below d.legal.down }
  where
    part : (z : ℤ) (code : VectorCode) → Within 1024 z → CodeWithin (f_of coding.f_code) code → Within 1024 (vector_of (f_of coding.f_code) z code.code code.residual)
    part z code p q = vector-within (f_of coding.f_code) code.residual z code.code (factor-most coding.f_code d.few) p q.code q.residual

-- the codes of one direction can be decoded with its past
pub forward-decodable : (h : Header) (m : MacroblockSymbols) (past : Vector) → SymbolsWithin h m → VectorWithin 1024 past → Decodable h.forward past m.forward
forward-decodable h m past w p = record { few = w.forward-few; small = p; legal = w.forward }

pub backward-decodable : (h : Header) (m : MacroblockSymbols) (past : Vector) → SymbolsWithin h m → VectorWithin 1024 past → Decodable h.backward past m.backward
backward-decodable h m past w p = record { few = w.backward-few; small = p; legal = w.backward }

forward-within : (h : Header) (m : MacroblockSymbols) (past : Vector) → SymbolsWithin h m → VectorWithin 1024 past → VectorWithin 1024 (forward_after h m past)
unfolding forward_after
forward-within h m past w p =
    either (VectorWithin 1024) (has_forward m.macroblock_type) (decoded-within h.forward past m.forward (forward-decodable h m past w p))
    (either (VectorWithin 1024) (eqb h.coding_type type_p) (zero-within 1024) p)

backward-within : (h : Header) (m : MacroblockSymbols) (past : Vector) → SymbolsWithin h m → VectorWithin 1024 past → VectorWithin 1024 (backward_after h m past)
unfolding backward_after
backward-within h m past w p = either (VectorWithin 1024) (has_backward m.macroblock_type) (decoded-within h.backward past m.backward (backward-decodable h m past w p)) p

after-within : (h : Header) (m : MacroblockSymbols) (pasts : VectorPasts) → SymbolsWithin h m → VectorPastsWithin pasts → VectorPastsWithin (vector_pasts_after h m pasts)
unfolding vector_pasts_after
after-within h m pasts w p =
    either VectorPastsWithin (is_intra m.macroblock_type) zero-pasts-within
    (record { forward = forward-within h m pasts.forward w p.forward; backward = backward-within h m pasts.backward w p.backward })

pub pasts-within : (h : Header) (m : SymbolsWithDc) (s : SliceState) → Updatable h m s → VectorPastsWithin (next_vector_pasts h m.symbols s.pasts)
unfolding next_vector_pasts
pasts-within h m s u =
    after-within h m.symbols (vector_pasts_before h.coding_type m.symbols.increment s.pasts) u.symbols
    (before-within h.coding_type m.symbols.increment s.pasts u.pasts)

-- ---- a vector for use is at most twice its past
used-vector-within : (coding : VectorCoding) (v : Vector) → VectorWithin 1024 v → VectorWithin 2048 (vector_for_use coding v)
used-vector-within coding v p = record { across = used-within coding.full_pel v.right p.across; below = used-within coding.full_pel v.down p.below }

-- what holds of a direction's vector holds if there is one
on-used : (P : Vector → Type 0) {v : Vector} (predicts : Bool) → (predicts ≡ true → P v) → IfSome (cond predicts (Some v) None) P
on-used P true p = p refl
on-used P false p = tt

own-within : (predicts : Bool) (coding : VectorCoding) (past : Vector) → VectorWithin 1024 past → IfSome (own_vector predicts coding past) (VectorWithin 2048)
own-within predicts coding past p = on-used (VectorWithin 2048) predicts (λ e. used-vector-within coding past p)

pub motion-within : (h : Header) (type : ℕ) (pasts : VectorPasts) → VectorPastsWithin pasts → MotionWithin 2048 (own_motion h type pasts)
unfolding own_motion
motion-within h type pasts p = record {
  forward = own-within (predicts_forward h.coding_type type) h.forward pasts.forward p.forward;
  backward = own-within (predicts_backward type) h.backward pasts.backward p.backward;
}

pub still-within : MotionWithin 2048 still_motion
still-within = record { forward = zero-within 2048; backward = tt }

pub no-motion-within : MotionWithin 2048 no_motion
no-motion-within = record { forward = tt; backward = tt }

pub skip-within : (coding : ℕ) (last : Motion) → MotionWithin 2048 last → MotionWithin 2048 (skip_motion coding last)
unfolding skip_motion
skip-within coding last p = either (MotionWithin 2048) (eqb coding type_p) still-within p

-- ---- a macroblock uses only the directions of the picture's type
-- one computed test over the types below 32 in I, P and B
abbrev forward_fine : ℕ → ℕ → Bool
forward_fine coding type = cond (predicts_forward coding type) (uses_forward coding) true

abbrev backward_fine : ℕ → ℕ → Bool
backward_fine coding type = cond (predicts_backward type) (uses_backward coding) true

abbrev directed : ℕ → ℕ → Bool
directed coding type = cond (leb type_i coding && legal_type coding type) (forward_fine coding type && backward_fine coding type) true

all-directed : T (all_below 4 (λ coding. all_below 32 (directed coding)))
unfolding all_below legal_type predicts_forward predicts_backward
all-directed = tt

legal-below : (coding type : ℕ) → legal_type coding type ≡ true → type < 32
legal-below coding type legal = go (ltb 31 type) refl
  where
    go : (test : Bool) → ltb 31 type ≡ test → type < 32
    go true e = absurd (subst T (sym (types-above coding type (ltb-true 31 type e) ∙ legal)) tt)
    go false e = omega (arith, ltb-false 31 type e)

implied : (a b : Bool) → T (cond a b true) → a ≡ true → T b
implied true b t e = t
implied false b t e = absurd (subst T (sym e) tt)

holds : (b : Bool) → T b → b ≡ true
holds true t = refl
holds false t = absurd t

both-directed : (coding type : ℕ) → type_i ≤ coding → coding ≤ type_b → legal_type coding type ≡ true → T (forward_fine coding type && backward_fine coding type)
both-directed coding type low high legal =
    implied (leb type_i coding && legal_type coding type) (forward_fine coding type && backward_fine coding type)
    (at-below₂ 4 32 directed all-directed coding type (omega arith) (legal-below coding type legal))
    (rw (le-leb type_i coding low, legal))

-- a macroblock of a legal type predicts from no direction that the picture's type doesn't use
pub own-forward-used : (coding type : ℕ) → type_i ≤ coding → coding ≤ type_b → legal_type coding type ≡ true → predicts_forward coding type ≡ true → uses_forward coding ≡ true
own-forward-used coding type low high legal e =
    let fine = and_left (forward_fine coding type) (backward_fine coding type) (both-directed coding type low high legal) in
    holds (uses_forward coding) (implied (predicts_forward coding type) (uses_forward coding) fine e)

pub own-backward-used : (coding type : ℕ) → type_i ≤ coding → coding ≤ type_b → legal_type coding type ≡ true → predicts_backward type ≡ true → uses_backward coding ≡ true
own-backward-used coding type low high legal e =
    let fine = and_right (forward_fine coding type) (backward_fine coding type) (both-directed coding type low high legal) in
    holds (uses_backward coding) (implied (predicts_backward type) (uses_backward coding) fine e)

-- nor has a skipped one's, if the last macroblock's doesn't
pub skip-forward-used : (coding : ℕ) (last : Motion) → OnSome last.forward (uses_forward coding ≡ true) → OnSome (skip_motion coding last).forward (uses_forward coding ≡ true)
unfolding skip_motion
skip-forward-used coding last used = go (eqb coding type_p) refl
  where
    go : (test : Bool) → eqb coding type_p ≡ test → OnSome (cond test still_motion last).forward (uses_forward coding ≡ true)
    go true e = le-leb type_p coding (omega (arith, eqb-true coding type_p e))
    go false e = used

pub skip-backward-used : (coding : ℕ) (last : Motion) → OnSome last.backward (uses_backward coding ≡ true) → OnSome (skip_motion coding last).backward (uses_backward coding ≡ true)
unfolding skip_motion
skip-backward-used coding last used = either (λ (m : Motion). OnSome m.backward (uses_backward coding ≡ true)) (eqb coding type_p) tt used

-- ---- document 01's sentences about the pasts, as laws
-- "In B an unused direction keeps its past": a direction that is not given is not reset
pub forward-kept-in-B : (h : Header) (m : MacroblockSymbols) (past : Vector) → h.coding_type ≡ type_b → has_forward m.macroblock_type ≡ false → forward_after h m past ≡ past
unfolding forward_after
forward-kept-in-B h m past type unused = rw (unused, type)

pub backward-kept : (h : Header) (m : MacroblockSymbols) (past : Vector) → has_backward m.macroblock_type ≡ false → backward_after h m past ≡ past
unfolding backward_after
backward-kept h m past unused = rw unused

-- a B skip clears no past; it repeats the last macroblock's directions and vectors, not vector 0
pub skip-keeps-in-B : (increment : ℕ) (pasts : VectorPasts) → vector_pasts_before type_b increment pasts ≡ pasts
unfolding vector_pasts_before
skip-keeps-in-B increment pasts = refl

pub skip-repeats-in-B : (last : Motion) → skip_motion type_b last ≡ last
unfolding skip_motion
skip-repeats-in-B last = refl

-- a P skip clears the pasts before the macroblock's own codes are added, and copies with vector 0
pub skip-clears-in-P : (increment : ℕ) (pasts : VectorPasts) → 1 < increment → vector_pasts_before type_p increment pasts ≡ zero_vector_pasts
unfolding vector_pasts_before
skip-clears-in-P increment pasts skipped = rw (lt-ltb 1 increment skipped)

pub skip-copies-in-P : (last : Motion) → skip_motion type_p last ≡ still_motion
unfolding skip_motion
skip-copies-in-P last = refl

-- in P, a macroblock without a vector doesn't keep the past
pub unused-clears-in-P : (h : Header) (m : MacroblockSymbols) (past : Vector) → h.coding_type ≡ type_p → has_forward m.macroblock_type ≡ false → forward_after h m past ≡ zero_vector
unfolding forward_after
unused-clears-in-P h m past type unused = rw (unused, type)

-- intra clears both pasts, in every type
pub intra-clears : (h : Header) (m : MacroblockSymbols) (pasts : VectorPasts) → is_intra m.macroblock_type ≡ true → vector_pasts_after h m pasts ≡ zero_vector_pasts
unfolding vector_pasts_after
intra-clears h m pasts intra = rw intra

-- "The past keeps this number; the full-pel flag doubles it afterwards": headers that differ only in size and full-pel flags give equal pasts
pub record SameCodes (g h : Header) : Type 0 where
  pub type : g.coding_type ≡ h.coding_type
  pub forward : g.forward.f_code ≡ h.forward.f_code
  pub backward : g.backward.f_code ≡ h.backward.f_code

pub pasts-undoubled : (g h : Header) (m : MacroblockSymbols) (pasts : VectorPasts) → SameCodes g h → next_vector_pasts g m pasts ≡ next_vector_pasts h m pasts
unfolding next_vector_pasts vector_pasts_before vector_pasts_after forward_after backward_after
pasts-undoubled g h m pasts same = rw (same.type, same.forward, same.backward)
