-- A head that was read is legal. Assumes nothing.
use mathlib.Core.Path.{◌≡◌}
use mathlib.Core.Bool.{Bool, true, false, cond}
use mathlib.Core.List.{List}
use Prim.Native.Nat.{ℕ}
use native.Mathlib.Omega.{arith}
use Rattle.refusals.specs.declared.Refusal.TheVariants.{MacroblockType, AddressIncrement}
use Rattle.symbols.specs.Parsed.{give}
use Rattle.symbols.specs.declared.macroblock.MacroblockHead.{MacroblockHead}
use Rattle.symbols.specs.MacroblockType.{has_scale, legal_type}
use Rattle.symbols.proofs.Parsed.{All, here, all_then, all-require, all_more, all_any}
use Rattle.format3_records.specs.Field.{byte, two_bytes}
use Rattle.format3_macroblock.specs.declared.macroblock_head.HeadContext.{HeadContext}
use Rattle.format3_macroblock.specs.MacroblockHead.{legal_increment, given_scale_of, head_of}
use Rattle.format3_macroblock.specs.Slice.{legal_scale, scale_of}
use Rattle.format3_macroblock.proofs.Laws.Slice.{scale-legal}

pub record LegalHead (c : HeadContext) (h : MacroblockHead) : Type 0 where
  pub type : legal_type c.coding_type h.macroblock_type ≡ true
  pub increment : legal_increment c h.increment ≡ true
  pub scale : has_scale h.macroblock_type ≡ true → legal_scale h.scale ≡ true

given-legal : (type : ℕ) (rest : List ℕ) → All (λ scale left. has_scale type ≡ true → legal_scale scale ≡ true) (given_scale_of type rest)
given-legal type rest = go (has_scale type)
  where
    go : (b : Bool) → All (λ scale left. b ≡ true → legal_scale scale ≡ true) (cond b scale_of (give 0) rest)
    go true = all_more (scale-legal rest) λ scale left h e. h
    go false = here (λ e. absurd (let z : ◌≡◌ {A = ℕ} 0 1 = cc in omega arith))

pub head-legal : (c : HeadContext) (body : List ℕ) → All (λ head rest. LegalHead c head) (head_of c body)
unfolding head_of
head-legal c body =
    all_then (all_any (byte body)) λ type rest u.
    all-require (legal_type c.coding_type type) MacroblockType _ rest λ legal.
    all_then (all_any (two_bytes rest)) λ increment left v.
    all-require (legal_increment c increment) AddressIncrement _ left λ step.
    all_then (given-legal type left) λ scale end h.
    here (record { type = legal; increment = step; scale = h })
