-- A refusal that depends on the caller is 27 beyond the reader's limit, or 19 to 21 for a length. Assumes nothing.
use mathlib.Core.Logic.{◌⊎◌, inl, inr}
use mathlib.Core.Path.{◌≡◌, refl}
use Prim.Native.Nat.{ℕ, ◌≤◌, ◌<◌}
use borrow.Author.Tests.{leb-false}
use lib.Dec.{lit≤}
use Rattle.std.specs.Prelude.{Result, Ok, Err, ⊤}
use Rattle.refusals.specs.Refusal.{number_of}
use Rattle.refusals.specs.declared.Refusal.{Refusal}
use Rattle.refusals.specs.declared.Refusal.TheVariants.{MacroblockLimit}
use Rattle.symbols.specs.Size.{macroblock_count}
use Rattle.symbols.specs.declared.header.Header.{Header}
use Rattle.symbols.proofs.Guard.{require-cases, require-all}
use Rattle.format3_header.specs.Lengths.{lent_lengths, caller_verdict}

module _ (limit : ℕ) (h : Header) where
  abbrev pub CallerRefusal : Refusal → Type 0
  CallerRefusal refusal = ((refusal ≡ MacroblockLimit) × (limit < macroblock_count h.size)) ⊎ ((19 ≤ number_of refusal) × (number_of refusal ≤ 21))

  abbrev pub RefusedByCaller : Result ⊤ Refusal → Type 0
  RefusedByCaller (Ok passed) = Unit {0}
  RefusedByCaller (Err refusal) = CallerRefusal refusal

  pub caller-refusal : (output forward backward : ℕ) → RefusedByCaller (caller_verdict limit h output forward backward)
  unfolding caller_verdict lent_lengths
  caller-refusal output forward backward =
      require-cases RefusedByCaller _ _ _ (λ f. inl (refl, leb-false (macroblock_count h.size) limit f)) λ within.
      require-all RefusedByCaller _ _ _ (inr (lit≤ tt, lit≤ tt)) λ o.
      require-all RefusedByCaller _ _ _ (inr (lit≤ tt, lit≤ tt)) λ f.
      require-all RefusedByCaller _ _ _ (inr (lit≤ tt, lit≤ tt)) λ b. tt
