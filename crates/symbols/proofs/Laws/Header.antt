-- A header with legal numbers is within the limits. Assumes nothing.
use mathlib.Core.Path.{◌≡◌, subst}
use mathlib.Core.Bool.{Bool, true, false}
use Prim.Native.Nat.{ℕ}
use native.Mathlib.Omega.{arith}
use lib.Dec.{leb, eqb}
use borrow.Author.Tests.{leb-true, eqb-true}
use Rattle.std.specs.Prelude.{Result, Ok}
use Rattle.refusals.specs.declared.Refusal.{Refusal}
use Rattle.symbols.specs.declared.header.HeaderFields.{HeaderFields}
use Rattle.symbols.specs.declared.header.Header.{Header}
use Rattle.symbols.specs.Header.{type_i, type_b, uses_forward, uses_backward, legal_coding, legal_codings, legal_header, vector_coding_of, header_value, header_with}
use Rattle.symbols.specs.Requires.{CodingWithin, HeaderWithin}
use Rattle.symbols.specs.Size.{legal_size}
use Rattle.symbols.proofs.Guard.{require-all, both}
use Rattle.symbols.proofs.Laws.Size.{legal-within}

coding-within : (used : Bool) (flag code : ℕ) → legal_coding used flag code ≡ true → CodingWithin used (vector_coding_of flag code)
coding-within true flag code e =
    let top = both _ (leb code 7) e in
    let low = both (leb flag 1) _ top.0 in
    record { least = λ u. leb-true 1 code low.1; most = leb-true code 7 top.1 }
coding-within false flag code e =
    let all = both (eqb flag 0) _ e in
    record { least = λ u. absurd (let z : ◌≡◌ {A = ℕ} 0 1 = cc in omega arith); most = omega (arith, eqb-true code 0 all.1) }

value-within : (f : HeaderFields) → legal_header f ≡ true → HeaderWithin (header_value f)
unfolding legal_header legal_codings
value-within f e =
    let all = both (legal_size f.width f.height) _ e in
    let backward = both _ (legal_coding (uses_backward f.coding_type) f.full_pel_backward f.backward_f_code) all.1 in
    let forward = both _ (legal_coding (uses_forward f.coding_type) f.full_pel_forward f.forward_f_code) backward.0 in
    let type = both (leb type_i f.coding_type) _ forward.0 in
    record {
      size = legal-within f.width f.height all.0;
      first-type = leb-true type_i f.coding_type type.0;
      last-type = leb-true f.coding_type type_b type.1;
      forward = coding-within _ f.full_pel_forward f.forward_f_code forward.1;
      backward = coding-within _ f.full_pel_backward f.backward_f_code backward.1;
    }

pub record LegalHeaderWithin (a : Result Header Refusal) : Type 0 where
  pub within : (h : Header) → a ≡ Ok h → HeaderWithin h

pub made-within : (f : HeaderFields) → LegalHeaderWithin (header_with f)
unfolding header_with
made-within f = require-all LegalHeaderWithin (legal_header f) _ (Ok (header_value f))
    (record { within = λ h e. absurd (let z : ◌≡◌ {A = ℕ} 0 1 = cc in omega arith) })
    (λ legal. record { within = λ h e. let p : ◌≡◌ {A = Header} (header_value f) h = cc in subst HeaderWithin p (value-within f legal) })
