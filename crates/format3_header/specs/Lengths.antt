-- What depends on the caller: the limit of the reader it calls (request No. 4, refusal 27), and the lengths of the buffers that it lends as
-- borrowed slices (document 01, refusals 19, 20 and 21).
use Rattle.std.specs.Prelude.{Bool, true, false, ℕ, eqb, ⊤, Result, Ok, Err}
use Rattle.refusals.specs.declared.Refusal.{Refusal}
use Rattle.refusals.specs.declared.Refusal.TheVariants.{MacroblockLimit, OutputLength, ForwardLength, BackwardLength}
use Rattle.symbols.specs.declared.size.PictureSize.{PictureSize}
use Rattle.symbols.specs.declared.header.Header.{Header}
use Rattle.symbols.specs.Guard.{require◌else◌then◌}
use Rattle.symbols.specs.Header.{uses_forward, uses_backward}
use Rattle.symbols.specs.Size.{within_limit, picture_bytes}

-- "a used reference too, an unused one is empty"
abbrev pub reference_length : Bool → PictureSize → ℕ
reference_length true size = picture_bytes size
reference_length false size = 0

-- "Output is 384 × N; a used reference too, an unused one is empty"
unfoldable pub lent_lengths : Header → ℕ → ℕ → ℕ → Result ⊤ Refusal
lent_lengths h output forward backward =
    require eqb output (picture_bytes h.size) else Err OutputLength then
    require eqb forward (reference_length (uses_forward h.coding_type) h.size) else Err ForwardLength then
    require eqb backward (reference_length (uses_backward h.coding_type) h.size) else Err BackwardLength then
    Ok tt

-- "27 when a header that 8 lets through has more than 99 macroblocks on the cab's panel, before 19", for a reader with any limit
unfoldable pub caller_verdict : ℕ → Header → ℕ → ℕ → ℕ → Result ⊤ Refusal
caller_verdict limit h output forward backward =
    require within_limit limit h.size else Err MacroblockLimit then
    lent_lengths h output forward backward
