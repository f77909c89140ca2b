-- The transform entry's answer for any sixty-four numbers (document 01, refusal 22; document 02, No. 6).
use Rattle.std.specs.Prelude.{Bool, cond, List, ℕ, ℤ, pos, negsuc, replicate}
use Rattle.math.specs.Test.{all_below}
use Rattle.math.specs.Bound.{at}
use Rattle.math.specs.Limit.{in_range}
use Rattle.refusals.specs.Refusal.{accepted, number_of}
use Rattle.refusals.specs.declared.Refusal.TheVariants.{NumberOutOfRange}
use Rattle.decode_coefficients.specs.Rows.{rows_worked}
use Rattle.decode_idct.specs.declared.Residues.{Residues}
use Rattle.decode_idct.specs.Transform.{inverse_transform, residues_by}

-- whether every coefficient is in -2048..2047
unfoldable pub transform_entry_in_range : List ℤ → Bool
transform_entry_in_range c = all_below 64 (λ k. in_range (negsuc 2047) (pos 2047) (at c k))

abbrev pub transform_number : List ℤ → ℕ
transform_number c = cond (transform_entry_in_range c) accepted (number_of NumberOutOfRange)

-- the residues that stand for a refused block: zeros, and no row worked
abbrev pub no_residues : Residues
no_residues = record { values = replicate 64 (pos 0); rows = 0 }

-- the residues, or all zeros when refused
abbrev pub transform_residues : List ℤ → List ℤ
transform_residues c = cond (transform_entry_in_range c) (residues_by inverse_transform c) (replicate 64 (pos 0))

-- the rows that it worked; document 02, No. 6: "With 22 it is 0"
abbrev pub transform_rows : List ℤ → ℕ
transform_rows c = cond (transform_entry_in_range c) (rows_worked c) 0
