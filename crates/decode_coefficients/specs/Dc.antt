-- The DC predictors ("pasts") of Y, Cb and Cr (document 01, "Coefficients"; dct_dc_y_past, dct_dc_cb_past and
-- dct_dc_cr_past in ISO/IEC 11172-2, 2.4.4.1).
use Rattle.std.specs.Prelude.{Bool, cond, List, [], ◌∷◌, ℕ, ◌+◌, eqb, ltb, ℤ, pos}
use Rattle.symbols.specs.Block.{Block, uncoded, coded}
use Rattle.symbols.specs.Pattern.{is_luma}
use Rattle.decode_coefficients.specs.Scaling.{intra_dc}
use Rattle.decode_coefficients.specs.declared.dc.DcPasts.{DcPasts}

-- "the past DC of Y, Cb or Cr", the DC predictors: blocks 0 to 3, 4, and 5
unfoldable pub dc_past_of : DcPasts → ℕ → ℤ
dc_past_of pasts block = cond (is_luma block) pasts.y (cond (eqb block 4) pasts.cb pasts.cr)

unfoldable pub with_dc_past : DcPasts → ℕ → ℤ → DcPasts
with_dc_past pasts block dc =
    cond (is_luma block) (record { y = dc; cb = pasts.cb; cr = pasts.cr })
    (cond (eqb block 4) (record { y = pasts.y; cb = dc; cr = pasts.cr })
    (record { y = pasts.y; cb = pasts.cb; cr = dc }))

-- the DC of a block with this difference, 0 if it is not intra; and the pasts after the block
abbrev pub dc_of : Bool → ℤ → ℤ → ℤ
dc_of intra past difference = cond intra (intra_dc past difference) (pos 0)

abbrev pub dc_pasts_with : Bool → DcPasts → ℕ → ℤ → DcPasts
dc_pasts_with intra pasts block dc = cond intra (with_dc_past pasts block dc) pasts

abbrev pub dc_pasts_after : Bool → DcPasts → ℕ → Block → DcPasts
dc_pasts_after intra pasts block uncoded = pasts
dc_pasts_after intra pasts block (coded difference pairs) = dc_pasts_with intra pasts block (dc_of intra (dc_past_of pasts block) difference)

-- the pasts after these blocks
unfoldable pub dc_pasts_through : Bool → DcPasts → ℕ → List Block → DcPasts
dc_pasts_through intra pasts block [] = pasts
dc_pasts_through intra pasts block (b ∷ blocks) = dc_pasts_through intra (dc_pasts_after intra pasts block b) (block + 1) blocks

-- "Pasts are 1024 at a slice's start and after any skipped .. macroblock"
abbrev pub reset_dc_pasts : DcPasts
reset_dc_pasts = record { y = pos 1024; cb = pos 1024; cr = pos 1024 }

unfoldable pub starting_dc_pasts : DcPasts → ℕ → DcPasts
starting_dc_pasts pasts increment = cond (ltb 1 increment) reset_dc_pasts pasts

-- "Pasts are 1024 .. after any .. non-intra macroblock"; `starting_dc_pasts` handles the skipped ones
abbrev pub dc_pasts_left : Bool → DcPasts → DcPasts
dc_pasts_left intra running = cond intra running reset_dc_pasts
