-- What the code of this crate relies on; no rule of document 01.
use Rattle.std.specs.Prelude.{true, ◌≡◌, List, ℤ}
use Rattle.decode_coefficients.specs.declared.block.BlockCoding.{BlockCoding}
use Rattle.decode_coefficients.specs.Block.{dc_block}
use Rattle.decode_coefficients.specs.SoFar.{DcFits}
use Rattle.decode_coefficients.specs.declared.dc.DcPasts.{DcPasts}
use Rattle.decode_coefficients.specs.Requires.{BlockCodingWithin}
use Rattle.format3_macroblock.specs.Blocks.{legal_dc}
use Rattle.format3_macroblock.specs.declared.blocks.BlocksCoding.{BlocksCoding}
use Rattle.format3_macroblock.specs.Decoding.{one_block_coding}

-- a block before its pairs
pub record BeforePairs (c : BlockCoding) (block : List ℤ) : Type 0 where
  pub dc : ℤ
  pub fits : DcFits c dc
  pub is : block ≡ dc_block dc

-- legal DC pasts (predictors)
pub record LegalDcPasts (pasts : DcPasts) : Type 0 where
  pub legal-y : legal_dc pasts.y ≡ true
  pub legal-cb : legal_dc pasts.cb ≡ true
  pub legal-cr : legal_dc pasts.cr ≡ true

-- a quantizer scale of at most 31
abbrev pub BlocksCodingWithin : BlocksCoding → Type 0
BlocksCodingWithin c = BlockCodingWithin (one_block_coding c)
