-- How a look-up in the code table decides where bits are missing.
use Rattle.std.specs.Prelude.{cond, ℕ, leb, Result, Ok, Err}
use Rattle.mpeg1_tables.specs.declared.code.Code.{Code}
use Rattle.mpeg1_tables.specs.declared.code.CodeError.{CodeError}
use Rattle.mpeg1_tables.specs.declared.code.CodeError.TheVariants.{NoCode, Truncated}
use Rattle.mpeg1_tables.specs.Rule.{is_no_code}

-- The code of `count` bits, given the codes of these bits padded with zeros and padded with ones: a code that needs no padding is the code,
-- there is none if neither padding gives one, else the bits are truncated. This renders no sentence of the
-- documents; it is how the code decides.
unfoldable pub unpadded_of : ℕ → Result Code CodeError → Result Code CodeError → Result Code CodeError
unpadded_of count (Ok code) filled = cond (leb code.length count) (Ok code) (Err Truncated)
unpadded_of count (Err NoCode) filled = cond (is_no_code filled) (Err NoCode) (Err Truncated)
unpadded_of count (Err Truncated) filled = Err Truncated
