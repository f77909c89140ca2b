-- Which files are beyond a reader's limit (request No. 4, refusal 27).
use Rattle.std.specs.Prelude.{List, ◌≡◌, ℕ, ◌<◌, Ok}
use Rattle.symbols.specs.Size.{macroblock_count}
use Rattle.symbols.specs.declared.header.Header.{Header}
use Rattle.format3_header.specs.FileStart.{first_header}

-- "a header that 8 lets through has more than 99 macroblocks": more than a limit
pub record BeyondLimit (limit : ℕ) (file : List ℕ) : Type 0 where
  pub header : Header
  pub end : ℕ
  pub legal : first_header file ≡ Ok (record { header = header; end = end })
  pub more : limit < macroblock_count header.size
