-- What the code of this crate relies on; no rule of document 01.
use Rattle.std.specs.Prelude.{List, ◌≡◌, ℕ, ◌≤◌, length, Result, Ok}
use Rattle.symbols.specs.Requires.{SizeWithin}
use Rattle.symbols.specs.Size.{max_macroblocks}
use Rattle.format3_header.specs.declared.file_start.FileStart.{FileStart}
use Rattle.format3_header.specs.declared.file_start.RefusedAt.{RefusedAt}
use Rattle.reel_parts.specs.declared.references.Kept.{Kept}

-- an accepted header gives a size within the limits
pub record StartWithin (start : Result FileStart RefusedAt) : Type 0 where
  pub size : (read : FileStart) → start ≡ Ok read → SizeWithin max_macroblocks read.header.size

-- the kept references fit their buffers
pub record KeptWithin (kept : Kept) (older newer : List ℕ) : Type 0 where
  pub older-fits : kept.older ≤ length older
  pub newer-fits : kept.newer ≤ length newer
