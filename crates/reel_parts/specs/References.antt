-- The reference pictures that a reel carries on and lends to each picture (document 01, "The program `panel` reads a reel").
use Rattle.std.specs.Prelude.{cond, List, [], ℕ, eqb, Result, Ok, Err}
use Rattle.symbols.specs.Header.{type_p, type_b}
use Rattle.format3_header.specs.declared.file_start.FileStart.{FileStart}
use Rattle.format3_header.specs.declared.file_start.RefusedAt.{RefusedAt}

-- "A P uses the last accepted I or P, a B the last two, the newer or only one as backward; missing ones are lent empty"
abbrev pub forward_for : Result FileStart RefusedAt → List ℕ → List ℕ → List ℕ
forward_for (Ok start) older newer = cond (eqb start.header.coding_type type_p) newer (cond (eqb start.header.coding_type type_b) older [])
forward_for (Err refused) older newer = []

abbrev pub backward_for : Result FileStart RefusedAt → List ℕ → List ℕ
backward_for (Ok start) newer = cond (eqb start.header.coding_type type_b) newer []
backward_for (Err refused) newer = []
