-- Which macroblock owns a byte of a picture (document 01, "The picture and its size").
use Rattle.std.specs.Prelude.{cond, ℕ, ◌+◌, ◌-◌, ◌*◌, ◌/◌, ◌%◌, ltb}
use Rattle.symbols.specs.declared.size.PictureSize.{PictureSize}
use Rattle.symbols.specs.Size.{start_of_cb, start_of_cr}

-- the address of the macroblock that owns pel i of a plane, where a macroblock has `side` by `side` pels
unfoldable pub owner_in : ℕ → ℕ → ℕ → ℕ
owner_in side width i = i / (side * width) / side * width + i % (side * width) / side

-- the address of the macroblock that owns byte i of a picture
unfoldable pub owner_of : PictureSize → ℕ → ℕ
owner_of s i =
    cond (ltb i (start_of_cb s)) (owner_in 16 s.width i)
    (cond (ltb i (start_of_cr s)) (owner_in 8 s.width (i - start_of_cb s)) (owner_in 8 s.width (i - start_of_cr s)))
