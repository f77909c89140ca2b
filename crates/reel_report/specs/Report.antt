-- The whole text printed for a reel (document 01, "The program `panel` reads a reel").
use Rattle.std.specs.Prelude.{cond, List, ℕ, length}
use Rattle.math.specs.Joined.{joined}
use Rattle.reel_parts.specs.Part.{is_long}
use Rattle.reel_player.specs.Items.{items_of}
use Rattle.reel_report.specs.Text.{line_text, long_text}

-- one line per picture, up to where the reel is cut
abbrev pub lines_of : List ℕ → List ℕ
lines_of reel = joined line_text (items_of reel)

-- "A whole reel above 16,384 bytes prints only `long`"
unfoldable pub report_of : List ℕ → List ℕ
report_of reel = cond (is_long (length reel)) long_text (lines_of reel)
