-- The answer, and the bytes of an accepted picture, depend only on the file, the references and the output's length,
-- not on what the output held.
use Rattle.std.specs.Prelude.{◌≡◌, ℕ, length}
use Rattle.refusals.specs.Refusal.{accepted}
use Rattle.format3_picture.specs.Picture.{Picture, answer_of}

-- the same answer and, if it is an acceptance, the same bytes; the first picture has n bytes
pub record Alike (n : ℕ) (p q : Picture) : Type 0 where
  pub answer : answer_of p ≡ answer_of q
  pub bytes : p.number ≡ accepted → p.output ≡ q.output
  pub long : length p.output ≡ n
