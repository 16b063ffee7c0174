-- Two byte strings read from the front.
use Rattle.std.specs.Prelude.{◌≡◌, List, ℕ, ◌≤◌, length}
use Rattle.bytewords.specs.ByteWords.{SamePart}

-- of one length, and the same up to place k
pub record SameSoFar (xs ys : List ℕ) (k : ℕ) : Type 0 where
  pub lengths : length xs ≡ length ys
  pub within : k ≤ length xs
  pub front : SamePart k xs 0 ys 0
