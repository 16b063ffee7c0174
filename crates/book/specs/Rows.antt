-- The rows of a book as lists.
use Rattle.std.specs.Prelude.{List, ℕ, take}
use Rattle.definitions.specs.Book as B

-- row s, without what is after it
abbrev pub row_of : List ℕ → ℕ → List ℕ
row_of b s = take (B.width b) (B.book_row b s)
