-- The lines of a book are those that document 01 gives it.
use mathlib.Core.Path.{◌≡◌}
use mathlib.Core.List.{List, ◌++◌, append_assoc}
use Prim.Native.Nat.{ℕ}
use Rattle.definitions.specs.Book.{states}
use Rattle.definitions.specs.Verdict.{findings}
use Rattle.definitions.specs.Decimal.{decimal}
use Rattle.definitions.specs.Shelf.{line, states_word, book_text}
use Rattle.booktext.specs.FindingLines.{finding_lines}

-- the states, then the three findings
four : (s c m k : List ℕ) → s ++ (c ++ m ++ k) ≡ s ++ c ++ m ++ k
four s c m k = simp append_assoc

pub book-is : (b : List ℕ) → line states_word (decimal (states b)) ++ finding_lines (findings b) ≡ book_text b
unfolding book_text findings
book-is b = four (line states_word (decimal (states b))) _ _ _
