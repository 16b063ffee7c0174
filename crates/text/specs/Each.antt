-- The texts of a list's elements, one after another.
use Rattle.std.specs.Prelude.{List, [], ◌∷◌, ◌++◌, ℕ, ◌+◌, ◌≤◌}
use Rattle.text.specs.Put.{Put}

abbrev pub each_text : (ℕ → List ℕ) → List ℕ → List ℕ
each_text text [] = []
each_text text (x ∷ xs) = text x ++ each_text text xs

-- a text for each element, and how many bytes a text has at most
pub record Texts : Type 0 where
  pub text_of : ℕ → List ℕ
  pub most : ℕ

-- a call that was given the place `at` in the buffer `before` has put the text of x there
pub record PutsText (texts : Texts) (before : List ℕ) (at x : ℕ) (after : List ℕ) (next : ℕ) : Type 0 where
  pub put : Put before at (texts.text_of x) after next
  pub upper_bound : next ≤ at + texts.most
