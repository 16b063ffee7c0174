-- Arrays that the code fills: their first entries are the values of a function.
use Rattle.std.specs.Prelude.{◌≡◌, List, ℕ, ◌<◌, ◌≤◌, length, get_or}

abbrev pub entry_of : List ℕ → ℕ → ℕ
entry_of l i = get_or l i 0

-- the first n entries number bits of a word
abbrev pub Small : ℕ → List ℕ → Type 0
Small n l = (i : ℕ) → i < n → get_or l i 0 < 64

-- the first n entries of l are f 0, f 1, .., f (n - 1)
pub record Tabled (n : ℕ) (f : ℕ → ℕ) (l : List ℕ) : Type 0 where
  pub room : n ≤ length l
  pub entry : (i : ℕ) → i < n → get_or l i 0 ≡ f i
