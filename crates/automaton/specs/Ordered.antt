-- Tables whose states are in order: that of their earliest histories, in which a breadth-first search finds them.
use Rattle.std.specs.Prelude.{◌≡◌, ◌⊎◌, ℕ, ◌≤◌, ◌<◌}
use Rattle.automaton.specs.Machine.{Machine, step}

-- entry d of row p stands before entry c of row s
abbrev pub Before : ℕ → ℕ → ℕ → ℕ → Type 0
Before p d s c = (p < s) ⊎ ((p ≡ s) × (d < c))

-- The states are 1 to n, 1 is the start, and each above 1 stands in an earlier row than its own. Reading the rows in order, new numbers come in order.
pub record Ordered (m : Machine) (n : ℕ) : Type 0 where
  pub some : 1 ≤ n
  pub inside : (s c : ℕ) → s ≤ n → step m s c ≤ n
  pub met : (t : ℕ) → 1 < t → t ≤ n → (p : ℕ) × (d : ℕ) × (p < t) × (step m p d ≡ t)
  pub in_order : (s c t : ℕ) → s ≤ n → 1 < t → t < step m s c → (p : ℕ) × (d : ℕ) × Before p d s c × (step m p d ≡ t)
