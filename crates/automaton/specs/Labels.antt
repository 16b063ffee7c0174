-- Labels on the numbers 1 to N: a partition, each of whose classes is named by one of its numbers.
use Rattle.std.specs.Prelude.{◌≡◌, Bool, ℕ, suc, ◌≤◌, T, eqb}
use Rattle.automaton.specs.Below.{count_below}
use Rattle.automaton.specs.Machine.{in_one}

-- one of the numbers 1 to N
pub record Among (N u : ℕ) : Type 0 where
  pub least : 1 ≤ u
  pub most : u ≤ N

-- each label is a number that has itself for its label
abbrev pub Rooted : ℕ → (ℕ → ℕ) → Type 0
Rooted N label = (u : ℕ) → Among N u → Among N (label u) × (label (label u) ≡ label u)

-- number u + 1 has itself for its label
abbrev pub own_label : (ℕ → ℕ) → ℕ → Bool
own_label label u = eqb (label (suc u)) (suc u)

-- how many labels there are
abbrev pub labels : ℕ → (ℕ → ℕ) → ℕ
labels N label = count_below N (own_label label)

-- the test differs on two numbers of one label
abbrev pub Divides : ℕ → (ℕ → ℕ) → (ℕ → Bool) → Type 0
Divides N label test = (u : ℕ) × (v : ℕ) × Among N u × Among N v × (label u ≡ label v) × T (in_one (test u) (test v))
