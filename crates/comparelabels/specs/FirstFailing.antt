-- The first number at which a property fails.
use Rattle.std.specs.Prelude.{ℕ, ◌≤◌, ◌<◌}

-- r is the first number from `from` on, below `end`, at which P fails, or `end` if there is none
pub record FirstFailing (P : ℕ → Type 0) (from end r : ℕ) : Type 0 where
  pub least : from ≤ r
  pub most : r ≤ end
  pub before : (k : ℕ) → from ≤ k → k < r → P k
  pub fails : r < end → P r → ⊥
