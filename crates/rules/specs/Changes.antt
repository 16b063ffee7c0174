-- Where changes lead from a valuation, by an array of the values of its variables.
use Rattle.std.specs.Prelude.{List, ℕ, ◌+◌, ◌*◌, ◌<◌, ◌≤◌, length, get_or}
use Rattle.definitions.specs.Bytes.{byte}
use Rattle.definitions.specs.Policy.{variables}
use Rattle.definitions.specs.Valuation.{bound, valuation_of, changed}

-- ---- changes in a part of the file, each `step` bytes after the one before it
abbrev pub change_at : List ℕ → ℕ → ℕ → ℕ → ℕ
change_at part first step j = byte part (first + step * j)

-- n of them lie in the part
abbrev pub ChangesIn : List ℕ → ℕ → ℕ → ℕ → Type 0
ChangesIn part first step n = (j : ℕ) → j < n → first + step * j < length part

-- ---- where changes lead from the values x of the variables. At the values of valuation v this is carried_out

-- an array of values of the variables
pub record Valued (p values : List ℕ) : Type 0 where
  pub room : variables p ≤ length values
  pub most : (j : ℕ) → j < variables p → get_or values j 0 ≤ bound p j

abbrev pub changed_by : List ℕ → (ℕ → ℕ) → (ℕ → ℕ) → ℕ → ℕ
changed_by p changes x j = changed (changes j) (bound p j) (x j)

abbrev pub carried_by : List ℕ → (ℕ → ℕ) → (ℕ → ℕ) → ℕ
carried_by p changes x = valuation_of p (changed_by p changes x)
