-- The histories of a queue, kept as parents and codes: place 0 has the empty history, each other place that of its parent, an earlier place, and then its own
-- code.
use Rattle.std.specs.Prelude.{[], ◌∷◌, ◌++◌, ℕ, zero, suc, ◌≤◌, ◌<◌}
use Rattle.automaton.specs.History.{History}

-- the codes on the way from place k back to place 0, the last at the end
abbrev pub climb : (ℕ → ℕ) → (ℕ → ℕ) → ℕ → ℕ → History
climb parent code zero k = []
climb parent code (suc fuel) zero = []
climb parent code (suc fuel) (suc k) = climb parent code fuel (parent (suc k)) ++ (code (suc k) ∷ [])

-- the history of place k
unfoldable pub trail : (ℕ → ℕ) → (ℕ → ℕ) → ℕ → History
trail parent code k = climb parent code (suc k) k

-- of m places each but the first has an earlier one for its parent
abbrev pub EarlierParents : ℕ → (ℕ → ℕ) → Type 0
EarlierParents m parent = (k : ℕ) → suc k < m → parent (suc k) ≤ k
