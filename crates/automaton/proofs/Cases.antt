-- Three tables that small errors would change: rows that agree at present and part later, a chain in which every round counts, an order to be mended.
use mathlib.Core.Path.{◌≡◌, refl}
use mathlib.Core.List.{List, [], ◌∷◌}
use Prim.Native.Nat.{ℕ}
use Rattle.automaton.specs.Join.{minimal}

-- the rows of document 01's book A: rows 1 and 2 decide alike at present, and part later
abbrev rows_of_a : List (List ℕ)
rows_of_a = (1 ∷ 1 ∷ 0 ∷ 2 ∷ 0 ∷ []) ∷ (1 ∷ 2 ∷ 0 ∷ 3 ∷ 0 ∷ []) ∷ (1 ∷ 3 ∷ 0 ∷ 0 ∷ 3 ∷ []) ∷ []

stay_apart : minimal 5 rows_of_a ≡ rows_of_a
unfolding minimal
stay_apart = refl

-- a chain of five: each round tells one more state from the others
abbrev chain : List (List ℕ)
chain = (2 ∷ []) ∷ (3 ∷ []) ∷ (4 ∷ []) ∷ (5 ∷ []) ∷ (0 ∷ []) ∷ []

every_round_counts : minimal 1 chain ≡ chain
unfolding minimal
every_round_counts = refl

-- states 2 and 3 are found in the other order, state 4 is not reached, and state 5 is alike state 1
abbrev untidy : List (List ℕ)
untidy = (3 ∷ 2 ∷ []) ∷ (0 ∷ 5 ∷ []) ∷ (1 ∷ 0 ∷ []) ∷ (4 ∷ 4 ∷ []) ∷ (3 ∷ 2 ∷ []) ∷ []

tidied : minimal 2 untidy ≡ (2 ∷ 3 ∷ []) ∷ (1 ∷ 0 ∷ []) ∷ (0 ∷ 1 ∷ []) ∷ []
unfolding minimal
tidied = refl
