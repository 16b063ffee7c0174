-- The depth of each state of a book in a search.
use Rattle.std.specs.Prelude.{◌≡◌, List, ℕ, suc, ◌*◌, ◌≤◌, ◌<◌, eqb, length}
use Rattle.std.proofs.Math.Option.{Option, none, some}
use Rattle.automaton.specs.Explore.{Reached, first_that}
use Rattle.automaton.specs.Parents.{EarlierParents}
use Rattle.definitions.specs.Bytes.{byte}
use Rattle.definitions.specs.Book.{states}
use Rattle.definitions.specs.Verdict.{states_reached}
use Rattle.search.specs.Trail.{first_at, history_at}

-- one more than the length of the history, 0 if there is none
abbrev pub depth_of : Option Reached → ℕ
depth_of none = 0
depth_of (some t) = suc (length t.history)

-- the arrays of a search that found n states, with room for so many depths: each state once, each but the first from an earlier place
pub record SearchedPlaces (order trail : List ℕ) (n room : ℕ) : Type 0 where
  pub few : n ≤ 127
  pub room_order : n ≤ length order
  pub room_trail : 2 * n ≤ length trail
  pub below : (k : ℕ) → k < n → byte order k < room
  pub once : (j k : ℕ) → j < k → k < n → byte order j ≡ byte order k → ⊥
  pub falls : EarlierParents n (first_at trail)

-- of the n states at the places the depths of the first k are noted, and no other state has one
pub record DepthsNoted (order trail : List ℕ) (n k : ℕ) (depths : List ℕ) : Type 0 where
  pub found : (j : ℕ) → j < k → byte depths (byte order j) ≡ suc (length (history_at trail j))
  pub others : (s : ℕ) → 1 ≤ s → s < length depths → ((j : ℕ) → j < n → byte order j ≡ s → ⊥) → byte depths s ≡ 0

-- the depths of all states of a book
abbrev pub DepthsOf : List ℕ → List ℕ → Type 0
DepthsOf b depths = (s : ℕ) → 1 ≤ s → s ≤ states b → byte depths s ≡ depth_of (first_that (eqb s) (states_reached b))
