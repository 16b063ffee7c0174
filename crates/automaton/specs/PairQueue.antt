-- The queue of a breadth-first search over pairs of states of two machines, with labels (Hopcroft and Karp): the states of a queued pair get one label, and a pair
-- of one label is not queued.
use Rattle.std.specs.Prelude.{◌≡◌, Bool, cond, [], ◌∷◌, ◌++◌, ℕ, ◌+◌, ◌-◌, ◌≤◌, ◌<◌, leb}
use Rattle.automaton.specs.History.{History, Earlier, NotLater}
use Rattle.automaton.specs.Machine.{Machine, after, possible_from, Distinguishes}
use Rattle.automaton.specs.Parents.{trail, EarlierParents}
use Rattle.automaton.specs.Labels.{Among, Rooted, Divides, labels}

-- a state of A, a state of B, and a history that leads to both
pub record Pair : Type 0 where
  pub left : ℕ
  pub right : ℕ
  pub history : History

-- a queue of pairs, the histories kept as parents and codes
pub record Queue : Type 0 where
  pub left : ℕ → ℕ
  pub right : ℕ → ℕ
  pub parent : ℕ → ℕ
  pub code : ℕ → ℕ

unfoldable pub pair_at : Queue → ℕ → Pair
pair_at q k = record { left = q.left k; right = q.right k; history = trail q.parent q.code k }

-- The states of both machines share the numbers 1 to a + b: those of A keep theirs, and state t of B has the number a + t.
-- The history z is possible from number u:
abbrev pub possible_at : ℕ → Machine → Machine → History → ℕ → Bool
possible_at a A B z u = cond (leb u a) (possible_from A u z) (possible_from B (u - a) z)

-- ---- what holds on the way
pub record IsPair (A B : Machine) (a b : ℕ) (p : Pair) : Type 0 where
  pub left_state : Among a p.left
  pub right_state : Among b p.right
  pub left_after : after A A.start p.history ≡ p.left
  pub right_after : after B B.start p.history ≡ p.right

-- z is possible from just one of the pair's states
abbrev pub Apart : Machine → Machine → Pair → History → Type 0
Apart A B p z = Distinguishes A p.left B p.right z

-- m pairs in the order of their histories, from that of the starts on. What tells two states of one label apart tells a pair apart: state x of A has
-- the label of the number x, state y of B that of a + y. Each pair has taken one of a + b labels away.
pub record IsQueue (A B : Machine) (a b m : ℕ) (q : Queue) (label : ℕ → ℕ) : Type 0 where
  pub some : 1 ≤ m
  pub first : pair_at q 0 ≡ record { left = A.start; right = B.start; history = [] }
  pub pairs : (k : ℕ) → k < m → IsPair A B a b (pair_at q k)
  pub ordered : (j k : ℕ) → j < k → k < m → Earlier (pair_at q j).history (pair_at q k).history
  pub falls : EarlierParents m q.parent
  pub labelled : (z : History) → Divides (a + b) label (possible_at a A B z) → (k : ℕ) × (k < m) × Apart A B (pair_at q k) z
  pub rooted : Rooted (a + b) label
  pub few : m + labels (a + b) label ≤ a + b

-- code d of pair j is done: where d and then z tell the pair apart, z tells a queued pair apart whose history is not later
abbrev pub Done : Machine → Machine → ℕ → Queue → ℕ → ℕ → Type 0
Done A B m q j d =
    (z : History) → Apart A B (pair_at q j) (d ∷ z)
    → (k : ℕ) × (k < m) × NotLater (pair_at q k).history ((pair_at q j).history ++ (d ∷ [])) × Apart A B (pair_at q k) z

-- the search has come to code c of pair i
pub record Search (A B : Machine) (a b m i c : ℕ) (q : Queue) (label : ℕ → ℕ) : Type 0 where
  pub queue : IsQueue A B a b m q label
  pub made : i < m → (k : ℕ) → k < m → Earlier (pair_at q k).history ((pair_at q i).history ++ (c ∷ []))
  pub finished : (j : ℕ) → j < i → (d : ℕ) → Done A B m q j d
  pub tried : (d : ℕ) → d < c → Done A B m q i d
