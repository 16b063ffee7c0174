-- Labels in bytes: number u has the label at place u. State x of the first book has the number x, state y of the second base + y; 0 and base are no state.
use Rattle.std.specs.Prelude.{◌≡◌, cond, List, map, ℕ, ◌+◌, ◌≤◌, ◌<◌, eqb, length, get_or, set}
use Rattle.automaton.specs.Below.{list_below}

abbrev pub label_at : List ℕ → ℕ → ℕ
label_at label u = get_or label u 0

-- the number that is its own label
abbrev pub itself : ℕ → ℕ
itself u = u

-- each number has its own label, but 0 has that of base, and the second start that of the first
abbrev pub begun_labels : ℕ → ℕ → List ℕ
begun_labels base size = set (set (list_below size itself) 0 base) (base + 1) 1

-- a label where the label `from` becomes `to`
abbrev pub moved : ℕ → ℕ → ℕ → ℕ
moved from to x = cond (eqb x from) to x

-- the labels of u and v made one
abbrev pub merged : List ℕ → ℕ → ℕ → List ℕ
merged label u v = map (moved (label_at label v) (label_at label u)) label

-- a label from base on is its own number's, and no other number has it, but for 0, which has the label base
pub record OwnFrom (base : ℕ) (label : List ℕ) : Type 0 where
  pub zero : label_at label 0 ≡ base
  pub next : label_at label base ≡ base
  pub own : (u : ℕ) → 0 < u → u < length label → base ≤ label_at label u → label_at label u ≡ u
