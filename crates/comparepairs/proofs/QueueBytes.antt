-- The queue in bytes: pair k has its parent and its code at place k, its states at place size + k.
use mathlib.Core.Path.{◌≡◌, ◌∙◌}
use mathlib.Core.List.{List}
use Prim.Native.Nat.{ℕ, ◌+◌, ◌*◌, ◌≤◌, ◌<◌}
use native.Mathlib.Omega.{arith}
use lib.ListN.{length, set}
use lib.Seq.{get_or-set_other}
use Rattle.automaton.proofs.Parents.{Stored}
use Rattle.automaton.proofs.PairQueue.{Added}
use Rattle.search.specs.Trail.{first_at, second_at, placed}
use Rattle.search.proofs.Trails.{placed_first, placed-second, placed-length}
use Rattle.comparepairs.specs.PairSearch.{left_at, right_at, queue_of}

-- a store at place m leaves each place above as it was
module _ (l : List ℕ) (m x y k : ℕ) (above : m < k) where
  first_above : first_at (placed l m x y) k ≡ first_at l k
  first_above = get_or-set_other (set l (2 * m) x) (2 * m + 1) (2 * k) y 0 (omega arith) ∙ get_or-set_other l (2 * m) (2 * k) x 0 (omega arith)

  second_above : second_at (placed l m x y) k ≡ second_at l k
  second_above = get_or-set_other (set l (2 * m) x) (2 * m + 1) (2 * k + 1) y 0 (omega arith) ∙ get_or-set_other l (2 * m) (2 * k + 1) x 0 (omega arith)

-- the first pair
module _ (size : ℕ) (queue : List ℕ) (room : 4 * size ≤ length queue) (some : 0 < size) where
  pub left-put : (x y : ℕ) → left_at size (placed queue size x y) 0 ≡ x
  left-put x y = let e : size + 0 ≡ size = omega arith in rw e (placed_first queue size x y (omega arith)).last

  pub right-put : (x y : ℕ) → right_at size (placed queue size x y) 0 ≡ y
  right-put x y = let e : size + 0 ≡ size = omega arith in rw e (placed-second queue size x y (omega arith)).last

module _ (size : ℕ) (queue : List ℕ) (room : 4 * size ≤ length queue) where
  -- pair m is queued
  pub pair_added : (m i c x y : ℕ) → m < size → Added m i c x y (queue_of size queue) (queue_of size (placed (placed queue m i c) (size + m) x y))
  pair_added m i c x y few = record {
    left = record { same = λ k l. states.same (size + k) (omega arith) ∙ first_above queue m i c (size + k) (omega arith); last = states.last };
    right = record { same = λ k l. states'.same (size + k) (omega arith) ∙ second_above queue m i c (size + k) (omega arith); last = states'.last };
    parent = record { same = λ k l. states.same k (omega arith) ∙ trail.same k l; last = states.same m (omega arith) ∙ trail.last };
    code = record { same = λ k l. states'.same k (omega arith) ∙ trail'.same k l; last = states'.same m (omega arith) ∙ trail'.last };
  }
    where
      long : 2 * (size + m) + 1 < length (placed queue m i c)
      long = rw placed-length (omega arith)

      states : Stored (size + m) x (first_at (placed queue m i c)) (first_at (placed (placed queue m i c) (size + m) x y))
      states = placed_first (placed queue m i c) (size + m) x y long

      states' : Stored (size + m) y (second_at (placed queue m i c)) (second_at (placed (placed queue m i c) (size + m) x y))
      states' = placed-second (placed queue m i c) (size + m) x y long

      trail : Stored m i (first_at queue) (first_at (placed queue m i c))
      trail = placed_first queue m i c (omega arith)

      trail' : Stored m c (second_at queue) (second_at (placed queue m i c))
      trail' = placed-second queue m i c (omega arith)
