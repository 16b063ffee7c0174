-- How far the search over pairs has come, read off the fields of its queue.
use Rattle.std.specs.Prelude.{◌≡◌, List, ℕ, ◌+◌, ◌<◌, length, Option, Some, MatchOption}
use Rattle.comparelabels.specs.LabelBytes.{begun_labels}
use Rattle.comparepairs.specs.PairSearch.{PairSearch, Spotted, left_at, right_at}
use Rattle.comparepairs.specs.declared.PairQueue.{PairQueue}

-- the pair of the two starts is queued, and base is the number of no state
pub record Begun (base : ℕ) (q : PairQueue) : Type 0 where
  pub one_pair : q.pairs ≡ 1
  pub left : left_at (length q.label.now) q.queue.now 0 ≡ 1
  pub right : right_at (length q.label.now) q.queue.now 0 ≡ 1
  pub labels : q.label.now ≡ begun_labels base (length q.label.now)

-- the search has come to code c of pair i
abbrev pub SearchAt : (b d : List ℕ) (i c : ℕ) → PairQueue → Type 0
SearchAt b d i c q = PairSearch b d q.pairs i c q.queue.now q.label.now

-- the codes of pair i are tried
pub record Outcome (b d : List ℕ) (i : ℕ) (code : Option ℕ) (q : PairQueue) : Type 0 where
  pub pair : i < q.pairs
  pub shows : MatchOption code (SearchAt b d (i + 1) 0 q) (λ c. Spotted b d q.queue.now (Some (record { place = i; code = c })))
