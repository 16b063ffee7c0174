-- The requests that are sought at a state, and the finding.
use Rattle.std.specs.Prelude.{◌≡◌, Bool, true, false, not, Option, MatchOption, List, ℕ, ◌<◌}
use Rattle.std.proofs.Math.Option as Maybe
use Rattle.automaton.specs.Below.{lowest_below}
use Rattle.definitions.specs.Bytes.{byte}
use Rattle.definitions.specs.Book.{requests}
use Rattle.definitions.specs.Telling.{Telling, none, both, accept, reject, in_conflict, unanswered, answered, some_request}
use Rattle.definitions.specs.Verdict.{Found, finding}
use Rattle.findings.specs.declared.requests.Sought.{Sought}
use Rattle.findings.specs.declared.requests.Sought.TheVariants.{Conflict, Missing, Answer}

-- what a state tells of a request is "none", or "both"
abbrev pub is_none : Telling → Bool
is_none none = true
is_none accept = false
is_none reject = false
is_none both = false

abbrev pub is_both : Telling → Bool
is_both none = false
is_both accept = false
is_both reject = false
is_both both = true

-- a request is sought by what a state tells of it
abbrev pub sought_by : Sought → Telling → Bool
sought_by Conflict told = is_both told
sought_by Missing told = is_none told
sought_by Answer told = not (is_none told)

-- request r is sought at state s: it is in conflict, unanswered or answered
abbrev pub test_of : Sought → List ℕ → ℕ → ℕ → Bool
test_of Conflict = in_conflict
test_of Missing = unanswered
test_of Answer = answered

-- some request is, at the state at place k
abbrev pub some_at : Sought → List ℕ → List ℕ → ℕ → Bool
some_at sought b order k = some_request (test_of sought) b (byte order k)

-- the lowest number below n that passes, or none
abbrev pub IsLowest : ℕ → (ℕ → Bool) → Option ℕ → Type 0
IsLowest n f found = MatchOption found (lowest_below n f ≡ n) (λ k. (k < n) × (k ≡ lowest_below n f))

-- place k is the first of n that has a state with a request that is sought, and r its lowest such request
pub record IsHit (sought : Sought) (b order : List ℕ) (n k r : ℕ) : Type 0 where
  pub within : k < n
  pub first : k ≡ lowest_below n (some_at sought b order)
  pub lowest : r ≡ lowest_below (requests b) (test_of sought b (byte order k))

-- the finding for what is sought
unfoldable pub sought_finding : Sought → List ℕ → Maybe.Option Found
sought_finding sought b = finding (test_of sought) b
