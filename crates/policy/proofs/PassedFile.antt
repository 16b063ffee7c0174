-- What a row that has passed says of the numbers that it judges.
use mathlib.Core.Path.{◌≡◌}
use mathlib.Core.Bool.{true}
use mathlib.Core.List.{List}
use Prim.Native.Nat.{ℕ, ◌<◌, ◌≤◌}
use borrow.Author.Tests.{le-leb}
use Rattle.automaton.proofs.Below.{all_below_law}
use Rattle.definitions.specs.Policy.{fields, count, requests}
use Rattle.definitions.specs.Refusal.{file_refusal, count_in_range, counts_hold}
use Rattle.definitions.proofs.Tests.{both_true, within-true}
use Rattle.definitions.proofs.Accepted.{file_accepted, counts-true}
use Rattle.policy.specs.Sized.{Passed}

-- row 7
pub count_in_range_law : (p : List ℕ) → counts_hold p ≡ true → (f : ℕ) → f < fields p → (1 ≤ count p f) × (count p f ≤ 16)
count_in_range_law p e = (counts-true p e).0

-- all rows
pub passed : (p : List ℕ) → file_refusal p ≡ 0 → Passed p
passed p e =
    let file = file_accepted p e in
    record {
      sized = record {
        few_events = file.events_most;
        some_fields = file.fields_some;
        few_fields = file.fields_most;
        few_variables = file.variables_most;
        few_rules = file.rules_most;
        exact = file.exact;
      };
      counts = both_true
          (all_below_law (count_in_range p) (fields p) (λ f l. (within-true 1 (count p f) 16).1 (file.count_some f l, file.count_most f l)))
          (le-leb (requests p) 64 file.requests_most);
      few_requests = file.requests_most;
      few_valuations = file.valuations_most;
      two_decisions = file.decision_most;
    }
