-- What the functions that read inside the file rest on: the file has passed rows 2 to 6, or all, and a part that is handed on is what it is taken for.
use Rattle.std.specs.Prelude.{◌≡◌, true, List, ℕ, ◌<◌, ◌≤◌, length}
use Rattle.definitions.specs.Policy.{events, fields, variables, rules, requests, rule_size, rule_table, rule, decision, exact_length}
use Rattle.definitions.specs.Valuation.{valuations}
use Rattle.definitions.specs.Refusal.{counts_hold}

pub record Sized (p : List ℕ) : Type 0 where
  pub few_events : events p ≤ 8
  pub some_fields : 1 ≤ fields p
  pub few_fields : fields p ≤ 4
  pub few_variables : variables p ≤ 4
  pub few_rules : rules p ≤ 32
  pub exact : length p ≡ exact_length p

-- t is the table of rules, and what follows it
pub record TableOf (p t : List ℕ) : Type 0 where
  pub sized : Sized p
  pub table : t ≡ rule_table p

-- q begins with the record of a rule
pub record RuleOf (p q : List ℕ) : Type 0 where
  pub sized : Sized p
  pub whole : rule_size p ≤ length q

-- t is what follows the last rule: the records of the events
pub record ChangesOf (p t : List ℕ) : Type 0 where
  pub sized : Sized p
  pub changes : t ≡ rule p (rules p)

-- no row before row 11 refuses the file
pub record Passed (p : List ℕ) : Type 0 where
  pub sized : Sized p
  pub counts : counts_hold p ≡ true
  pub few_requests : requests p ≤ 64
  pub few_valuations : valuations p ≤ 64
  pub two_decisions : (k : ℕ) → k < rules p → decision p (rule p k) ≤ 1
