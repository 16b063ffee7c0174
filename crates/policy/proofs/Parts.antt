-- Parts of the file: where the record of a rule lies in the table, and the records of the events after the last.
use mathlib.Core.Path.{◌≡◌, ap}
use mathlib.Core.List.{List}
use Prim.Native.Nat.{ℕ, ◌+◌, ◌-◌, ◌*◌, ◌<◌}
use native.Mathlib.Omega.{arith}
use lib.ListN.{length, take, drop, length-drop}
use Rattle.automaton.proofs.Loops.{part_is-drop, row_within}
use Rattle.definitions.specs.Policy.{events, variables, rules, rule_size, rule}
use Rattle.policy.specs.Sized.{TableOf, RuleOf, ChangesOf}

-- rule k as the code hands it on, where size is the record's size
module _ (p t : List ℕ) (size k : ℕ) (h : TableOf p t) (e : size ≡ rule_size p) where
  table-length : length t ≡ rules p * rule_size p + events p * variables p
  table-length = rw (h.table, length-drop) (let e = h.sized.exact in omega arith)

  pub rule-is : take (length t - k * size) (drop (k * size) t) ≡ rule p k
  rule-is = rw (part_is-drop, e) (ap (drop (k * rule_size p)) h.table)

  pub rule_part : k < rules p → RuleOf p (take (length t - k * size) (drop (k * size) t))
  rule_part l = record {
    sized = h.sized;
    whole = rw (part_is-drop, length-drop, e, table-length) (let m = row_within k (rules p) (rule_size p) l in omega arith);
  }

module _ (p t : List ℕ) (h : ChangesOf p t) where
  pub changes-length : length t ≡ events p * variables p
  changes-length = rw (h.changes, length-drop, length-drop) (let e = h.sized.exact in omega arith)

  -- change j of event e
  pub change-within : (e j : ℕ) → e < events p → j < variables p → e * variables p + j < length t
  change-within e j l m = rw changes-length (let k = row_within e (events p) (variables p) l in omega arith)
