-- Sets of rules, by the values of a request's fields or of the variables. A set of rules is a number in which bit k says that rule k is in it.
use Rattle.std.specs.Prelude.{Bool, cond, ◌&&◌, List, ℕ, leb}
use Rattle.automaton.specs.Below.{all_below, fold_below}
use Rattle.definitions.specs.Bytes.{bit}
use Rattle.definitions.specs.Policy.{fields, variables, rules, rule, mask, ge, lt, value}
use Rattle.definitions.specs.Situation.{is_below, empty_set, insert}

-- the numbers below n that pass a test
abbrev pub with_passing : (ℕ → Bool) → ℕ → ℕ → ℕ
with_passing f k set = cond (f k) (insert k set) set

abbrev pub passing : ℕ → (ℕ → Bool) → ℕ
passing n f = fold_below n empty_set (with_passing f)

-- ---- the masks of rule q admit the values x of the fields. At the values of request r this is lets_through
abbrev pub mask_admits : List ℕ → (ℕ → ℕ) → ℕ → Bool
mask_admits q x f = bit (mask q f) (x f)

abbrev pub admits : List ℕ → List ℕ → (ℕ → ℕ) → Bool
admits p q x = all_below (fields p) (mask_admits q x)

abbrev pub rule_admits : List ℕ → (ℕ → ℕ) → ℕ → Bool
rule_admits p x k = admits p (rule p k) x

abbrev pub admitting : List ℕ → (ℕ → ℕ) → ℕ
admitting p x = passing (rules p) (rule_admits p x)

-- the rules that match request r: their masks admit its values
abbrev pub matching : List ℕ → ℕ → ℕ
matching p r = admitting p (value p r)

-- ---- the tests of rule q are true of the values x of the variables. At the values of valuation v this is enabled

-- those of variable j are true of its value x
abbrev pub value_passes : List ℕ → List ℕ → ℕ → ℕ → Bool
value_passes p q j x = leb (ge p q j) x && is_below x (lt p q j)

abbrev pub test_passes_by : List ℕ → List ℕ → (ℕ → ℕ) → ℕ → Bool
test_passes_by p q x j = value_passes p q j (x j)

abbrev pub enabled_by : List ℕ → List ℕ → (ℕ → ℕ) → Bool
enabled_by p q x = all_below (variables p) (test_passes_by p q x)

abbrev pub rule_enabled : List ℕ → (ℕ → ℕ) → ℕ → Bool
rule_enabled p x k = enabled_by p (rule p k) x

abbrev pub enabling : List ℕ → (ℕ → ℕ) → ℕ
enabling p x = passing (rules p) (rule_enabled p x)
