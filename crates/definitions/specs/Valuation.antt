-- Valuations: "A valuation gives each variable a value from 0 to its bound." A valuation is a number in mixed radix, the first variable lowest.
use Rattle.std.specs.Prelude.{cond, List, ℕ, zero, suc, ◌+◌, ◌*◌, ◌/◌, ◌%◌, max, min, ltb}
use Rattle.automaton.specs.Below.{fold_below}
use Rattle.definitions.specs.Bytes.{product}
use Rattle.definitions.specs.Policy.{variables, rules, starting_value, rule, ge, lt, change, event_change}

-- the greater number of a rule's tests of variable j, 0 if there is none
abbrev pub tested : List ℕ → List ℕ → ℕ → ℕ
tested p q j = max (ge p q j) (lt p q j)

-- "A variable's bound is the greatest ge or lt that any rule tests it with, 0 if none"
abbrev pub greatest_tested : List ℕ → ℕ → ℕ → ℕ → ℕ
greatest_tested p j k b = max b (tested p (rule p k) j)

abbrev pub bound : List ℕ → ℕ → ℕ
bound p j = fold_below (rules p) 0 (greatest_tested p j)

-- how many values a variable can have, and what one of variable j is worth in a valuation's number
abbrev pub values_of : List ℕ → ℕ → ℕ
values_of p j = suc (bound p j)

abbrev pub worth : List ℕ → ℕ → ℕ
worth p j = product j (values_of p)

-- how many valuations there are
abbrev pub valuations : List ℕ → ℕ
valuations p = worth p (variables p)

-- the valuation in which each variable j has the value values j
abbrev pub with_variable : List ℕ → (ℕ → ℕ) → ℕ → ℕ → ℕ
with_variable p values j v = v + values j * worth p j

abbrev pub valuation_of : List ℕ → (ℕ → ℕ) → ℕ
valuation_of p values = fold_below (variables p) 0 (with_variable p values)

-- the value of variable j at the start: "A start above the variable's bound counts as the bound"
abbrev pub initial_value : List ℕ → ℕ → ℕ
initial_value p j = min (starting_value p j) (bound p j)

-- the start: in version 1 it "has all zeros"
abbrev pub start_valuation : List ℕ → ℕ
start_valuation p = valuation_of p (initial_value p)

-- the value of variable j in valuation v
abbrev pub variable_in : List ℕ → ℕ → ℕ → ℕ
variable_in p v j = v / worth p j % values_of p j

-- "Change is 0 none, 1 add one, 2 set to zero"; "Adding one at the bound changes nothing"
abbrev pub changed : ℕ → ℕ → ℕ → ℕ
changed zero most x = x
changed (suc zero) most x = cond (ltb x most) (suc x) x
changed (suc (suc n)) most x = 0

-- the valuation in which each variable of v has been changed
abbrev pub changed_in : List ℕ → (ℕ → ℕ) → ℕ → ℕ → ℕ
changed_in p changes v j = changed (changes j) (bound p j) (variable_in p v j)

abbrev pub carried_out : List ℕ → (ℕ → ℕ) → ℕ → ℕ
carried_out p changes v = valuation_of p (changed_in p changes v)

-- the valuation that carrying out rule k leads to from v
abbrev pub by_rule : List ℕ → ℕ → ℕ → ℕ
by_rule p k v = carried_out p (change p (rule p k)) v

-- the valuation that event e leads to from v
abbrev pub by_event : List ℕ → ℕ → ℕ → ℕ
by_event p e v = carried_out p (event_change p e) v
