-- Valuations: their numbers and the lists of their variables' values correspond one to one. At the start each variable has its starting value, or its bound
-- where that is less, and carrying out changes gives each variable its changed value. A variable's bound is the greatest number that a rule tests it with.
use mathlib.Core.Path.{◌≡◌, refl}
use mathlib.Core.Bool.{Bool, cond, true, false}
use mathlib.Core.List.{List}
use Prim.Native.Nat.{ℕ, zero, suc, ◌≤◌, ◌<◌}
use native.Mathlib.Omega.{arith}
use lib.Dec.{ltb}
use borrow.Author.Tests.{ltb-true}
use Rattle.automaton.proofs.Below.{greatest_below_law, greatest-below-least}
use Rattle.definitions.specs.Policy.{variables, rules, rule, ge, lt}
use Rattle.definitions.specs.Valuation.{tested, bound, values_of, valuations, valuation_of, initial_value, start_valuation, variable_in, changed, changed_in, carried_out}
use Rattle.definitions.proofs.Radix.{product-some, low_below, low_digit_law, low-digit-below, low_unique}

-- a change keeps a variable at or below its bound
pub changed-bound : (change most x : ℕ) → x ≤ most → changed change most x ≤ most
changed-bound zero most x l = l
changed-bound (suc zero) most x l = go (ltb x most) refl
  where
    go : (b : Bool) → ltb x most ≡ b → cond b (suc x) x ≤ most
    go true e = ltb-true x most e
    go false e = l
changed-bound (suc (suc n)) most x l = omega arith

-- ---- bounds
module _ (p : List ℕ) (j : ℕ) where
  abbrev tested_by : ℕ → ℕ
  tested_by k = tested p (rule p k) j

  -- no rule tests a variable with a number above its bound
  pub tested-bound : (k : ℕ) → k < rules p → (ge p (rule p k) j ≤ bound p j) × (lt p (rule p k) j ≤ bound p j)
  tested-bound k l = let most : tested_by k ≤ bound p j = greatest_below_law tested_by (rules p) k l in (omega arith, omega arith)

  -- and the bound is the least such number
  pub bound-least : (most : ℕ) → ((k : ℕ) → k < rules p → (ge p (rule p k) j ≤ most) × (lt p (rule p k) j ≤ most)) → bound p j ≤ most
  bound-least most h = greatest-below-least tested_by (rules p) most (λ k l. omega (arith, h k l))

-- ---- values of variables
module _ (p : List ℕ) where
  pub variable_bound : (v j : ℕ) → variable_in p v j ≤ bound p j
  variable_bound v j = omega (arith, low-digit-below (values_of p) v j (omega arith))

  pub some-valuation : 1 ≤ valuations p
  some-valuation = product-some (values_of p) (variables p) (λ j l. omega arith)

  -- valuations with the same values are the same
  pub valuations-same : (u v : ℕ) → u < valuations p → v < valuations p → ((j : ℕ) → j < variables p → variable_in p u j ≡ variable_in p v j) → u ≡ v
  valuations-same u v lu lv same = low_unique (values_of p) (variables p) (λ j l. omega arith) u v lu lv same

  -- any values up to the bounds are those of a valuation
  module _ (values : ℕ → ℕ) (within : (j : ℕ) → j < variables p → values j ≤ bound p j) where
    values-below : (j : ℕ) → j < variables p → values j < values_of p j
    values-below j l = omega (arith, within j l)

    pub valuation-below : valuation_of p values < valuations p
    valuation-below = low_below (values_of p) (variables p) values values-below

    pub variable-of : (j : ℕ) → j < variables p → variable_in p (valuation_of p values) j ≡ values j
    variable-of = low_digit_law (values_of p) (variables p) values values-below

  -- ---- the start
  pub initial_bound : (j : ℕ) → j < variables p → initial_value p j ≤ bound p j
  initial_bound j l = omega arith

  pub start-valuation-below : start_valuation p < valuations p
  start-valuation-below = valuation-below (initial_value p) initial_bound

  pub variable_start : (j : ℕ) → j < variables p → variable_in p (start_valuation p) j ≡ initial_value p j
  variable_start = variable-of (initial_value p) initial_bound

  -- ---- carrying out changes
  module _ (changes : ℕ → ℕ) (v : ℕ) where
    changed-within : (j : ℕ) → j < variables p → changed_in p changes v j ≤ bound p j
    changed-within j l = changed-bound (changes j) (bound p j) (variable_in p v j) (variable_bound v j)

    pub carried-out-below : carried_out p changes v < valuations p
    carried-out-below = valuation-below (changed_in p changes v) changed-within

    -- each variable has its changed value
    pub variable-carried-out : (j : ℕ) → j < variables p → variable_in p (carried_out p changes v) j ≡ changed_in p changes v j
    variable-carried-out = variable-of (changed_in p changes v) changed-within
