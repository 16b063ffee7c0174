-- Valuations as numbers in mixed radix, variable by variable: taking off one after another, and changed ones within their bounds.
use mathlib.Core.Path.{◌≡◌}
use mathlib.Core.List.{List}
use Prim.Native.Nat.{ℕ, ◌+◌, ◌/◌, ◌%◌, ◌<◌, ◌≤◌}
use native.Mathlib.Nat.{div-div-eq-div-mul}
use native.Mathlib.Numerals.{add-one}
use Rattle.automaton.proofs.Congruence.{fold_below-same}
use Rattle.definitions.specs.Policy.{variables}
use Rattle.definitions.specs.Valuation.{bound, values_of, worth, with_variable, variable_in}
use Rattle.policy.specs.Sized.{Passed}
use Rattle.policy.proofs.ValuationSums.{valuation-low}
use Rattle.definitions.proofs.Valuations.{changed-bound, variable_bound}
use Rattle.rules.specs.Arrays.{Tabled}
use Rattle.rules.specs.Changes.{Valued, changed_by, carried_by}

module _ (p : List ℕ) where
  -- ---- the variables before j have been taken off
  pub rest_more : (v j rest values : ℕ) → rest ≡ v / worth p j → values ≡ values_of p j → rest / values ≡ v / worth p (j + 1)
  rest_more v j rest values er ev = rw (er, ev, add-one) (div-div-eq-div-mul v (worth p j) (values_of p j))

  pub variable_is : (v j rest values : ℕ) → rest ≡ v / worth p j → values ≡ values_of p j → rest % values ≡ variable_in p v j
  variable_is v j rest values er ev = rw (er, ev)

  -- an array of the variables of v
  pub valued : (v : ℕ) (values : List ℕ) → Tabled (variables p) (variable_in p v) values → Valued p values
  valued v values t = record { room = t.room; most = λ j l. rw (t.entry j l) (variable_bound p v j) }

  -- ---- the changed variables stay within their bounds
  pub changed-within : (changes x : ℕ → ℕ) → ((j : ℕ) → j < variables p → x j ≤ bound p j) → (j : ℕ) → j < variables p → changed_by p changes x j ≤ bound p j
  changed-within changes x fits j l = changed-bound (changes j) (bound p j) (x j) (fits j l)

  pub carried_low : (changes x : ℕ → ℕ) → Passed p → ((j : ℕ) → j < variables p → x j ≤ bound p j) → carried_by p changes x < 64
  carried_low changes x passed fits = valuation-low p (changed_by p changes x) passed.few_valuations (changed-within changes x fits)

  pub carried_same : (f g x y : ℕ → ℕ) → ((j : ℕ) → j < variables p → f j ≡ g j) → ((j : ℕ) → j < variables p → x j ≡ y j) → carried_by p f x ≡ carried_by p g y
  carried_same f g x y fs xs =
      fold_below-same (with_variable p (changed_by p f x)) (with_variable p (changed_by p g y)) 0 (variables p) (λ j u l. rw (fs j l, xs j l))
