-- A valuation as a loop puts it together from the values of its variables, the last variable first: each turn multiplies by a number of values and adds a value.
use mathlib.Core.Path.{◌≡◌, sym, ap}
use mathlib.Core.List.{List}
use Prim.Native.Nat.{ℕ, zero, suc, ◌+◌, ◌-◌, ◌*◌, ◌<◌, ◌≤◌}
use native.Mathlib.Nat.{mul-le-mul_right, zero-mul, add-zero, mul-one, mul_assoc, mul_comm, add-mul, le-mul_of_pos_right}
use native.Mathlib.Numerals.{add-one}
use native.Mathlib.Omega.{arith}
use Rattle.automaton.specs.Below.{fold_below}
use Rattle.definitions.specs.Policy.{variables}
use Rattle.definitions.specs.Valuation.{bound, values_of, worth, valuations, with_variable, valuation_of}
use Rattle.definitions.proofs.Products.{product_grows}
use Rattle.definitions.proofs.Valuations.{valuation-below}

module _ (p : List ℕ) where
  worth_grows : (i n : ℕ) → i ≤ n → worth p i ≤ worth p n
  worth_grows i n l = product_grows (values_of p) (λ k. omega arith) i n l

  pub bound_small : valuations p ≤ 64 → (j : ℕ) → j < variables p → bound p j < 64
  bound_small few j l =
      let one : 1 * values_of p j ≤ worth p j * values_of p j = mul-le-mul_right (values_of p j) (worth_grows 0 j (omega arith)) in
      let most : worth p (suc j) ≤ worth p (variables p) = worth_grows (suc j) (variables p) l in
      omega arith

  module _ (values : ℕ → ℕ) where
    -- the sum has the values of the variables from j on
    abbrev pub Summed : ℕ → ℕ → Type 0
    Summed j sum = fold_below j 0 (with_variable p values) + sum * worth p j ≡ valuation_of p values

    -- none is in it, where the variables from j on have the value 0
    pub summed-none : (j : ℕ) → fold_below j 0 (with_variable p values) ≡ valuation_of p values → Summed j 0
    summed-none j e = rw (zero-mul, add-zero) e

    pub summed-more : (j sum most y : ℕ) → 0 < j → Summed j sum → most ≡ bound p (j - 1) → y ≡ values (j - 1) → Summed (j - 1) (sum * (most + 1) + y)
    summed-more zero sum most y some h em ey = absurd (omega arith)
    summed-more (suc j) sum most y some h em ey =
        let last : suc j - 1 ≡ j = omega arith in
        let em' : most ≡ bound p j = rw last at em in
        let ey' : y ≡ values j = rw last at ey in
        let spread : sum * (worth p j * values_of p j) ≡ sum * (most + 1) * worth p j =
        rw (em', add-one (bound p j), mul_comm (worth p j) (values_of p j)) (sym (mul_assoc sum (values_of p j) (worth p j))) in
        rw (last, add-mul (sum * (most + 1)) y (worth p j)) (omega (arith, h, spread, ap (λ (z : ℕ). z * worth p j) ey'))

    pub summed-all : (j sum : ℕ) → j ≤ 0 → Summed j sum → sum ≡ valuation_of p values
    summed-all zero sum l h = omega (arith, h, mul-one sum)
    summed-all (suc j) sum l h = absurd (omega arith)

    module _ (few : valuations p ≤ 64) (within : (j : ℕ) → j < variables p → values j ≤ bound p j) where
      pub valuation-low : valuation_of p values < 64
      valuation-low = omega (arith, valuation-below p values within)

      pub summed-low : (j sum : ℕ) → Summed j sum → sum < 64
      summed-low j sum h =
          let more : sum ≤ sum * worth p j = le-mul_of_pos_right sum (worth_grows 0 j (omega arith)) in
          omega (arith, h, more, valuation-low)
