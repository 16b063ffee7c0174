-- Where a rule fits, a rule of its level or a greater one applies. Levels all different: at most one rule applies to a request in a valuation. Levels all
-- equal: every rule that fits applies.
use mathlib.Core.Path.{◌≡◌, refl}
use mathlib.Core.Bool.{Bool, true, false}
use mathlib.Core.List.{List}
use Prim.Native.Nat.{ℕ, zero, suc, ◌+◌, ◌≤◌, ◌<◌}
use native.Mathlib.Omega.{arith}
use lib.Dec.{ltb}
use borrow.Author.Tests.{ltb-true}
use Rattle.automaton.proofs.Below.{and-true, any_below_at, greatest_below, greatest_below_law}
use Rattle.definitions.specs.Policy.{rules, rule, level}
use Rattle.definitions.specs.Situation.{fits, outranks, outranked, applies}
use Rattle.definitions.specs.Demands.{same_level, LevelsAreRight}
use Rattle.definitions.proofs.Steps.{applies-true}

module _ (p : List ℕ) where
  abbrev level_at : ℕ → ℕ
  level_at k = level p (rule p k)

  module _ (r v : ℕ) where
    -- a rule applies, of at least the level of rule i
    abbrev AppliesAbove : ℕ → Type 0
    AppliesAbove i = (k : ℕ) × (k < rules p) × (applies p (rule p k) r v ≡ true) × (level_at i ≤ level_at k)

    -- a rule that fits applies, or one of a greater level fits; no level is above the greatest, so this ends
    applies-above : (fuel i : ℕ) → greatest_below level_at (rules p) < level_at i + fuel → i < rules p → fits p (rule p i) r v ≡ true → AppliesAbove i
    applies-above zero i b l f = absurd (omega (arith, greatest_below_law level_at (rules p) i l))
    applies-above (suc fuel) i b l f = go (outranked p (rule p i) r v) refl (applies-above fuel)
      where
        go : (t : Bool) → outranked p (rule p i) r v ≡ t
            → ((j : ℕ) → greatest_below level_at (rules p) < level_at j + fuel → j < rules p → fits p (rule p j) r v ≡ true → AppliesAbove j) → AppliesAbove i
        go false e ih = (i, l, rw (f, e), omega arith)
        go true e ih =
            let (j, lj, above) = any_below_at (outranks p (rule p i) r v) (rules p) e in
            let both = and-true (ltb (level_at i) (level_at j)) (fits p (rule p j) r v) above in
            let greater = ltb-true (level_at i) (level_at j) both.0 in
            let (k, lk, a, most) = ih j (omega arith) lj both.1 in
            (k, lk, a, omega arith)

    -- neither of two rules that apply is of a greater level than the other
    applying-same-level : (i k : ℕ) → i < rules p → k < rules p
        → applies p (rule p i) r v ≡ true → applies p (rule p k) r v ≡ true → same_level p i k
    applying-same-level i k li lk ai ak =
        let first = (applies-true p (rule p i) r v).0 ai in
        let second = (applies-true p (rule p k) r v).0 ak in
        omega (arith, first.highest k lk second.fitting, second.highest i li first.fitting)

  fitting-applies : ((i k : ℕ) → i < rules p → k < rules p → same_level p i k) → (r v k : ℕ) → k < rules p
      → applies p (rule p k) r v ≡ fits p (rule p k) r v
  fitting-applies same r v k l = go (fits p (rule p k) r v) refl
    where
      go : (b : Bool) → fits p (rule p k) r v ≡ b → applies p (rule p k) r v ≡ b
      go true e = (applies-true p (rule p k) r v).1 (record { fitting = e; highest = λ i li f. omega (arith, same i k li l) })
      go false e = rw e

  pub levels_right : LevelsAreRight p
  levels_right = record {
    greatest = λ r v i l f. applies-above r v (suc (greatest_below level_at (rules p))) i (omega arith) l f;
    different = λ apart r v i k li lk ai ak. apart i k li lk (applying-same-level r v i k li lk ai ak);
    equal = fitting-applies;
  }
