-- The values of a request's fields, taken off from the last field on. And sets of rules by arrays of values: equal values give equal sets.
use mathlib.Core.Path.{◌≡◌, refl, sym, ap, ◌∙◌}
use mathlib.Core.List.{List}
use Prim.Native.Nat.{ℕ, zero, suc, ◌-◌, ◌/◌, ◌%◌, ◌<◌, ◌≤◌}
use native.Mathlib.Decide.{dec_lt}
use native.Mathlib.Omega.{arith}
use lib.ListN.{length, get_or, set}
use lib.Seq.{get_or-set_same, get_or-set_other}
use Rattle.automaton.proofs.Congruence.{all-below-same}
use Rattle.definitions.specs.Bytes.{bit}
use Rattle.definitions.specs.Policy.{fields, variables, rules, rule, count, mask, value}
use Rattle.definitions.proofs.Radix.{high_digit, digit-before, digit-last}
use Rattle.definitions.proofs.Requests.{value-below}
use Rattle.policy.specs.Sized.{Passed}
use Rattle.policy.proofs.PassedFile.{count_in_range_law}
use Rattle.rules.specs.Arrays.{Tabled}
use Rattle.rules.specs.RuleSets.{mask_admits, rule_admits, admitting, value_passes, test_passes_by, rule_enabled, enabling}
use Rattle.rules.proofs.RuleSets.{passing-same}

-- the fields from f on have their entries, and the values of those before f are the digits of `rest`
pub record Taken (p : List ℕ) (r : ℕ) (values : List ℕ) (rest f : ℕ) : Type 0 where
  pub digits : (j : ℕ) → j < f → high_digit (count p) f rest j ≡ value p r j
  pub entry : (j : ℕ) → f ≤ j → j < fields p → get_or values j 0 ≡ value p r j

module _ (p : List ℕ) (r : ℕ) where
  pub taken_begun : (values : List ℕ) (f : ℕ) → f ≡ fields p → Taken p r values r f
  taken_begun values f e = rw e (record { digits = λ j b. refl; entry = λ j a b. absurd (omega arith) })

  pub taken_turn : (values : List ℕ) (rest f c : ℕ) → Taken p r values rest f → 0 < f → f ≤ fields p → fields p ≤ length values → c ≡ count p (f - 1)
      → Taken p r (set values (f - 1) (rest % c)) (rest / c) (f - 1)
  taken_turn values rest zero c now some within room e = absurd (omega arith)
  taken_turn values rest (suc f) c now some within room e =
      let last : suc f - 1 ≡ f = omega arith in
      let is : c ≡ count p f = rw last at e in
      rw (last, is) (record {
        digits = λ j b. sym (digit-before (count p) f rest j b) ∙ now.digits j (omega arith);
        entry = λ j a b. go j a b (dec_lt f j);
      })
    where
      go : (j : ℕ) → f ≤ j → j < fields p → Dec (f < j) → get_or (set values f (rest % count p f)) j 0 ≡ value p r j
      go j a b (yes c) = get_or-set_other values f j (rest % count p f) 0 (λ q. omega arith) ∙ now.entry j c b
      go j a b (no c) =
          let q : j ≡ f = omega arith in
          rw q (get_or-set_same values f (rest % count p f) 0 (omega arith)
          ∙ sym (digit-last (count p) f rest) ∙ now.digits f (omega arith))

  pub taken_done : (values : List ℕ) (rest f : ℕ) → Taken p r values rest f → f ≤ 0 → fields p ≤ length values → Tabled (fields p) (value p r) values
  taken_done values rest f now none room = record { room = room; entry = λ j b. now.entry j (omega arith) b }

-- the values number bits of a word
pub value_small : (p : List ℕ) → Passed p → (r f : ℕ) → f < fields p → value p r f < 64
value_small p h r f l =
    let n = count_in_range_law p h.counts f l in
    let m = value-below p (λ g k. (count_in_range_law p h.counts g k).0) r f l in omega arith

module _ (p : List ℕ) (x y : ℕ → ℕ) where
  pub admitting-same : ((f : ℕ) → f < fields p → x f ≡ y f) → admitting p x ≡ admitting p y
  admitting-same same =
      passing-same (rule_admits p x) (rule_admits p y) (rules p)
      (λ k l. all-below-same (mask_admits (rule p k) x) (mask_admits (rule p k) y) (fields p) (λ f m. ap (bit (mask (rule p k) f)) (same f m)))

  pub enabling-same : ((j : ℕ) → j < variables p → x j ≡ y j) → enabling p x ≡ enabling p y
  enabling-same same =
      passing-same (rule_enabled p x) (rule_enabled p y) (rules p)
      (λ k l. all-below-same (test_passes_by p (rule p k) x) (test_passes_by p (rule p k) y) (variables p) (λ j m. ap (value_passes p (rule p k) j) (same j m)))
