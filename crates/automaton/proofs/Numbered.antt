-- States numbered by their earliest histories: each of the states 1 to n has an earliest history that leads to it, and these come in the order of the
-- numbers. So of two states the one with the earlier history has the smaller number.
use mathlib.Core.Path.{◌≡◌, sym, subst₂}
use mathlib.Core.Logic.{◌↔◌}
use Prim.Native.Nat.{ℕ, ◌≤◌, ◌<◌}
use Rattle.automaton.specs.History.{History, Earlier, Earliest}
use Rattle.automaton.proofs.Order.{earlier_index, earliest_unique}

pub record Numbered (leads : History → ℕ) (n : ℕ) : Type 0 where
  pub history : ℕ → History
  pub earliest : (s : ℕ) → 1 ≤ s → s ≤ n → Earliest (λ h. leads h ≡ s) (history s)
  pub in_order : (s t : ℕ) → 1 ≤ s → s < t → t ≤ n → Earlier (history s) (history t)

module _ (leads : History → ℕ) (n : ℕ) (states : Numbered leads n) where
  is-history : (s : ℕ) (g : History) → 1 ≤ s → s ≤ n → Earliest (λ h. leads h ≡ s) g → g ≡ states.history s
  is-history s g some most e = earliest_unique (λ h. leads h ≡ s) g (states.history s) e (states.earliest s some most)

  pub smaller_is_earlier : (s t : ℕ) (g h : History) → (1 ≤ s) × (s ≤ n) → (1 ≤ t) × (t ≤ n)
      → Earliest (λ k. leads k ≡ s) g → Earliest (λ k. leads k ≡ t) h → (s < t) ↔ Earlier g h
  smaller_is_earlier s t g h ls lt eg eh =
      let first = is-history s g ls.0 ls.1 eg in
      let second = is-history t h lt.0 lt.1 eh in (
        λ l. subst₂ Earlier (sym first) (sym second) (states.in_order s t ls.0 l lt.1),
        λ l. earlier_index states.history s t (λ k. states.in_order t s lt.0 k ls.1) (subst₂ Earlier first second l),
      )
