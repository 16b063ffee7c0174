-- The first of the states explored that passes a test, where the test stands for a property of histories: its history is the earliest with the property.
use mathlib.Core.Path.{◌≡◌, refl, subst}
use mathlib.Core.Bool.{Bool}
use mathlib.Core.List.{List}
use mathlib.Core.Option.{Option, none, some}
use Prim.Native.Nat.{ℕ, ◌≤◌, ◌<◌}
use native.Mathlib.Omega.{arith}
use lib.ListN.{length}
use Rattle.automaton.specs.History.{History, Earliest}
use Rattle.automaton.specs.Machine.{Machine}
use Rattle.automaton.specs.Explore.{Reached, first_that}
use Rattle.automaton.proofs.Earliest.{Explored, Passes, first-earliest, first-none}
use Rattle.definitions.specs.Verdict.{history_of}

-- none where no history has the property, and else the earliest, which has fewer than n codes
pub record IsFirstHistory (After : History → Type 0) (n : ℕ) (found : Option History) : Type 0 where
  pub no_history : found ≡ none → (h : History) → After h → ⊥
  pub earliest : (h : History) → found ≡ some h → Earliest After h
  pub short : (h : History) → found ≡ some h → length h < n

module _ (m : Machine) (found : List Reached) (explored : Explored m found) (n : ℕ) (few : length found ≤ n) (test : ℕ → Bool) (After : History → Type 0)
    (to : (h : History) → After h → Passes m test h) (from : (h : History) → Passes m test h → After h) where
  none_first : (o : Option Reached) → first_that test found ≡ o → history_of o ≡ none → (h : History) → After h → ⊥
  none_first none e q h a = first-none test m found explored e h (to h a)
  none_first (some u) e q h a = let z : ◌≡◌ {A = ℕ} 0 1 = cc in omega arith

  one-first : (o : Option Reached) → first_that test found ≡ o → (h : History) → history_of o ≡ some h → Earliest After h × (length h < n)
  one-first none e h q = let z : ◌≡◌ {A = ℕ} 0 1 = cc in absurd (omega arith)
  one-first (some u) e h q =
      let first = first-earliest test m found explored u e in
      let earliest : Earliest After u.history = (from u.history first.earliest.0, λ k a. first.earliest.1 k (to k a)) in
      let same : u.history ≡ h = cc in
      (subst (Earliest After) same earliest, subst (λ (k : History). length k < n) same (omega (arith, first.short)))

  pub first-history : IsFirstHistory After n (history_of (first_that test found))
  first-history =
      let o = first_that test found in
      record { no_history = none_first o refl; earliest = λ h q. (one-first o refl h q).0; short = λ h q. (one-first o refl h q).1 }
