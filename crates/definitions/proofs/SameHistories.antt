-- Machines with the same histories have the same findings, comparisons and ways: what is right of one is right of the other.
use mathlib.Core.Path.{◌≡◌, sym, ◌∙◌, subst, subst₂, fun_ext}
use mathlib.Core.Bool.{Bool, true, false}
use mathlib.Core.Logic.{◌↔◌}
use mathlib.Core.List.{[], ◌∷◌, ◌++◌}
use mathlib.Core.Option.{Option, none}
use Prim.Native.Nat.{ℕ, ◌<◌}
use Rattle.automaton.specs.History.{History, Earliest}
use Rattle.automaton.specs.Machine.{Machine, SameHistories, in_one}
use Rattle.definitions.specs.Codes.{accept_code, reject_code}
use Rattle.definitions.specs.Telling.{to_telling, outcome_of}
use Rattle.definitions.specs.Verdict.{Findings}
use Rattle.definitions.specs.Demands.{Events, FindingIsRight, BlockingIsRight, FindingsAreRight, ComparisonIsRight, WayIsRight}

-- the properties of histories that findings are about, over what is possible instead of a machine
module _ (possible : History → Bool) (E : ℕ) where
  abbrev Conflicting : History → ℕ → Type 0
  Conflicting h r = (possible (h ++ (accept_code E r ∷ [])) ≡ true) × (possible (h ++ (reject_code E r ∷ [])) ≡ true)

  abbrev Unanswered : History → ℕ → Type 0
  Unanswered h r = (possible (h ++ (accept_code E r ∷ [])) ≡ false) × (possible (h ++ (reject_code E r ∷ [])) ≡ false)

  abbrev Missing : History → ℕ → Type 0
  Missing h r = (possible h ≡ true) × Unanswered h r

  abbrev Blocked : ℕ → History → Type 0
  Blocked Q h = (possible h ≡ true) × ((es : History) → Events E es → (r : ℕ) → r < Q → Unanswered (h ++ es) r)

module _ (m k : Machine) (same : SameHistories m k) (E Q : ℕ) (found : Findings) where
  pub findings_along : FindingsAreRight m E Q found → FindingsAreRight k E Q found
  findings_along right = record {
    conflict_right = subst (λ (f : History → Bool). FindingIsRight (Conflicting f E) Q found.conflict) (fun_ext same) right.conflict_right;
    missing_right = subst (λ (f : History → Bool). FindingIsRight (Missing f E) Q found.missing) (fun_ext same) right.missing_right;
    blocked_right = subst (λ (f : History → Bool). BlockingIsRight (Blocked f E Q) found.blocked) (fun_ext same) right.blocked_right;
  }

module _ (m m' k k' : Machine) (first : SameHistories m m') (second : SameHistories k k') (answer : Option History) where
  pub comparison_along : ComparisonIsRight m k answer → ComparisonIsRight m' k' answer
  comparison_along right = record {
    same = (λ e h. sym (first h) ∙ right.same.0 e h ∙ second h, λ all. right.same.1 (λ h. first h ∙ all h ∙ sym (second h)));
    differ = λ h e. subst₂ (λ (f g : History → Bool). Earliest (λ k. in_one (f k) (g k) ≡ true) h) (fun_ext first) (fun_ext second) (right.differ h e);
  }

-- the property that ways are about, over what is possible
abbrev Outcome : (History → Bool) → ℕ → ℕ → ℕ → History → Type 0
Outcome possible E r outcome h =
    (possible h ≡ true) × (outcome_of (to_telling (possible (h ++ (accept_code E r ∷ []))) (possible (h ++ (reject_code E r ∷ [])))) ≡ outcome)

module _ (m k : Machine) (same : SameHistories m k) (E r outcome : ℕ) (shown : Option History) where
  pub way_along : WayIsRight m E r outcome shown → WayIsRight k E r outcome shown
  way_along right = record {
    no_history = subst (λ (f : History → Bool). (shown ≡ none) ↔ ((h : History) → Outcome f E r outcome h → ⊥)) (fun_ext same) right.no_history;
    earliest = λ h e. subst (λ (f : History → Bool). Earliest (Outcome f E r outcome) h) (fun_ext same) (right.earliest h e);
  }
