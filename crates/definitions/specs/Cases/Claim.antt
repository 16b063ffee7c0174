-- A claim: an equation between what a definition gives and what it should give, with a test that computes whether it holds.
use Rattle.std.specs.Prelude.{◌≡◌, Bool, true, false, ◌&&◌, List, [], ◌∷◌, ℕ, eqb}
use Rattle.std.specs.Bool.{beq}
use Rattle.std.proofs.Math.Option.{Option, none, some}
use Rattle.automaton.specs.Below.{same_list}
use Rattle.automaton.specs.History.{History}
use Rattle.definitions.specs.Answer.{Answer, refused, given}
use Rattle.definitions.specs.Verdict.{Found, Findings}
use Rattle.definitions.specs.Telling.{Telling, outcome_of}

pub data Claim : Type 0 where
  number : ℕ → ℕ → Claim
  says : Bool → Bool → Claim
  bytes : List ℕ → List ℕ → Claim
  rows : List (List ℕ) → List (List ℕ) → Claim
  found : Findings → Findings → Claim
  history : Option History → Option History → Claim
  builds : Answer ℕ → Answer ℕ → Claim
  finds : Answer Findings → Answer Findings → Claim
  compares : Answer (Option History) → Answer (Option History) → Claim
  tells : Answer Telling → Answer Telling → Claim

-- what a claim says
abbrev pub Holds : Claim → Type 0
Holds (number x y) = x ≡ y
Holds (says x y) = x ≡ y
Holds (bytes x y) = x ≡ y
Holds (rows x y) = x ≡ y
Holds (found x y) = x ≡ y
Holds (history x y) = x ≡ y
Holds (builds x y) = x ≡ y
Holds (finds x y) = x ≡ y
Holds (compares x y) = x ≡ y
Holds (tells x y) = x ≡ y

-- ---- the tests
abbrev pub same_rows : List (List ℕ) → List (List ℕ) → Bool
same_rows [] [] = true
same_rows [] (y ∷ ys) = false
same_rows (x ∷ xs) [] = false
same_rows (x ∷ xs) (y ∷ ys) = same_list x y && same_rows xs ys

abbrev pub same_option : {A : Type 0} → (A → A → Bool) → Option A → Option A → Bool
same_option same none none = true
same_option same none (some y) = false
same_option same (some x) none = false
same_option same (some x) (some y) = same x y

abbrev pub same_answer : {A : Type 0} → (A → A → Bool) → Answer A → Answer A → Bool
same_answer same (refused x) (refused y) = eqb x y
same_answer same (refused x) (given y) = false
same_answer same (given x) (refused y) = false
same_answer same (given x) (given y) = same x y

abbrev pub same_found : Found → Found → Bool
same_found x y = eqb x.request y.request && same_list x.history y.history

abbrev pub same_findings : Findings → Findings → Bool
same_findings x y =
    same_option same_found x.conflict y.conflict && same_option same_found x.missing y.missing && same_option same_list x.blocked y.blocked

abbrev pub same_telling : Telling → Telling → Bool
same_telling x y = eqb (outcome_of x) (outcome_of y)

abbrev pub test : Claim → Bool
test (number x y) = eqb x y
test (says x y) = beq x y
test (bytes x y) = same_list x y
test (rows x y) = same_rows x y
test (found x y) = same_findings x y
test (history x y) = same_option same_list x y
test (builds x y) = same_answer eqb x y
test (finds x y) = same_answer same_findings x y
test (compares x y) = same_answer (same_option same_list) x y
test (tells x y) = same_answer same_telling x y
