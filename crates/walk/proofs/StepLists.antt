-- The opened book's state after every list of steps: "its state is the one that the history of the steps not refused leads to".
use mathlib.Core.Path.{◌≡◌, refl, ap, sym, ◌∙◌}
use mathlib.Core.Bool.{Bool, cond, true, false, ◌&&◌}
use mathlib.Core.List.{List, [], ◌∷◌}
use Prim.Native.Nat.{ℕ, ◌≤◌}
use native.Mathlib.Omega.{arith}
use lib.Dec.{ltb, eqb}
use borrow.Author.Tests.{eqb-true}
use Rattle.automaton.specs.History.{History}
use Rattle.automaton.specs.Machine.{step, after, is_state, possible}
use Rattle.automaton.proofs.Below.{and-true}
use Rattle.definitions.specs.Answer.{judge}
use Rattle.definitions.specs.Book.{width, states, book_machine}
use Rattle.definitions.specs.Refusal.{book_refusal}
use Rattle.definitions.specs.Opened.{state_holds, step_refusal, step_state, walk_state, walk_history}
use Rattle.definitions.specs.Checked.{BookPassed}
use Rattle.definitions.proofs.Accepted.{book-passed}
use Rattle.definitions.proofs.Tests.{judge-zero, then_judge-zero}
use Rattle.definitions.proofs.BookSteps.{is_state_law, state-is, step-inside}

-- ---- one step
module _ (b : List ℕ) (s c : ℕ) where
  taken : eqb (step_refusal b s c) 0 ≡ true → step_state b s c ≡ step (book_machine b) s c
  unfolding step_state
  taken e = rw e

  refused : eqb (step_refusal b s c) 0 ≡ false → step_state b s c ≡ s
  unfolding step_state
  refused e = rw e

  possible-step : step_refusal b s c ≡ 0 → is_state (step (book_machine b) s c) ≡ true
  unfolding step_refusal
  possible-step e =
      (and-true (state_holds b s && ltb c (width b)) (is_state (step (book_machine b) s c))
      ((judge-zero 15 (state_holds b s && ltb c (width b) && is_state (step (book_machine b) s c)) 0).0
      ((then_judge-zero (book_refusal b) (judge 16 (state_holds b s && ltb c (width b) && is_state (step (book_machine b) s c)) 0)).0 e).1).0).1

-- ---- a list of steps
walk_leads : (b : List ℕ) (s : ℕ) (cs : List ℕ) → walk_state b s cs ≡ after (book_machine b) s (walk_history b s cs)
walk_leads b s [] = refl
walk_leads b s (c ∷ cs) = go (eqb (step_refusal b s c) 0) refl (walk_leads b (step_state b s c) cs)
  where
    rest : History
    rest = walk_history b (step_state b s c) cs

    go : (t : Bool) → eqb (step_refusal b s c) 0 ≡ t → walk_state b (step_state b s c) cs ≡ after (book_machine b) (step_state b s c) rest
        → walk_state b (step_state b s c) cs ≡ after (book_machine b) s (cond t (c ∷ rest) rest)
    go true e ih = ih ∙ ap (λ (t : ℕ). after (book_machine b) t rest) (taken b s c e)
    go false e ih = ih ∙ ap (λ (t : ℕ). after (book_machine b) t rest) (refused b s c e)

abbrev IsState : List ℕ → ℕ → Type 0
IsState b s = (1 ≤ s) × (s ≤ states b)

module _ (b : List ℕ) (p : BookPassed b) where
  pub step-within : (s c : ℕ) → IsState b s → IsState b (step_state b s c)
  step-within s c h = go (eqb (step_refusal b s c) 0) refl
    where
      go : (t : Bool) → eqb (step_refusal b s c) 0 ≡ t → IsState b (step_state b s c)
      go true e = rw (taken b s c e) (state-is _ (possible-step b s c (eqb-true (step_refusal b s c) 0 e)), step-inside b p s c)
      go false e = rw (refused b s c e) h

  walk_within : (s : ℕ) (cs : List ℕ) → IsState b s → IsState b (walk_state b s cs)
  walk_within s [] h = h
  walk_within s (c ∷ cs) h = walk_within (step_state b s c) cs (step-within s c h)

-- the steps not refused are a history possible in the book; the state is the one that it leads to, and one of 1 to n
pub record Walked (b : List ℕ) (cs : List ℕ) : Type 0 where
  pub leads : walk_state b 1 cs ≡ after (book_machine b) 1 (walk_history b 1 cs)
  pub possible : possible (book_machine b) (walk_history b 1 cs) ≡ true
  pub some : 1 ≤ walk_state b 1 cs
  pub few : walk_state b 1 cs ≤ states b

pub walked : (b : List ℕ) → book_refusal b ≡ 0 → (cs : List ℕ) → Walked b cs
walked b e cs = go ((book-passed b).0 e)
  where
    go : BookPassed b → Walked b cs
    go p = record { leads = leads; possible = ap is_state (sym leads) ∙ is_state_law (walk_state b 1 cs) within.0; some = within.0; few = within.1 }
      where
        leads : walk_state b 1 cs ≡ after (book_machine b) 1 (walk_history b 1 cs)
        leads = walk_leads b 1 cs

        within : IsState b (walk_state b 1 cs)
        within = walk_within b p 1 cs (omega arith, p.layout.header.states_some)
