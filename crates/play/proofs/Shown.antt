-- What the lines show, where the book opens: after a list of steps, the state that the history of the steps not refused leads to.
use mathlib.Core.Path.{◌≡◌, refl, sym, ap, ap₂, ◌∙◌}
use mathlib.Core.List.{List, [], ◌∷◌, ◌++◌, append_assoc, append-nil}
use Prim.Native.Nat.{ℕ}
use Rattle.automaton.specs.Machine.{after}
use Rattle.definitions.specs.Book.{book_machine}
use Rattle.definitions.specs.Refusal.{book_refusal}
use Rattle.definitions.specs.Opened.{open_refusal, step_refusal, walk_state, walk_history}
use Rattle.walk.specs.Walk.{open_state}
use Rattle.walk.proofs.StepLists.{walked}
use Rattle.walk.proofs.CallCases.{open_starts}
use Rattle.play.specs.StateLines.{state_line, answer_line}
use Rattle.play.specs.Play.{step_lines, play_lines}
use Rattle.play.proofs.StepLines.{lines-last}

module _ (b : List ℕ) (passes : book_refusal b ≡ 0) where
  opens : open_refusal b ≡ 0
  unfolding open_refusal
  opens = passes

  starts : open_state b ≡ 1
  starts = sym (open_starts b (book_refusal b) refl passes).1

  lines_are : (cs : List ℕ) → play_lines b cs ≡ state_line b 1 ++ step_lines b 1 cs
  unfolding play_lines
  lines_are cs = rw (starts, opens)

  -- where the history of the steps not refused leads to
  abbrev led : List ℕ → ℕ
  led cs = after (book_machine b) 1 (walk_history b 1 cs)

  pub opening_shown : play_lines b [] ≡ state_line b 1
  opening_shown = lines_are [] ∙ append-nil (state_line b 1)

  pub steps-shown : (cs : List ℕ) (c : ℕ) → play_lines b (cs ++ (c ∷ [])) ≡ play_lines b cs ++ answer_line b (step_refusal b (led cs) c) (led (cs ++ (c ∷ [])))
  steps-shown cs c =
      lines_are (cs ++ (c ∷ [])) ∙ ap (λ (r : List ℕ). state_line b 1 ++ r) (lines-last b 1 cs c)
      ∙ sym (append_assoc (state_line b 1) (step_lines b 1 cs) (answer_line b (step_refusal b (walk_state b 1 cs) c) (walk_state b 1 (cs ++ (c ∷ [])))))
      ∙ ap₂ (λ (r l : List ℕ). r ++ l) (sym (lines_are cs)) (ap₂ (λ (s t : ℕ). answer_line b (step_refusal b s c) t) (walked b passes cs).leads (walked b passes (cs ++ (c ∷ []))).leads)
