-- A list of steps played one more at a time: the lines so far, and the state reached.
use mathlib.Core.Path.{◌≡◌, refl, sym, ap, ◌∙◌}
use mathlib.Core.List.{List, [], ◌∷◌, ◌++◌, append_assoc, append-nil}
use Prim.Native.Nat.{ℕ, ◌+◌, ◌*◌, ◌≤◌, ◌<◌}
use native.Mathlib.Numerals.{add-one}
use native.Mathlib.Omega.{arith}
use lib.ListN.{length, get_or, take}
use lib.Seq.{take-suc}
use borrow.Author.Tests.{ne_eqb}
use Rattle.std.specs.Prelude.{Result, Ok, Err, IfOk}
use Rattle.definitions.specs.Book.{states}
use Rattle.definitions.specs.Opened.{open_refusal, step_refusal, step_state, walk_state}
use Rattle.definitions.proofs.Accepted.{book-passed}
use Rattle.definitions.proofs.Tests.{within-true}
use Rattle.text.specs.Put.{Put}
use Rattle.text.proofs.Puts.{then}
use Rattle.refusal.specs.declared.Refusal.{Refusal}
use Rattle.refusal.specs.Refused.{number_of, refusal_in}
use Rattle.walk.proofs.StepLists.{step-within}
use Rattle.play.specs.StateLines.{Stands, answer_line, result_line}
use Rattle.play.specs.Play.{step_lines, play_lines}
use Rattle.play.proofs.StateLines.{never_0}

-- one more step at the end of a list
walk_last : (b : List ℕ) (s : ℕ) (cs : List ℕ) (c : ℕ) → walk_state b s (cs ++ (c ∷ [])) ≡ step_state b (walk_state b s cs) c
walk_last b s [] c = refl
walk_last b s (d ∷ cs) c = walk_last b (step_state b s d) cs c

pub lines-last : (b : List ℕ) (s : ℕ) (cs : List ℕ) (c : ℕ) → step_lines b s (cs ++ (c ∷ [])) ≡ step_lines b s cs ++ answer_line b (step_refusal b (walk_state b s cs) c) (walk_state b s (cs ++ (c ∷ [])))
lines-last b s [] c = append-nil (answer_line b (step_refusal b s c) (step_state b s c))
lines-last b s (d ∷ cs) c =
    ap (λ (r : List ℕ). answer_line b (step_refusal b s d) (step_state b s d) ++ r) (lines-last b (step_state b s d) cs c)
    ∙ sym (append_assoc (answer_line b (step_refusal b s d) (step_state b s d)) (step_lines b (step_state b s d) cs) (answer_line b (step_refusal b (walk_state b (step_state b s d) cs) c) (walk_state b (step_state b s d) (cs ++ (c ∷ [])))))

-- ---- one step
pub step_stands : (b : List ℕ) (s c : ℕ) → Stands b s → Stands b (step_state b s c)
step_stands b s c h =
    record {
      passes = h.passes;
      holds = (within-true 1 (step_state b s c) (states b)).1 (step-within b ((book-passed b).0 h.passes) s c ((within-true 1 s (states b)).0 h.holds));
    }

-- ---- the loop's invariant: the lines of the first i steps are put, each in at most 512 bytes, and the state is the one that these steps lead to
pub record StepsPut (b : List ℕ) (start : ℕ) (cs before : List ℕ) (at i state next : ℕ) (out : List ℕ) : Type 0 where
  pub led : state ≡ walk_state b start (take i cs)
  pub stands : Stands b state
  pub put : Put before at (step_lines b start (take i cs)) out next
  pub short : next ≤ at + 512 * i

module _ (b : List ℕ) (start : ℕ) (cs before : List ℕ) (at : ℕ) {i state next : ℕ} {out : List ℕ} (t : StepsPut b start cs before at i state next out) where
  -- a step: its code, the state there, and the line of what it answers
  pub more : (code there : ℕ) {line after : List ℕ} {end : ℕ} → i < length cs → code ≡ get_or cs i 0 → there ≡ step_state b state code → line ≡ answer_line b (step_refusal b state code) there
      → Put out next line after end → end ≤ next + 512 → StepsPut b start cs before at (i + 1) there end after
  more code there {line} {after} {end} l ec e el p m =
      record {
        led = rw one_more led;
        stands = rw e (step_stands b state code t.stands);
        put = rw (one_more, lines-last b start (take i cs) code, ← t.led, ← led, ← el) (then t.put p);
        short = omega (arith, t.short);
      }
    where
      one_more : take (i + 1) cs ≡ take i cs ++ (code ∷ [])
      one_more = rw (add-one i, ec) (take-suc cs i 0 l)

      led : there ≡ walk_state b start (take i cs ++ (code ∷ []))
      led = e ∙ rw t.led (sym (walk_last b start (take i cs) code))

-- ---- the opening, and the steps after it
module _ (b : List ℕ) where
  pub open_stands : (o : Result ℕ Refusal) → refusal_in o ≡ open_refusal b → IfOk o (λ state. state ≡ 1) → IfOk o (λ state. Stands b state)
  unfolding open_refusal
  open_stands (Ok state) e is = record { passes = sym e; holds = (within-true 1 state (states b)).1 (rw is (omega arith, ((book-passed b).0 (sym e)).layout.header.states_some)) }
  open_stands (Err refusal) e is = tt

  pub only_opened : (cs : List ℕ) (refusal : Refusal) → number_of refusal ≡ open_refusal b → result_line b (Err refusal) ≡ play_lines b cs
  unfolding play_lines
  only_opened cs refusal e = rw (← e, ne_eqb (number_of refusal) 0 (never_0 refusal)) (sym (append-nil (result_line b (Err refusal))))

  pub all_played : (cs : List ℕ) (state : ℕ) → 0 ≡ open_refusal b → state ≡ 1 → result_line b (Ok state) ++ step_lines b state cs ≡ play_lines b cs
  unfolding play_lines
  all_played cs state e is = rw (is, ← e)
