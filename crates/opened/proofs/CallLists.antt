-- "For every list of steps from its opening, its state is the one that the history of the steps not refused leads to", over the contracts of `open` and `step`.
use mathlib.Core.Path.{◌≡◌, refl, sym, ap, ◌∙◌, subst}
use mathlib.Core.List.{List, [], ◌∷◌}
use Prim.Native.Nat.{ℕ}
use denote.Ref.{Bor}
use Rattle.definitions.specs.Refusal.{book_refusal}
use Rattle.definitions.specs.Opened.{open_refusal, walk_state}
use Rattle.walk.specs.Walk.{open_state}
use Rattle.walk.proofs.StepLists.{walked}
use Rattle.walk.proofs.CallCases.{open_refused, open_starts, step-refused, tell-refused}
use Rattle.opened.specs.declared.OpenedBook.{OpenedBook}
use Rattle.opened.specs.declared.Opened.{Opened}
use Rattle.opened.specs.OpenedCalls.{open_of, step_of, Run, Leads, StaysClosed}

-- a list of calls is the walk over the bytes
run_walks : (d : OpenedBook) (cs : List ℕ) (e : OpenedBook) → Run d cs e → (e.bytes ≡ d.bytes) × (e.state ≡ walk_state d.bytes.now d.state cs)
run_walks d [] e is = (ap (λ (z : OpenedBook). z.bytes) is, ap (λ (z : OpenedBook). z.state) is)
run_walks d (c ∷ cs) e (r, is, rest) = run_walks (step_of d c).book cs e (subst (λ (z : Opened). Run z.book cs e) is rest)

-- where the bytes are refused no step moves
unchanged : (b : List ℕ) (s : ℕ) (cs : List ℕ) → (book_refusal b ≡ 0 → ⊥) → walk_state b s cs ≡ s
unchanged b s [] f = refl
unchanged b s (c ∷ cs) f = rw (← (step-refused b s c (book_refusal b) refl f).1) (unchanged b s cs f)

module _ (x : Bor (List ℕ)) (o : Opened) (is : o ≡ open_of x) where
  number_is : o.number ≡ book_refusal x.now
  unfolding open_refusal
  number_is = ap (λ (z : Opened). z.number) is

  run_is : (cs : List ℕ) (e : OpenedBook) → Run o.book cs e → (e.bytes ≡ x) × (e.state ≡ walk_state x.now (open_state x.now) cs)
  run_is cs e ran = run_walks (open_of x).book cs e (subst (λ (z : Opened). Run z.book cs e) is ran)

  pub opened_leads : o.number ≡ 0 → (cs : List ℕ) (e : OpenedBook) → Run o.book cs e → Leads x cs e
  opened_leads z cs e ran =
      record {
        bytes = (run_is cs e ran).0;
        state = (run_is cs e ran).1 ∙ ap (λ (s : ℕ). walk_state x.now s cs) starts ∙ (walked x.now passes cs).leads;
        history = (walked x.now passes cs).possible;
      }
    where
      passes : book_refusal x.now ≡ 0
      passes = sym number_is ∙ z

      starts : open_state x.now ≡ 1
      starts = sym (open_starts x.now (book_refusal x.now) refl passes).1

  pub closed_stays : (o.number ≡ 0 → ⊥) → (cs : List ℕ) (e : OpenedBook) → Run o.book cs e → StaysClosed x o.number e
  closed_stays f cs e ran =
      record {
        bytes = same;
        state = (run_is cs e ran).1 ∙ unchanged x.now (open_state x.now) cs fails ∙ sym (open_refused x.now (book_refusal x.now) refl fails).1;
        steps = λ c. sym (step-refused e.bytes.now e.state c o.number here f).0;
        tells = λ request. sym (tell-refused e.bytes.now e.state request o.number here f);
      }
    where
      same : e.bytes ≡ x
      same = (run_is cs e ran).0

      fails : book_refusal x.now ≡ 0 → ⊥
      fails z = f (number_is ∙ z)

      here : o.number ≡ book_refusal e.bytes.now
      here = number_is ∙ ap (λ (y : Bor (List ℕ)). book_refusal y.now) (sym same)
