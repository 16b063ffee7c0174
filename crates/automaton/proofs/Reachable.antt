-- More than `most` states are found exactly when more than `most` can be reached: so many possible histories lead to states no two of which are equal.
use mathlib.Core.Path.{◌≡◌, sym, ap, ◌∙◌}
use mathlib.Core.Bool.{true}
use mathlib.Core.Logic.{◌↔◌}
use mathlib.Core.List.{List}
use Prim.Native.Nat.{ℕ, suc, pred, ◌≤◌, ◌<◌}
use native.Mathlib.Omega.{arith}
use native.Mathlib.Decide.{dec_lt}
use lib.ListN.{length}
use Rattle.automaton.specs.Machine.{Machine, after, is_state, DistinctStates}
use Rattle.automaton.specs.Explore.{Reached, number_in, reached}
use Rattle.automaton.proofs.Below.{distinct-below}
use Rattle.automaton.proofs.Explore.{state_at, reached_history, Sound, sound_apart, reached-sound, reached-leads}
use Rattle.automaton.proofs.Earliest.{FoundBy, reached-covers}

module _ (m : Machine) (most : ℕ) (begins : is_state m.start ≡ true) where
  abbrev found : List Reached
  found = reached m most

  sound : Sound m found
  sound = reached-sound m most begins

  -- the histories by which the states were found
  distinct-found : most < length found → DistinctStates m (suc most)
  distinct-found over = record { history = reached_history found; possible_each = λ i l. possible_one i (omega arith); distinct = λ i j b l. apart i j b (omega arith) }
    where
      possible_one : (i : ℕ) → i < length found → is_state (after m m.start (reached_history found i)) ≡ true
      possible_one i l = ap is_state (reached-leads m most begins i l) ∙ sound.states i l

      apart : (i j : ℕ) → i < j → j < length found → after m m.start (reached_history found i) ≡ after m m.start (reached_history found j) → ⊥
      apart i j b l e =
          sound_apart m found sound i j b l (sym (reached-leads m most begins i (omega arith)) ∙ e ∙ reached-leads m most begins j l)

  -- if at most `most` are found, each history leads to one of them, and no two to the same
  found-enough : DistinctStates m (suc most) → length found ≤ most → suc most ≤ length found
  found-enough d enough = distinct-below (length found) place (suc most) inside apart
    where
      ends : ℕ → ℕ
      ends i = after m m.start (d.history i)

      place : ℕ → ℕ
      place i = pred (number_in found (ends i))

      covered : (i : ℕ) → i < suc most → FoundBy found (ends i) (d.history i)
      covered i l = reached-covers m most begins enough (d.history i) (d.possible_each i l)

      at : (i : ℕ) (l : i < suc most) → place i ≡ (covered i l).0
      at i l = let r = covered i l in ap pred (ap (number_in found) (sym r.2) ∙ sound.once r.0 r.1)

      inside : (i : ℕ) → i < suc most → place i < length found
      inside i l = omega (arith, at i l, (covered i l).1)

      leads : (i : ℕ) → i < suc most → state_at found (place i) ≡ ends i
      leads i l = ap (state_at found) (at i l) ∙ (covered i l).2

      apart : (i j : ℕ) → i < j → j < suc most → place i ≡ place j → ⊥
      apart i j b l e = d.distinct i j b l (sym (leads i (omega arith)) ∙ ap (state_at found) e ∙ leads j l)

  pub reached-over : (most < length found) ↔ DistinctStates m (suc most)
  reached-over = (distinct-found, λ d. go d (dec_lt most (length found)))
    where
      go : DistinctStates m (suc most) → Dec (most < length found) → most < length found
      go d (yes l) = l
      go d (no l) = found-enough d (omega arith)
