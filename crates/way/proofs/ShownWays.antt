-- The way that is shown, by the first state that is a goal: where there is none, where it is the start, and where a search has found one.
use mathlib.Core.Path.{◌≡◌, refl, sym, ap, ◌∙◌}
use mathlib.Core.Bool.{Bool, cond, true}
use mathlib.Core.List.{List, [], ◌∷◌}
use mathlib.Core.Option.{Option, none, some}
use Prim.Native.Nat.{ℕ, ◌-◌}
use native.Mathlib.Omega.{arith}
use Rattle.std.specs.Prelude.{Some, None}
use Rattle.automaton.specs.Explore.{Reached, first_that, start_of}
use Rattle.automaton.proofs.Explore.{Front}
use Rattle.automaton.proofs.RemainingSearch.{remains_begun, remains_front}
use Rattle.definitions.specs.Answer.{written}
use Rattle.definitions.specs.Book.{book_machine}
use Rattle.definitions.specs.Verdict.{states_reached, history_of}
use Rattle.definitions.specs.Way.{way}
use Rattle.definitions.proofs.Written.{written_read}
use Rattle.search.specs.declared.breadth_first.Search.{Search}
use Rattle.search.specs.Searched as Found
use Rattle.search.proofs.FirstFound.{first_of_front}
use Rattle.way.specs.FirstState.{bytes_of, sought, is_goal, LastIsFirst, Shows}
use Rattle.way.specs.declared.goal.Goal.{Goal}

module _ (g : Goal) where
  way-is : (o : Option Reached) → first_that (is_goal g) (states_reached (bytes_of g)) ≡ o → way (bytes_of g) g.request (sought g) ≡ history_of o
  unfolding way
  way-is o e = ap history_of e

  pub shows-none : first_that (is_goal g) (states_reached (bytes_of g)) ≡ none → (buffer : List ℕ) → Shows g None buffer buffer
  shows-none e buffer = rw (way-is none e) (refl, refl)

  module _ {N M : ℕ} {s : Search N M} {codes : ℕ} (F : LastIsFirst g s codes) where
    place : s.count - 1 ≡ F.last
    place = omega (arith, F.is)

    -- the codes of that place are written
    pub shows-found : (k : ℕ) → k ≡ s.count - 1 → (buffer after : List ℕ) → after ≡ written (Found.history_of s k) buffer → Shows g (Some codes) buffer after
    shows-found k ek buffer after ea =
        let e : after ≡ written (Found.history_of s F.last) buffer = rw (ek ∙ place) at ea in
        rw (way-is (some (Found.reached_by s F.last)) F.first, written_read (Found.history_of s F.last) buffer codes after F.length-is e) (refl, e)

  start_first : Front (start_of (book_machine (bytes_of g))) (states_reached (bytes_of g))
  start_first = remains_front (book_machine (bytes_of g)) 127 (states_reached (bytes_of g)) 0 (start_of (book_machine (bytes_of g))) (remains_begun (book_machine (bytes_of g)) 127 (states_reached (bytes_of g)) refl)

  pub shows-start : true ≡ is_goal g 1 → (buffer : List ℕ) → Shows g (Some 0) buffer buffer
  shows-start hit buffer =
      let t : Reached = record { state = 1; history = [] } in
      let here : first_that (is_goal g) (t ∷ []) ≡ some t = ap (λ (p : Bool). cond p (some t) none) (sym hit) in
      rw (way-is (some t) (first_of_front (is_goal g) start_first t here)) (refl, refl)
