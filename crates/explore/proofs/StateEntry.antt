-- A state is looked up among the first n of an array, and put in after them where it is new.
use mathlib.Core.Path.{◌≡◌, sym, ap, ◌∙◌}
use mathlib.Core.Bool.{true}
use mathlib.Core.List.{List, [], ◌∷◌, ◌++◌}
use Prim.Native.Nat.{ℕ, ◌+◌, ◌-◌, ◌<◌, ◌≤◌}
use native.Mathlib.Omega.{arith}
use native.Mathlib.Numerals.{add-one}
use lib.Dec.{eqb, leb}
use lib.ListN.{length, get_or, take, set}
use lib.Seq.{length-take-le}
use borrow.Author.Tests.{eqb-true, leb-true, lt-ltb}
use Rattle.automaton.specs.Below.{place_of}
use Rattle.automaton.proofs.Below.{and-true}
use Rattle.definitions.specs.Answer.{written}
use Rattle.definitions.proofs.BookSteps.{is_state_law}
use Rattle.automaton.specs.StateList.{number_among, add_state}
use Rattle.automaton.proofs.StateList.{number-place, number-low, added_few, added_none, added_known, added_new, number_new}
use Rattle.explore.specs.Reaches.{Once, is_number}
use Rattle.definitions.proofs.Written.{written-take, written_next}

module _ (found : List ℕ) (n x : ℕ) (room : n < length found) where
  -- r is the number of x once it is put in, and more is the array then
  abbrev Noted : ℕ → List ℕ → Type 0
  Noted r more = (r ≡ number_among (add_state (take n found) x) x) × (more ≡ written (add_state (take n found) x) found)

  pub note_none : x ≡ 0 → Noted 0 found
  note_none e = (rw e, rw (e, added_none (take n found)) (sym (written-take n found (omega arith))))

  note_known : (r : ℕ) → number_among (take n found) x ≡ r → 0 < r → Noted r found
  note_known r is l =
      let same : add_state (take n found) x ≡ take n found = added_known (take n found) x (is_state_law (number_among (take n found) x) (omega arith)) in
      (rw same (sym is), rw same (sym (written-take n found (omega arith))))

  -- a hint that is right
  module _ (k : ℕ) (is : is_number (take n found) (length (take n found)) x (k + 1) ≡ true) where
    both : (leb (k + 1) (length (take n found)) ≡ true) × (eqb (get_or (take n found) (k + 1 - 1) 0) x ≡ true)
    both = and-true (leb (k + 1) (length (take n found))) (eqb (get_or (take n found) (k + 1 - 1) 0) x) (rw (lt-ltb 0 (k + 1) (omega arith)) at is)

    pub hint-within : k + 1 ≤ length (take n found)
    hint-within = leb-true (k + 1) (length (take n found)) both.0

    pub note_hint : Once (take n found) → Noted (k + 1) found
    note_hint once =
        let last : k + 1 - 1 ≡ k = omega arith in
        let here : get_or (take n found) k 0 ≡ x = rw last at (eqb-true (get_or (take n found) (k + 1 - 1) 0) x both.1) in
        note_known (k + 1) (rw (add-one, ← here) (once k (omega (arith, hint-within)))) (omega arith)

  -- its number is a byte
  pub noted_low : (r : ℕ) → r ≡ number_among (add_state (take n found) x) x → r ≤ n + 1
  noted_low r e = omega (arith, e, number-low (add_state (take n found) x) x, added_few (take n found) x, length-take-le n found (omega arith))

  module _ (state : 0 < x) where
    number : number_among (take n found) x ≡ place_of (eqb x) (take n found)
    number = number-place (take n found) x (is_state_law x state)

    pub note-found : (r : ℕ) → r ≡ place_of (eqb x) (take n found) → 0 < r → Noted r found
    note-found r e = note_known r (number ∙ sym e)

    pub note-new : place_of (eqb x) (take n found) ≤ 0 → Noted (n + 1) (set found n x)
    note-new l =
        let none : number_among (take n found) x ≡ 0 = omega (arith, number) in
        let long : length (take n found) ≡ n = length-take-le n found (omega arith) in
        let more : add_state (take n found) x ≡ take n found ++ (x ∷ []) = added_new (take n found) x (is_state_law x state) none in (
          rw (more, number_new (take n found) x (is_state_law x state) none, long, add-one),
          rw more (ap (λ (l : List ℕ). set l n x) (sym (written-take n found (omega arith))) ∙ written_next (take n found) found n x long room),
        )
