-- The visit of a state, code by code, with the states found in an array and their numbers in a row.
use mathlib.Core.Path.{◌≡◌, refl, sym, ap, ◌∙◌}
use mathlib.Core.List.{List, map}
use Prim.Native.Nat.{ℕ, suc, ◌+◌, ◌<◌, ◌≤◌, max}
use native.Mathlib.Omega.{arith}
use native.Mathlib.Numerals.{add-one}
use lib.ListN.{length, take, set}
use lib.Seq.{length-take-le}
use Rattle.automaton.specs.Below.{list_below}
use Rattle.automaton.specs.Machine.{Machine, step}
use Rattle.automaton.specs.Explore.{visit}
use Rattle.automaton.proofs.Below.{length-list-below}
use Rattle.definitions.specs.Answer.{written}
use Rattle.automaton.specs.StateList.{state_list, bare, number_among, add_state, after_codes, row_among}
use Rattle.explore.specs.Reaches.{Once, VisitedState}
use Rattle.automaton.proofs.StateList.{states-bare, number-states, number-low, added_length, added_few, after_more, after_grows}
use Rattle.automaton.proofs.Congruence.{list-below-same}
use Rattle.automaton.proofs.RemainingSearch.{visit_grows}
use Rattle.explore.proofs.Once.{once_after}
use Rattle.automaton.proofs.KeptNumbers.{visit-stays}
use Rattle.definitions.proofs.Written.{take-written, length-written, written_next, written_again, written-take}

module _ (m : Machine) (s : ℕ) (l : List ℕ) where
  -- the number of the state that code c leads to, once it has been tried
  abbrev number_after : ℕ → ℕ
  number_after c = number_among (after_codes m s (suc c) l) (step m s c)

  -- the numbers are those in the whole list
  row-after : list_below m.width number_after ≡ row_among m (after_codes m s m.width l) s
  row-after =
      let t = bare s in
      let found = map bare l in
      let whole = visit m t m.width found in
      list-below-same number_after (λ c. number_among (state_list whole) (step m s c)) m.width
      (λ c b.
      number-states (visit m t (suc c) found) (step m s c)
      ∙ sym (visit-stays m t found c (suc c) whole (omega arith) (visit_grows m t found (suc c) m.width b))
      ∙ sym (number-states whole (step m s c)))

-- the codes below c have been tried from state s of m, where l was found before: k states are found
pub record CodesTried (m : Machine) (s : ℕ) (l found₀ row₀ found row : List ℕ) (k c : ℕ) : Type 0 where
  pub room : 128 ≤ length found₀
  pub long : m.width ≤ length row₀
  pub inside : c ≤ m.width
  pub few : k ≤ 127
  pub count : k ≡ length (after_codes m s c l)
  pub array : found ≡ written (after_codes m s c l) found₀
  pub numbers : row ≡ written (list_below c (number_after m s l)) row₀

pub tried_begun : (m : Machine) (s n : ℕ) (found row : List ℕ) → 128 ≤ length found → m.width ≤ length row → n ≤ 127
    → CodesTried m s (take n found) found row found row n 0
tried_begun m s n found row room long few = record {
  room = room;
  long = long;
  inside = omega arith;
  few = few;
  count = sym (ap length (states-bare (take n found)) ∙ length-take-le n found (omega arith));
  array = rw (states-bare (take n found)) (sym (written-take n found (omega arith)));
  numbers = refl;
}

module _ {m : Machine} {s : ℕ} {l found₀ row₀ found row : List ℕ} {k c : ℕ} (now : CodesTried m s l found₀ row₀ found row k c) where
  pub tried-room : length found ≡ length found₀
  tried-room = rw now.array (length-written (after_codes m s c l) found₀ (omega (arith, now.count, now.few, now.room)))

  pub tried-row : length row ≡ length row₀
  tried-row =
      rw now.numbers
      (length-written (list_below c (number_after m s l)) row₀ (omega (arith, length-list-below (number_after m s l) c, now.inside, now.long)))

  old : take k found ≡ after_codes m s c l
  old = rw now.array (take-written (after_codes m s c l) found₀ k (sym now.count))

  pub tried-once : Once l → Once (take k found)
  tried-once once = rw old (once_after m s c l once)

  -- code c is tried: it leads to x, whose number is then r
  module _ {x r : ℕ} {found' : List ℕ} (b : c < m.width) (ex : x ≡ step m s c)
      (er : r ≡ number_among (add_state (take k found) x) x) (ef : found' ≡ written (add_state (take k found) x) found) where
    more : add_state (take k found) x ≡ after_codes m s (suc c) l
    more = rw (old, ex) (sym (after_more m s c l))

    number : r ≡ number_after m s l c
    number = er ∙ rw (more, ex)

    tried-count : max k r ≡ length (after_codes m s (suc c) l)
    tried-count =
        let long : length (take k found) ≡ k = ap length old ∙ sym now.count in
        omega (arith, added_length (take k found) x, ap length more)

    -- at most one more than before, so the number is a byte
    pub tried-low : r ≤ 128
    tried-low =
        let long : length (take k found) ≡ k = ap length old ∙ sym now.count in
        omega (arith, added_few (take k found) x, number-low (add_state (take k found) x) x, now.few)

    pub tried-turn : max k r ≤ 127 → CodesTried m s l found₀ row₀ found' (set row c r) (max k r) (c + 1)
    tried-turn few = record {
      room = now.room;
      long = now.long;
      inside = omega arith;
      few = few;
      count = rw add-one tried-count;
      array = rw add-one
          (ef ∙ rw (more, now.array) (written_again (after_codes m s c l) (after_codes m s (suc c) l) found₀ (after_grows m s l c (suc c) (omega arith))));
      numbers = rw (add-one, now.numbers, number)
          (written_next (list_below c (number_after m s l)) row₀ c (number_after m s l c) (length-list-below (number_after m s l) c) (omega (arith, now.long)));
    }

    -- the 128th is found
    pub tried-over : {found'' row'' : List ℕ} → 127 < max k r → VisitedState m s l found₀ row₀ 128 found'' row''
    tried-over over = record {
      over = λ _. omega (arith, tried-count, after_grows m s l (suc c) m.width b);
      count = λ few. absurd (omega arith);
      array = λ few. absurd (omega arith);
      numbers = λ few. absurd (omega arith);
    }

  pub tried-done : m.width ≤ c → VisitedState m s l found₀ row₀ k found row
  tried-done e =
      let all : c ≡ m.width = omega (arith, now.inside) in
      record {
        over = λ over. absurd (omega (arith, now.few));
        count = λ few. now.count ∙ ap (λ (e : ℕ). length (after_codes m s e l)) all;
        array = λ few. now.array ∙ ap (λ (e : ℕ). written (after_codes m s e l) found₀) all;
        numbers = λ few. now.numbers ∙ ap (λ (e : ℕ). written (list_below e (number_after m s l)) row₀) all
            ∙ ap (λ (row : List ℕ). written row row₀) (row-after m s l);
      }
