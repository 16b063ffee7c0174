-- The search state by state, with the states found in an array.
use mathlib.Core.Path.{◌≡◌, refl, sym, ap, ◌∙◌}
use mathlib.Core.List.{List, [], ◌∷◌}
use Prim.Native.Nat.{ℕ, suc, ◌+◌, ◌<◌, ◌≤◌}
use native.Mathlib.Omega.{arith}
use native.Mathlib.Numerals.{add-one}
use lib.ListN.{length, get_or, take, drop, get_or-append}
use Rattle.automaton.specs.Machine.{Machine, step, is_state}
use Rattle.automaton.specs.Explore.{Reached, number_in, visit, unreached, start_of, reached}
use Rattle.automaton.specs.Table.{row_of}
use Rattle.automaton.proofs.Explore.{Front, front_at, front_length, visit-front, state_at, Sound}
use Rattle.definitions.specs.Answer.{written}
use Rattle.definitions.proofs.BookSteps.{state-is}
use Rattle.automaton.specs.StateList.{state_list, number_among, after_codes, row_among}
use Rattle.automaton.proofs.StateList.{length-states, state_at_law, number-states, visit-states}
use Rattle.automaton.proofs.Congruence.{list-below-same}
use Rattle.automaton.proofs.RemainingSearch.{Remains, remains_begun, remains_turn, remains_front, remains_done}
use Rattle.automaton.proofs.KeptNumbers.{row_stays}
use Rattle.definitions.proofs.Written.{take-written, length-written, written-take, written_again}

-- s of the states in L, which are all that m reaches, have been visited, and n are found
pub record Searched (m : Machine) (most : ℕ) (L : List Reached) (found₀ found : List ℕ) (n s : ℕ) : Type 0 where
  pub sound : Sound m L
  pub list : List Reached
  pub come : Remains m most L s list
  pub room : n ≤ length found₀
  pub few : n ≤ most
  pub inside : s ≤ n
  pub count : n ≡ length list
  pub array : found ≡ written (state_list list) found₀

pub searched_begun : (m : Machine) (most : ℕ) (L : List Reached) (found : List ℕ) → 1 ≤ most → 0 < length found → take 1 found ≡ m.start ∷ []
    → reached m most ≡ L → Sound m L → Searched m most L found found 1 0
searched_begun m most L found some room first all sound = record {
  sound = sound;
  list = start_of m;
  come = remains_begun m most L all;
  room = room;
  few = some;
  inside = omega arith;
  count = refl;
  array = sym (rw first at (written-take 1 found room));
}

module _ {m : Machine} {most : ℕ} {L : List Reached} {found₀ found : List ℕ} {n s : ℕ} (now : Searched m most L found₀ found n s) where
  front : Front now.list L
  front = remains_front m most L s now.list now.come

  pub searched_all : n ≤ length L
  searched_all = omega (arith, front_length front, now.count)

  pub searched_room : length found ≡ length found₀
  searched_room = rw now.array (length-written (state_list now.list) found₀ (omega (arith, length-states now.list, now.count, now.room)))

  pub searched_done : n ≤ s → (n ≡ length L) × (found ≡ written (state_list L) found₀)
  searched_done l =
      let whole : now.list ≡ L = remains_done m most L s now.list (omega (arith, now.count)) now.come in
      (now.count ∙ ap length whole, now.array ∙ ap (λ (l : List Reached). written (state_list l) found₀) whole)

  -- the next state is visited
  module _ (b : s < n) where
    at-list : get_or found s 0 ≡ state_at now.list s
    at-list =
        rw now.array (get_or-append (state_list now.list) (drop (length (state_list now.list)) found₀) 0 s (omega (arith, length-states now.list, now.count)))
        ∙ state_at_law now.list s (omega (arith, now.count))

    pub searched-at : get_or found s 0 ≡ state_at L s
    searched-at = at-list ∙ sym (ap (λ (t : Reached). t.state) (front_at front s (omega (arith, now.count))))

    pub searched-state : 0 < get_or found s 0
    searched-state = state-is (get_or found s 0) (ap is_state searched-at ∙ now.sound.states s (omega (arith, searched_all)))

    abbrev t : Reached
    t = get_or now.list s unreached

    abbrev more : List Reached
    more = visit m t m.width now.list

    -- those that are found then
    abbrev next : List ℕ
    next = after_codes m (get_or found s 0) m.width (take n found)

    next-is : next ≡ state_list more
    next-is =
        let old : take n found ≡ state_list now.list =
        rw now.array (take-written (state_list now.list) found₀ n (length-states now.list ∙ sym now.count)) in
        rw (old, at-list) (sym (visit-states m t m.width now.list))

    come-on : Remains m most L (suc s) more
    come-on = remains_turn m most L s now.list (omega (arith, now.count)) (omega (arith, now.few)) now.come

    front-on : Front more L
    front-on = remains_front m most L (suc s) more come-on

    grows : n ≤ length more
    grows = omega (arith, front_length (visit-front m t m.width now.list), now.count)

    pub searched-low : length next ≤ length L
    searched-low = omega (arith, ap length next-is, length-states more, front_length front-on)

    -- the row of the state in the table
    pub searched-row : row_among m next (get_or found s 0) ≡ row_of m L (state_at L s)
    searched-row =
        rw (next-is, at-list)
        (list-below-same (λ c. number_among (state_list more) (step m t.state c)) (λ c. number_in more (step m t.state c)) m.width
        (λ c l. number-states more (step m t.state c))
        ∙ sym (row_stays m t now.list L front-on)
        ∙ ap (row_of m L) (sym at-list ∙ searched-at))

    pub searched-turn : {r : ℕ} {found' : List ℕ} → r ≤ most → r ≤ length found₀ → r ≡ length next → found' ≡ written next found
        → Searched m most L found₀ found' r (s + 1)
    searched-turn {r} {found'} few room count array =
        let same : r ≡ length more = count ∙ ap length next-is ∙ length-states more in
        record {
          sound = now.sound;
          list = more;
          come = rw add-one come-on;
          room = room;
          few = few;
          inside = omega (arith, grows);
          count = same;
          array = array ∙ rw (next-is, now.array)
              (written_again (state_list now.list) (state_list more) found₀ (omega (arith, grows, now.count, length-states more, length-states now.list)));
        }
