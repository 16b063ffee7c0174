-- The search for the first state that is a goal, state by state: where a visit ends with one, it is the first of all that are reached, and where all are visited
-- there is none.
use mathlib.Core.Path.{◌≡◌, sym, ap, ◌∙◌}
use mathlib.Core.Bool.{Bool, true, false}
use mathlib.Core.Option.{none, some}
use Prim.Native.Nat.{ℕ, suc, ◌+◌, ◌≤◌, ◌<◌}
use native.Mathlib.Omega.{arith}
use lib.ListN.{length}
use Rattle.automaton.specs.Explore.{first_that}
use Rattle.automaton.proofs.Explore.{Front, front_length}
use Rattle.definitions.specs.Book.{width, states}
use Rattle.definitions.specs.Verdict.{states_reached}
use Rattle.search.specs.declared.breadth_first.Search.{Search}
use Rattle.search.specs.Found.{SmallTable, rows_machine, states_of, book_states, found_in, started}
use Rattle.search.specs.Searched.{found_by, reached_by, history_of, CanVisit}
use Rattle.search.proofs.Found.{found-length}
use Rattle.search.proofs.FirstFound.{none_below, first_below, first_of_front}
use Rattle.search.proofs.SearchTurns.{SearchTurn, can_visit_of, searched_begun, searched_few, searched-next, searched-front, searched-turn, searched_done, searched_all}
use Rattle.search.proofs.TableRows.{book_rows_law, book-count, book_states_law, states-few}
use Rattle.way.specs.FirstState.{bytes_of, rows_of, is_goal, NoneFound, OnlyLast, VisitedFor, AtLevel, next_length, next_end, LastIsFirst}
use Rattle.way.proofs.SearchLevels.{begun_count, begun_state, level_begun, visited_grown, level-visited, level-next}
use Rattle.way.specs.declared.goal.Goal.{Goal}

-- i states have been visited, and none of those found is a goal; the level is known
pub record SearchedFor {N M : ℕ} (g : Goal) (i codes end : ℕ) (s : Search N M) : Type 0 where
  pub turn : SearchTurn (rows_of g) (width (bytes_of g)) i s
  pub none : NoneFound g s
  pub level : AtLevel s i codes end

module _ (g : Goal) where
  small : SmallTable (rows_of g) (width (bytes_of g))
  small = book_rows_law (bytes_of g) g.book.passed

  all_reached_law : states_of (rows_of g) (width (bytes_of g)) ≡ states_reached (bytes_of g)
  unfolding book_states
  all_reached_law = book_states_law (bytes_of g) g.book.passed

  module _ {N M : ℕ} where
    -- state 1 is found
    pub begun : (s : Search N M) → found_by s ≡ started → is_goal g 1 ≡ false → SearchedFor g 0 0 1 s
    begun s e start = record {
      turn = searched_begun (rows_of g) (width (bytes_of g)) e;
      none = λ k l.
          let z : k ≡ 0 = omega (arith, begun_count s e) in
          rw z (ap (is_goal g) (begun_state s e) ∙ start);
      level = level_begun s e;
    }

    module _ {i codes end : ℕ} {s : Search N M} (S : SearchedFor g i codes end s) where
      pub found-few : s.count ≤ 127
      found-few = searched_few (rows_of g) (width (bytes_of g)) small S.turn

      -- every state has been found
      nowhere : found_by s ≡ states_of (rows_of g) (width (bytes_of g)) → first_that (is_goal g) (states_reached (bytes_of g)) ≡ none
      unfolding found_in
      nowhere all = ap (first_that (is_goal g)) (sym all_reached_law ∙ sym all) ∙ none_below (is_goal g) (reached_by s) s.count S.none

      pub all-visited : s.count ≤ i → first_that (is_goal g) (states_reached (bytes_of g)) ≡ none
      all-visited l = nowhere (searched_done (rows_of g) (width (bytes_of g)) small S.turn l)

      pub all_found : states (bytes_of g) ≤ s.count → first_that (is_goal g) (states_reached (bytes_of g)) ≡ none
      all_found l = nowhere (searched_all (rows_of g) (width (bytes_of g)) small S.turn (omega (arith, book-count (bytes_of g) g.book.passed)))

      module _ (l : i < s.count) where
        pub can-visit : CanVisit (rows_of g) (width (bytes_of g)) s i
        can-visit = can_visit_of s (searched-next (rows_of g) (width (bytes_of g)) small S.turn l)

        module _ {hit : Bool} {more : Search N M} (visited : VisitedFor g s i hit more) where
          level : AtLevel more i codes end
          level = level-visited (rows_machine (rows_of g) (width (bytes_of g))) visited.tried s i more visited.are S.level l

          pub further : hit ≡ false → SearchedFor g (i + 1) (next_length codes end (i + 1)) (next_end end (i + 1) more.count) more
          further miss = record {
            turn = searched-turn (rows_of g) (width (bytes_of g)) small S.turn l (rw (visited.missed miss).0 at visited.are);
            none = (visited.missed miss).1;
            level = level-next level (omega (arith, visited_grown (rows_machine (rows_of g) (width (bytes_of g))) visited.tried s i more visited.are));
          }

          -- what is found stands at the front of all that is reached
          front : Front (found_by more) (states_of (rows_of g) (width (bytes_of g)))
          front = rw visited.are (searched-front (rows_of g) (width (bytes_of g)) small S.turn l visited.tried visited.within)

          few : more.count ≤ states (bytes_of g)
          few = omega (arith, book-count (bytes_of g) g.book.passed, states-few (rows_of g) (width (bytes_of g)) small, front_length front, found-length more.order more.trail more.count)

          pub here : hit ≡ true → LastIsFirst g more (codes + 1)
          unfolding found_in
          here e = record {
            last = last.last;
            is = last.is;
            first = ap (first_that (is_goal g)) (sym all_reached_law) ∙ first_of_front (is_goal g) front (reached_by more last.last) first;
            few = omega (arith, few, last.is);
            length-is = omega (arith, codes-are);
          }
            where
              last : OnlyLast g more
              last = (visited.found e).1

              codes-are : length (history_of more last.last) ≡ suc codes
              codes-are = level.next last.last (omega (arith, S.level.most, (visited.found e).0, last.is)) (omega (arith, last.is))

              first : first_that (is_goal g) (found_by more) ≡ some (reached_by more last.last)
              first = first_below (is_goal g) (reached_by more) more.count last.last (omega (arith, last.is)) last.has last.before
