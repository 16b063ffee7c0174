-- A visit that ends where a state that is a goal is found: the codes tried so far, and what one more leaves.
use mathlib.Core.Path.{◌≡◌, refl, sym, ap, ◌∙◌}
use mathlib.Core.Bool.{true, false, true≢false, false≢true}
use mathlib.Core.Logic.{◌⊎◌, inl, inr}
use mathlib.Core.List.{[], ◌∷◌, ◌++◌}
use Prim.Native.Nat.{ℕ, suc, ◌+◌, ◌-◌, ◌*◌, ◌≤◌, ◌<◌}
use native.Mathlib.Decide.{dec_lt}
use native.Mathlib.Omega.{arith}
use lib.ListN.{length}
use Rattle.automaton.specs.Explore.{add}
use Rattle.automaton.proofs.Below.{below_suc}
use Rattle.definitions.specs.Bytes.{byte}
use Rattle.definitions.specs.Book.{width, states, entry}
use Rattle.search.specs.declared.breadth_first.Search.{Search}
use Rattle.search.specs.Found.{SmallTable}
use Rattle.search.specs.Searched.{found_by, state_of, history_of, CanVisit}
use Rattle.search.proofs.Found.{noted-before, noted-last}
use Rattle.search.proofs.SearchTurns.{Tried, tried_begun, can_visit_in, tried-grown, tried-asks, tried-turn, tried-done}
use Rattle.search.proofs.TableRows.{book_rows_law, book-count, row-entry}
use Rattle.way.specs.FirstState.{bytes_of, rows_of, is_goal, NoneFound, VisitedFor}
use Rattle.way.specs.declared.goal.Goal.{Goal}

-- of the state at place i of the search s₀ the codes below c have been tried, which leaves s, and none of the states found is a goal
pub record VisitTurn {N M : ℕ} (g : Goal) (s₀ : Search N M) (i c : ℕ) (s : Search N M) : Type 0 where
  pub tried : Tried (rows_of g) (width (bytes_of g)) s₀ i c s
  pub none : NoneFound g s

pub visit_begun : {N M : ℕ} (g : Goal) (s : Search N M) (i : ℕ) → NoneFound g s → VisitTurn g s i 0 s
visit_begun g s i none = record { tried = tried_begun (rows_of g) (width (bytes_of g)) s.count s.order s.trail i; none = none }

module _ (g : Goal) {N M : ℕ} {s₀ : Search N M} {i : ℕ} (can : CanVisit (rows_of g) (width (bytes_of g)) s₀ i) where
  small : SmallTable (rows_of g) (width (bytes_of g))
  small = book_rows_law (bytes_of g) g.book.passed

  -- what `entry` asks of the state y that is visited
  pub visit-state : (y : ℕ) → y ≡ state_of s₀ i → (1 ≤ y) × (y ≤ states (bytes_of g))
  visit-state y ey = (omega (arith, can.some), omega (arith, can.most, book-count (bytes_of g) g.book.passed))

  module _ {c : ℕ} {s : Search N M} (T : VisitTurn g s₀ i c s) where
    -- all codes have been tried
    pub visit-done : width (bytes_of g) ≤ c → VisitedFor g s₀ i false s
    visit-done l = record {
      tried = width (bytes_of g);
      within = omega arith;
      are = tried-done small (can_visit_in can) T.tried l;
      missed = λ e. (refl, T.none);
      found = λ e. absurd (false≢true e);
    }

    -- the next code leads to x
    module _ (l : c < width (bytes_of g)) (y : ℕ) (ey : y ≡ state_of s₀ i) (x : ℕ) (ex : x ≡ entry (bytes_of g) y c) where
      in_row : x ≡ byte (rows_of g) ((y - 1) * width (bytes_of g) + c)
      in_row = ex ∙ sym (row-entry (bytes_of g) g.book.passed y c)

      -- what `note` asks for
      pub visit-asks : states (bytes_of g) < N → ((x < N) × (i < s.count) × (c < 256)) × (length (add (found_by s) x (history_of s i ++ (c ∷ []))) < N)
      visit-asks enough = tried-asks small (can_visit_in can) T.tried l y ey x in_row (omega (arith, book-count (bytes_of g) g.book.passed))

      module _ (more : Search N M) (e : found_by more ≡ add (found_by s) x (history_of s i ++ (c ∷ []))) where
        next : Tried (rows_of g) (width (bytes_of g)) s₀ i (c + 1) more
        next = tried-turn small (can_visit_in can) T.tried l y ey x in_row e

        before : (j : ℕ) → j < s.count → is_goal g (state_of more j) ≡ false
        before j lj = ap (is_goal g) (noted-before s x (history_of s i ++ (c ∷ [])) more e j lj) ∙ T.none j lj

        last : s.count < more.count → (more.count ≡ suc s.count) × (state_of more s.count ≡ x) × (1 ≤ x)
        last new = noted-last s x (history_of s i ++ (c ∷ [])) more e new

        -- what `is_met_at` asks for
        pub visit-new : s.count < more.count → (1 ≤ x) × (x ≤ states (bytes_of g))
        visit-new new =
            let at = visit-state y ey in
            ((last new).2, omega (arith, g.book.passed.entry_most y c at.0 at.1 l))

        pub visit-hit : s.count < more.count → true ≡ is_goal g x → VisitedFor g s₀ i true more
        visit-hit new hit = record {
          tried = c + 1;
          within = omega arith;
          are = next.are;
          missed = λ z. absurd (true≢false z);
          found = λ _. (
            omega (arith, tried-grown small (can_visit_in can) T.tried),
            record {
              last = s.count;
              is = (last new).0;
              has = ap (is_goal g) (last new).1 ∙ sym hit;
              before = before;
            },
          );
        }

        pub visit-turn : (s.count < more.count → false ≡ is_goal g x) → VisitTurn g s₀ i (c + 1) more
        visit-turn miss = record { tried = next; none = none (dec_lt s.count more.count) }
          where
            none : Dec (s.count < more.count) → NoneFound g more
            none (no old) j lj = before j (omega arith)
            none (yes new) j lj = here (below_suc j s.count (omega (arith, (last new).0)))
              where
                here : (j < s.count) ⊎ (j ≡ s.count) → is_goal g (state_of more j) ≡ false
                here (inl low) = before j low
                here (inr at) = rw at (ap (is_goal g) (last new).1 ∙ sym (miss new))
