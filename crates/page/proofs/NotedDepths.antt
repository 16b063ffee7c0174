-- The depths of the states that a search has found: each is noted from that of the place it was found from, and at the end every state of the book has its own.
use mathlib.Core.Path.{◌≡◌, refl, sym, ap, ◌∙◌}
use mathlib.Core.Bool.{Bool}
use mathlib.Core.Logic.{◌⊎◌, inl, inr}
use mathlib.Core.List.{List}
use Prim.Native.Nat.{ℕ, zero, suc, ◌+◌, ◌≤◌, ◌<◌}
use native.Mathlib.Decide.{dec_lt}
use native.Mathlib.Numerals.{add-one}
use native.Mathlib.Omega.{arith}
use lib.Dec.{eqb}
use lib.ListN.{length, set, length-set}
use lib.Seq.{get_or-set_same, get_or-set_other}
use borrow.Author.Tests.{eqb-true, eqb-false}
use Rattle.automaton.specs.Below.{lowest_below}
use Rattle.automaton.specs.Explore.{Reached, number_in, first_that}
use Rattle.automaton.specs.Parents.{EarlierParents}
use Rattle.automaton.proofs.Below.{below_suc, lowest_below_law}
use Rattle.automaton.proofs.Explore.{number_hit}
use Rattle.definitions.specs.Bytes.{byte}
use Rattle.definitions.specs.Book.{states}
use Rattle.definitions.specs.Checked.{BookPassed}
use Rattle.definitions.specs.Verdict.{states_reached}
use Rattle.search.specs.Trail.{first_at, history_at}
use Rattle.search.specs.Found.{book_states, Holds, Arrays}
use Rattle.search.proofs.Found.{holds-length, holds_at}
use Rattle.search.proofs.Trails.{history-empty, parent-low, history-short, step-length}
use Rattle.search.proofs.FirstFound.{first-none, first_some}
use Rattle.search.proofs.BookSearch.{book-first, book-most, book-few, book-inside, book-once}
use Rattle.page.specs.Depths.{depth_of, SearchedPlaces, DepthsNoted, DepthsOf}

module _ {order trail : List ℕ} {n room : ℕ} (P : SearchedPlaces order trail n room) where
  -- ---- the state at place k was found from that at an earlier place, p
  module _ (k : ℕ) (after_first : 1 ≤ k) (l : k < n) (p : ℕ) (ep : p ≡ first_at trail k) where
    falls : EarlierParents (suc k) (first_at trail)
    falls i c = P.falls i (omega arith)

    pub parent-before : p < k
    parent-before = parent-low trail k falls k p ep after_first (omega arith)

    longer : length (history_at trail k) ≡ length (history_at trail p) + 1
    longer = step-length trail k falls k after_first (omega arith) ∙ ap (λ (q : ℕ). length (history_at trail q) + 1) (sym ep)

    short : length (history_at trail k) ≤ k
    short = history-short trail k falls

  -- ---- one state more
  module _ (depths : List ℕ) (long : length depths ≡ room) where
    module _ (k x : ℕ) (D : DepthsNoted order trail n k depths) (l : k < n) (is : x ≡ suc (length (history_at trail k))) where
      noted-found : (j : ℕ) → (j < k) ⊎ (j ≡ k) → byte (set depths (byte order k) x) (byte order j) ≡ suc (length (history_at trail j))
      noted-found j (inl b) = get_or-set_other depths (byte order k) (byte order j) x 0 (P.once j k b l) ∙ D.found j b
      noted-found j (inr here) = rw here (get_or-set_same depths (byte order k) x 0 (omega (arith, P.below k l)) ∙ is)

      noted_more : DepthsNoted order trail n (suc k) (set depths (byte order k) x)
      noted_more = record {
        found = λ j b. noted-found j (below_suc j k b);
        others = λ s p m never.
            get_or-set_other depths (byte order k) s x 0 (λ e. never k l (sym e)) ∙ D.others s p (rw length-set at m) never;
      }

    -- the first
    pub noted_first : 1 ≤ n → DepthsNoted order trail n 0 depths → (y : ℕ) → y ≡ byte order 0 → DepthsNoted order trail n 1 (set depths y 1)
    noted_first some D y e =
        let empty = ap length (history-empty trail 0 (λ j b. absurd (omega arith)) 0 refl) in
        rw e (noted_more 0 1 D some (omega (arith, empty)))

    -- each other one, which was found from the state y at an earlier place
    module _ (k : ℕ) (after_first : 1 ≤ k) (l : k < n) (D : DepthsNoted order trail n k depths) (p : ℕ) (ep : p ≡ first_at trail k) (y : ℕ) (ey : y ≡ byte order p) where
      pub note-reads : y < length depths
      note-reads = omega (arith, ey, P.below p (omega (arith, parent-before k after_first l p ep)))

      depth_is : byte depths y + 1 ≡ suc (length (history_at trail k))
      depth_is =
          let above : byte depths y ≡ suc (length (history_at trail p)) = ap (byte depths) ey ∙ D.found p (parent-before k after_first l p ep) in
          omega (arith, above, longer k after_first l p ep)

      pub note-fits : byte depths y + 1 ≤ 127
      note-fits = omega (arith, depth_is, short k after_first l p ep, P.few)

      pub noted-next : (z : ℕ) → z ≡ byte order k → (x : ℕ) → x ≡ byte depths y + 1 → DepthsNoted order trail n (k + 1) (set depths z x)
      noted-next z ez x ex = rw (ez, add-one k) (noted_more k x D l (ex ∙ depth_is))

-- ---- what a search of a book leaves
module _ (b : List ℕ) {n : ℕ} {order trail numbers : List ℕ} (A : Arrays (book_states b) n order trail numbers) (ok : BookPassed b) (enough : states b < length numbers) where
  pub book_places : SearchedPlaces order trail n (length numbers)
  book_places =
      let most = book-most b A.holds ok in
      record {
        few = book-few b A.holds ok;
        room_order = omega (arith, A.room_order);
        room_trail = omega (arith, A.room_trail);
        below = λ k l. omega (arith, book-inside b A.holds ok k l);
        once = book-once b A.holds ok;
        falls = A.holds.falls;
      }

  -- its numbers are 0 where a state is not found
  pub nothing_noted : DepthsNoted order trail n 0 numbers
  nothing_noted = record { found = λ j b. absurd (omega arith); others = unfound }
    where
      unfound : (s : ℕ) → 1 ≤ s → s < length numbers → ((j : ℕ) → j < n → byte order j ≡ s → ⊥) → byte numbers s ≡ 0
      unfound zero p l never = absurd (omega arith)
      unfound (suc s) p l never = A.numbered (suc s) l ∙ go (number_in (book_states b) (suc s)) refl
        where
          go : (x : ℕ) → number_in (book_states b) (suc s) ≡ x → x ≡ 0
          go zero e = refl
          go (suc k) e =
              let hit = number_hit (book_states b) (suc s) k e in
              let inside : k < n = omega (arith, hit.0, holds-length A.holds) in
              absurd (never k inside (sym (hit.1 ∙ ap (λ (t : Reached). t.state) (holds_at A.holds k inside))))

-- ---- the depths at its end
module _ (b : List ℕ) {n : ℕ} {order trail : List ℕ} (H : Holds (book_states b) n order trail) (depths : List ℕ) (N : DepthsNoted order trail n n depths)
    (enough : states b < length depths) where
  pub book_depths : DepthsOf b depths
  book_depths s p m = go (dec_lt k n)
    where
      f : ℕ → Bool
      f j = eqb s (byte order j)

      k : ℕ
      k = lowest_below n f

      go : Dec (k < n) → byte depths s ≡ depth_of (first_that (eqb s) (states_reached b))
      go (yes l) =
          ap (byte depths) (eqb-true s (byte order k) ((lowest_below_law f n).passes l)) ∙ N.found k l
          ∙ ap depth_of (sym (book-first b H (eqb s) ∙ first_some (eqb s) order trail n f (λ j b. refl) k refl l))
      go (no l) =
          N.others s p (omega arith) (λ j c e. eqb-false s (byte order j) ((lowest_below_law f n).first j (omega arith)) (sym e))
          ∙ ap depth_of (sym (book-first b H (eqb s) ∙ first-none (eqb s) order trail n f (λ j b. refl) (omega arith)))
