-- FixedPoint marks tell the blocked states: a state that a history leads to is blocked exactly if it is not marked.
use mathlib.Core.Path.{◌≡◌, refl, sym, ap, ◌∙◌, subst}
use mathlib.Core.Bool.{Bool, true, false, not, false≢true, true≢false}
use mathlib.Core.List.{List, [], ◌∷◌, ◌++◌}
use mathlib.Core.Option.{Option, none, some}
use Prim.Native.Nat.{ℕ, suc, ◌≤◌, ◌<◌}
use native.Mathlib.Omega.{arith}
use lib.ListN.{length, take}
use Rattle.automaton.specs.Below.{any_below, lowest_below}
use Rattle.automaton.specs.History.{History}
use Rattle.automaton.specs.Machine.{after, is_state, possible}
use Rattle.automaton.specs.Explore.{Reached, first_that}
use Rattle.automaton.proofs.Below.{is_false, any_below_law, any_below_at}
use Rattle.automaton.proofs.Machine.{after_append}
use Rattle.automaton.proofs.Separation.{after-within}
use Rattle.definitions.specs.Answer.{written, history_bytes}
use Rattle.definitions.specs.Bytes.{byte}
use Rattle.definitions.specs.Book.{events, requests, states, entry, book_machine}
use Rattle.definitions.specs.Demands.{Events, BlockedAfter}
use Rattle.definitions.specs.Telling.{some_request, answered, unanswered}
use Rattle.definitions.specs.Verdict.{is_blocked, history_of, blocked}
use Rattle.definitions.proofs.Written.{written_read}
use Rattle.definitions.specs.Checked.{BookPassed}
use Rattle.definitions.proofs.BookSteps.{is_state_law, state-is, has-states, step-is-entry}
use Rattle.definitions.proofs.BlockedHistories.{unanswered_to, unanswered-from, blocked_to, blocked-from}
use Rattle.search.specs.Trail as Trail
use Rattle.search.specs.Found.{reached_at, found_in, Holds, book_states}
use Rattle.findings.specs.Marks.{marked, unmarked_at, marked_successor, Marks, FixedPoint}
use Rattle.search.proofs.FirstFound.{first-none, first_some}
use Rattle.search.proofs.BookSearch.{book-first, book-inside, book-leads}
use Rattle.findings.specs.SoughtRequests.{some_at, sought_finding}
use Rattle.findings.specs.declared.requests.Sought.TheVariants.{Missing}
use Rattle.findings.proofs.LowestBelow.{lowest-end}
use Rattle.findings.proofs.RequestFindings.{none_found}

same_not : (s t : Bool) → (t ≡ true → s ≡ false) → (t ≡ false → s ≡ true) → s ≡ not t
same_not s true f g = f refl
same_not s false f g = g refl

-- ---- what marks say that are a fixed point
module _ (b : List ℕ) (p : BookPassed b) (marks : List Bool) (M : Marks b marks) (F : FixedPoint b marks) where
  -- from a state that is not marked events lead to such states
  event_unmarked : (s c : ℕ) → 1 ≤ s → s ≤ states b → marked marks s ≡ false → c < events b → marked marks (entry b s c) ≡ false
  event_unmarked s c least few e l =
      is_false (marked marks (entry b s c)) (λ q.
      let led : any_below (events b) (marked_successor b marks s) ≡ true = any_below_law (marked_successor b marks s) (events b) c l q in
      true≢false (rw (e, led) at (F s least few)))

  none_answers : (s : ℕ) → 1 ≤ s → s ≤ states b → marked marks s ≡ false
      → (es : History) → Events (events b) es → some_request answered b (after (book_machine b) s es) ≡ false
  none_answers s least few e [] all = is_false (some_request answered b s) (λ q. false≢true (sym e ∙ M.full s least few q))
  none_answers s least few e (c ∷ es) all =
      let l : c < events b = all 0 (omega arith) in
      let is = step-is-entry b s c least (omega arith) in
      rw is (none_answers (entry b s c) (p.event_entry_some s c least few l) (p.entry_most s c least few (omega arith)) (event_unmarked s c least few e l) es (λ i k. all (suc i) (omega arith)))

-- ---- the state that a history leads to
none_at : (f : ℕ → Bool) (n k : ℕ) → any_below n f ≡ false → k < n → f k ≡ false
none_at f n k e l = is_false (f k) (λ q. false≢true (sym e ∙ any_below_law f n k l q))

module _ (b : List ℕ) (ok : BookPassed b) (marks : List Bool) (M : Marks b marks) (F : FixedPoint b marks)
    (h : History) (here : possible (book_machine b) h ≡ true) where
  abbrev s : ℕ
  s = after (book_machine b) 1 h

  least : 1 ≤ s
  least = state-is s here

  few : s ≤ states b
  few = after-within (book_machine b) (states b) (has-states b ok) 1 ok.layout.header.states_some h

  later : (es : History) (r : ℕ) → answered b (after (book_machine b) 1 (h ++ es)) r ≡ answered b (after (book_machine b) s es) r
  later es r = ap (λ (t : ℕ). answered b t r) (after_append (book_machine b) 1 h es)

  marked-answers : BlockedAfter (book_machine b) (events b) (requests b) h → marked marks s ≡ true → ⊥
  marked-answers a e =
      let found = M.sound s least few e in
      let hit = any_below_at (answered b (after (book_machine b) s found.list)) (requests b) found.answers in
      false≢true (sym (unanswered_to b (h ++ found.list) hit.0 (a.1 found.list found.events hit.0 hit.1)) ∙ later found.list hit.0 ∙ hit.2)

  unmarked_blocks : marked marks s ≡ false → BlockedAfter (book_machine b) (events b) (requests b) h
  unmarked_blocks e = (
    here,
    λ es all r l. unanswered-from b (h ++ es) r
        (later es r ∙ none_at (answered b (after (book_machine b) s es)) (requests b) r (none_answers b ok marks M F s least few e es all) l),
  )

  blocked-is : is_blocked b s ≡ not (marked marks s)
  blocked-is =
      same_not (is_blocked b s) (marked marks s) (λ e. is_false (is_blocked b s) (λ q. marked-answers (blocked-from b ok h (here, q)) e))
      (λ e. (blocked_to b ok h (unmarked_blocks e)).1)

-- ---- the states found
module _ (b : List ℕ) (ok : BookPassed b) {n : ℕ} {order trail : List ℕ} (H : Holds (book_states b) n order trail) where
  possible_at_law : (k : ℕ) → k < n → possible (book_machine b) (Trail.history_at trail k) ≡ true
  possible_at_law k l = ap is_state (book-leads b H ok k l) ∙ is_state_law (byte order k) (book-inside b H ok k l).0

  blocked-by : (o : Option Reached) → first_that (is_blocked b) (found_in n order trail) ≡ o → blocked b ≡ history_of o
  unfolding blocked
  blocked-by o e = ap history_of (book-first b H (is_blocked b) ∙ e)

  -- an answer and a buffer that say what is found
  abbrev Tells : Option History → List ℕ → List ℕ → Type 0
  Tells answer buffer after = (answer ≡ blocked b) × (after ≡ written (history_bytes (blocked b)) buffer)

  -- a state that answers every request is not blocked
  answering_at : (k : ℕ) → k < n → some_at Missing b order k ≡ false → is_blocked b (byte order k) ≡ false
  answering_at k l e =
      is_false (is_blocked b (byte order k)) (λ q.
      let h = Trail.history_at trail k in
      let led = book-leads b H ok k l in
      let none = (blocked-from b ok h (possible_at_law k l, rw led q)).1 [] (λ i j. absurd (omega arith)) 0 ok.layout.header.requests_some in
      let same : after (book_machine b) 1 (h ++ []) ≡ byte order k = after_append (book_machine b) 1 h [] ∙ led in
      let first : answered b (byte order k) 0 ≡ false = rw same at (unanswered_to b (h ++ []) 0 none) in
      false≢true (sym e ∙ any_below_law (unanswered b (byte order k)) (requests b) 0 ok.layout.header.requests_some (ap not first)))

  pub tells-answered : sought_finding Missing b ≡ none → (buffer : List ℕ) → Tells none buffer buffer
  tells-answered e buffer =
      let at : ℕ → Bool = λ (k : ℕ). is_blocked b (byte order k) in
      let end = lowest-end at n n (λ k l. answering_at k l (none_found Missing b H e k l)) (omega arith) (omega arith) in
      rw (blocked-by none (first-none (is_blocked b) order trail n at (λ k l. refl) (omega (arith, end)))) (refl, refl)

  module _ {marks : List Bool} (M : Marks b marks) (F : FixedPoint b marks) where
    blocked-at : (k : ℕ) → k < n → is_blocked b (byte order k) ≡ unmarked_at marks order k
    blocked-at k l =
        subst (λ (s : ℕ). is_blocked b s ≡ not (marked marks s)) (book-leads b H ok k l) (blocked-is b ok marks M F (Trail.history_at trail k) (possible_at_law k l))

    pub tells_none : lowest_below n (unmarked_at marks order) ≡ n → (buffer : List ℕ) → Tells none buffer buffer
    tells_none e buffer = rw (blocked-by none (first-none (is_blocked b) order trail n (unmarked_at marks order) blocked-at (omega (arith, e)))) (refl, refl)

    pub tells-blocked : (k m : ℕ) (buffer after : List ℕ) → (k < n) × (k ≡ lowest_below n (unmarked_at marks order))
        → m ≡ length (Trail.history_at trail k) → after ≡ written (Trail.history_at trail k) buffer → Tells (some (take m after)) buffer after
    tells-blocked k m buffer after first em ea =
        rw (
          blocked-by (some (reached_at order trail k)) (first_some (is_blocked b) order trail n (unmarked_at marks order) blocked-at k first.1 first.0),
          written_read (Trail.history_at trail k) buffer m after em ea,
        ) (refl, ea)
