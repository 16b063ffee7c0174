-- The book of an accepted policy: it has the policy's frame and histories, the checks pass it, and it is the same for every accepted policy with that frame
-- and these histories.
use mathlib.Core.Path.{◌≡◌, refl, sym, ap, ap₂, ◌∙◌}
use mathlib.Core.Bool.{true}
use mathlib.Core.List.{List, [], ◌∷◌, ◌++◌}
use Prim.Native.Nat.{ℕ, ◌≤◌, ◌<◌}
use native.Mathlib.Nat.{le_trans}
use native.Mathlib.Omega.{arith}
use lib.ListN.{length}
use borrow.Author.Tests.{lt-ltb, le-ltb}
use Rattle.automaton.specs.History.{History}
use Rattle.automaton.specs.Machine.{Machine, step, after, is_state, possible, SameHistories}
use Rattle.automaton.specs.Table.{entry_in, tabled}
use Rattle.automaton.proofs.Machine.{is_state_law, state-is, after_append}
use Rattle.automaton.proofs.WellFormed.{IsTable, step-entry}
use Rattle.automaton.proofs.Minimal.{TidyTableOf, built, built_length, built_unique}
use Rattle.definitions.specs.Policy as P
use Rattle.definitions.specs.Situation.{start_situation, policy_machine}
use Rattle.definitions.specs.Book as B
use Rattle.definitions.specs.Book.{book_bytes, book_machine}
use Rattle.definitions.specs.Refusal.{file_refusal, situations, Accepted, book_refusal}
use Rattle.definitions.specs.Build.{book_rows, book_of}
use Rattle.definitions.proofs.Accepted.{FileAccepted, file_accepted, policy_accepted, book-passed}
use Rattle.definitions.specs.Checked.{BookHeader, BookLayout, BookPassed}
use Rattle.definitions.proofs.BookBytes.{states_of-bytes, length-of-bytes, entry-of-bytes, after-of-bytes, policy-count, policy-requests, policy-width}
use Rattle.definitions.proofs.Steps.{start-below, start-is-state, after-below, event_possible}

-- ---- a tidy table of a machine
module _ (w : ℕ) (m : Machine) (rows : List (List ℕ)) (t : TidyTableOf w m rows) where
  abbrev M : Machine
  M = tabled w rows

  -- each row is reached, so a code that is possible after every possible history is possible in each row
  always_in_rows : (c : ℕ) → ((h : History) → possible m h ≡ true → possible m (h ++ (c ∷ [])) ≡ true)
      → (s : ℕ) → 1 ≤ s → s ≤ length rows → is_state (step M s c) ≡ true
  always_in_rows c always s some l =
      let h = t.numbered.history s in
      let leads : after M 1 h ≡ s = (t.numbered.earliest s some l).0 in
      let here : possible M h ≡ true = ap is_state leads ∙ is_state_law s some in
      ap is_state (sym (after_append M 1 h (c ∷ []) ∙ ap (λ (q : ℕ). step M q c) leads))
      ∙ t.histories (h ++ (c ∷ [])) ∙ always h (sym (t.histories h) ∙ here)

-- ---- a policy's frame with a table in which no entry for an event is 0
module _ (p : List ℕ) (passes : file_refusal p ≡ 0) (rows : List (List ℕ)) (is_table : IsTable (P.width p) rows) (few : length rows ≤ 127)
    (event : (s e : ℕ) → 1 ≤ s → s ≤ length rows → e < P.events p → 1 ≤ entry_in rows s e) where
  abbrev b : List ℕ
  b = book_bytes (P.frame p) rows

  ok : FileAccepted p
  ok = file_accepted p passes

  width_is : B.width b ≡ P.width p
  width_is = policy-width p rows passes

  count-is : (f : ℕ) → f < P.fields p → B.count b f ≡ P.count p f
  count-is f l = policy-count p rows f (omega (arith, ok.fields_most)) ∙ rw (lt-ltb f (P.fields p) l)

  entry-is : (s c : ℕ) → 1 ≤ s → s ≤ length rows → c < P.width p → B.entry b s c ≡ entry_in rows s c
  entry-is = entry-of-bytes (P.frame p) rows refl (P.width p) width_is is_table.wide

  header : BookHeader b
  header = record {
    events_most = ok.events_most;
    fields_some = ok.fields_some;
    fields_most = ok.fields_most;
    count_some = λ f l. rw (count-is f l) (ok.count_some f l);
    count_most = λ f l. rw (count-is f l) (ok.count_most f l);
    count_absent = λ f l k. policy-count p rows f k ∙ rw (le-ltb f (P.fields p) l);
    requests_some = rw (policy-requests p rows passes) ok.requests_some;
    requests_most = rw (policy-requests p rows passes) ok.requests_most;
    width_most = rw width_is ok.width_most;
    states_some = is_table.some;
    states_most = few;
  }

  layout : BookLayout b
  layout = record { header = header; exact = rw width_is (length-of-bytes (P.frame p) rows refl (P.width p) is_table.wide) }

  bytes_pass : BookPassed b
  bytes_pass = record {
    long = omega (arith, layout.exact);
    mark = (refl, refl, refl);
    version = (refl, refl);
    layout = layout;
    entry_most = λ s c some most l. rw (entry-is s c some most (rw width_is at l)) (is_table.inside s c);
    event_entry_some = λ s e some most l. rw (entry-is s e some most (omega arith)) (event s e some most l);
  }

-- ---- the book of an accepted policy
module _ (p : List ℕ) (accepted : Accepted p) where
  file-passes : file_refusal p ≡ 0
  file-passes = (policy_accepted p accepted).0

  few : length (situations p) ≤ 127
  few = (policy_accepted p accepted).1

  pub rows-tidy : TidyTableOf (P.width p) (policy_machine p) (book_rows p)
  unfolding book_rows situations
  rows-tidy = built (policy_machine p) 127 (start-is-state p) few

  rows_few : length (book_rows p) ≤ 127
  unfolding book_rows situations
  rows_few = le_trans (built_length (policy_machine p) 127 (start-is-state p) few) few

  -- an event is possible after every history that is
  event_always : (e : ℕ) → e < P.events p → (h : History) → possible (policy_machine p) h ≡ true → possible (policy_machine p) (h ++ (e ∷ [])) ≡ true
  event_always e l h q =
      ap is_state (after_append (policy_machine p) (start_situation p) h (e ∷ []))
      ∙ event_possible p (after (policy_machine p) (start_situation p) h) e q (after-below p (start_situation p) (start-below p) h) l

  event_entry : (s e : ℕ) → 1 ≤ s → s ≤ length (book_rows p) → e < P.events p → 1 ≤ entry_in (book_rows p) s e
  event_entry s e some most l =
      rw (step-entry (P.width p) (book_rows p) rows-tidy.is_table s e) at
      (state-is (step (tabled (P.width p) (book_rows p)) s e)
      (always_in_rows (P.width p) (policy_machine p) (book_rows p) rows-tidy e (event_always e l) s some most))

  pub built_frame : B.frame (book_of p) ≡ P.frame p
  unfolding book_of
  built_frame = refl

  pub built_events : B.events (book_of p) ≡ P.events p
  unfolding book_of
  built_events = refl

  pub built_requests : B.requests (book_of p) ≡ P.requests p
  unfolding book_of
  built_requests = policy-requests p (book_rows p) file-passes

  pub built_states : B.states (book_of p) ≡ length (book_rows p)
  unfolding book_of
  built_states = states_of-bytes (P.frame p) (book_rows p) refl

  -- a history leads to the same row in the book and in the table
  pub built_after : (h : History) → after (book_machine (book_of p)) 1 h ≡ after (tabled (P.width p) (book_rows p)) 1 h
  unfolding book_of
  built_after =
      after-of-bytes (P.frame p) (book_rows p) refl (P.width p) (policy-width p (book_rows p) file-passes) rows-tidy.is_table 1 rows-tidy.is_table.some

  pub built_histories : SameHistories (book_machine (book_of p)) (policy_machine p)
  built_histories h = ap is_state (built_after h) ∙ rows-tidy.histories h

  pub built_passes : book_refusal (book_of p) ≡ 0
  unfolding book_of
  built_passes = (book-passed (book_bytes (P.frame p) (book_rows p))).1 (bytes_pass p file-passes (book_rows p) rows-tidy.is_table rows_few event_entry)

-- ---- and of two
module _ (p q : List ℕ) (first : Accepted p) (second : Accepted q) (frames : P.frame p ≡ P.frame q) where
  pub frames-same : B.frame (book_of p) ≡ B.frame (book_of q)
  frames-same = built_frame p first ∙ frames ∙ sym (built_frame q second)

  widths_same : P.width p ≡ P.width q
  widths_same =
      sym (policy-width p [] (file-passes p first)) ∙ ap (λ (frame : List ℕ). B.width (book_bytes frame [])) frames ∙ policy-width q [] (file-passes q second)

  rows_same : SameHistories (policy_machine p) (policy_machine q) → book_rows p ≡ book_rows q
  unfolding book_rows situations
  rows_same = built_unique (policy_machine p) (policy_machine q) widths_same 127 (start-is-state p) (start-is-state q) (few p first) (few q second)

  pub books-same : SameHistories (policy_machine p) (policy_machine q) → book_of p ≡ book_of q
  unfolding book_of
  books-same same = ap₂ book_bytes frames (rows_same same)
