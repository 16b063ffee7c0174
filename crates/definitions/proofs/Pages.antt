-- The page of a book that passes, built here or not, is right: each line shows the length of the earliest history that leads to its state, dashes exactly where
-- none does, and what may happen to each request after any that does. It ends in page-right and page-fits.
use mathlib.Core.Path.{◌≡◌, refl, sym, ap, ◌∙◌, subst}
use mathlib.Core.List.{List, [], append-nil}
use mathlib.Core.Option.{Option, none, some}
use Prim.Native.Nat.{ℕ, zero, suc, ◌+◌, ◌-◌, ◌*◌, ◌≤◌, ◌<◌}
use native.Mathlib.Omega.{arith}
use lib.Dec.{eqb, leb}
use lib.ListN.{length, get_or, take, drop}
use borrow.Author.Tests.{eqb-true, eq-eqb, lt-ltb, le-ltb, leb-true}
use Rattle.automaton.specs.History.{History, Earliest}
use Rattle.automaton.specs.Machine.{after}
use Rattle.automaton.specs.Explore.{Reached, first_that}
use Rattle.automaton.proofs.Machine.{is_state_law}
use Rattle.automaton.proofs.Earliest.{Passes, first-earliest, first-none}
use Rattle.definitions.specs.Book.{events, requests, states, book_machine}
use Rattle.definitions.specs.Refusal.{book_refusal}
use Rattle.definitions.specs.Checked.{BookPassed}
use Rattle.definitions.specs.Telling.{telling}
use Rattle.definitions.specs.Verdict.{states_reached}
use Rattle.definitions.specs.Page.{three_columns, dashes, length_columns, letter, page_line, page_lines, page, page_refusal}
use Rattle.definitions.specs.Demands.{telling_after, LeadsTo, StateOf, LineIsRight, PageIsRight}
use Rattle.definitions.proofs.Tests.{judge-zero}
use Rattle.definitions.proofs.Accepted.{book-passed}
use Rattle.definitions.proofs.HistoryTellings.{telling_at}
use Rattle.definitions.proofs.RowsWritten.{row_of-concat}
use Rattle.definitions.proofs.Verdicts.{explored}
use Rattle.definitions.proofs.PageLines.{columns_last, line-length, line-number, line-shown, line-blanks, line-letter, line-end, lines-count, lines_at, lines-wide, page_length_law}

-- a number's columns are no dashes
no_dashes : (n : ℕ) → three_columns n ≡ dashes → ⊥
no_dashes n e = omega (arith, columns_last n, ap (λ (l : List ℕ). get_or l 2 0) e)

module _ (b : List ℕ) (ok : BookPassed b) (s : ℕ) (some-state : 1 ≤ s) where
  -- a history that leads to s is one whose state is found by the test for s
  passes_to : (h : History) → LeadsTo (book_machine b) s h → Passes (book_machine b) (eqb s) h
  passes_to h l = (rw l (is_state_law s some-state), eq-eqb s (after (book_machine b) 1 h) (sym l))

  passes-from : (h : History) → Passes (book_machine b) (eqb s) h → LeadsTo (book_machine b) s h
  passes-from h p = sym (eqb-true s (after (book_machine b) 1 h) p.1)

  -- ---- the length, as it is shown for what the search finds
  leads-earliest : (t : Reached) → first_that (eqb s) (states_reached b) ≡ some t → Earliest (LeadsTo (book_machine b) s) t.history
  leads-earliest t is =
      let first = (first-earliest (eqb s) (book_machine b) (states_reached b) (explored b ok) t is).earliest in
      (passes-from t.history first.0, λ k l. first.1 k (passes_to k l))

  length-earliest : (o : Option Reached) → first_that (eqb s) (states_reached b) ≡ o → (h : History) → LeadsTo (book_machine b) s h
      → (g : History) × Earliest (LeadsTo (book_machine b) s) g × (length_columns o ≡ three_columns (length g))
  length-earliest none is h l = absurd (first-none (eqb s) (book_machine b) (states_reached b) (explored b ok) is h (passes_to h l))
  length-earliest (some t) is h l = (t.history, leads-earliest t is, refl)

  length_none : (o : Option Reached) → first_that (eqb s) (states_reached b) ≡ o → ((h : History) → LeadsTo (book_machine b) s h → ⊥) → length_columns o ≡ dashes
  length_none none is never = refl
  length_none (some t) is never = absurd (never t.history (leads-earliest t is).0)

  -- ---- the line
  abbrev line : List ℕ
  line = page_line b (states_reached b) s

  line_row : requests b ≤ 64 → (r : ℕ) → r < requests b → get_or line (8 + r) 0 ≡ letter (telling b s r)
  line_row few r l = line-letter b (states_reached b) s r (omega arith) ∙ rw (lt-ltb r (requests b) l)

  -- what a state tells is what may happen after a history that leads to it
  telling_after_law : (r : ℕ) (h : History) → LeadsTo (book_machine b) s h → telling b s r ≡ telling_after (book_machine b) (events b) h r
  telling_after_law r h l = subst (λ (t : ℕ). telling b t r ≡ telling_after (book_machine b) (events b) h r) l (telling_at b h r)

  line-right : LineIsRight b s line
  line-right =
      let o = first_that (eqb s) (states_reached b) in
      let few = ok.layout.header.requests_most in
      let shown = line-shown b (states_reached b) s in
      record {
        size = line-length b (states_reached b) s;
        end = line-end b (states_reached b) s;
        number = line-number b (states_reached b) s;
        blanks = line-blanks b (states_reached b) s;
        earliest = λ h l. let g = length-earliest o refl h l in (g.0, g.1, shown ∙ g.2);
        unreached = (
          λ e h l. let g = length-earliest o refl h l in no_dashes (length g.0) (sym g.2 ∙ sym shown ∙ e),
          λ never. shown ∙ length_none o refl never,
        );
        letters = λ r l h leads. line_row few r l ∙ ap letter (telling_after_law r h leads);
        row = line_row few;
        beyond = λ r l m. line-letter b (states_reached b) s r m ∙ rw (le-ltb r (requests b) l);
      }

-- the bytes of a line in its page
line_of : (b : List ℕ) (i : ℕ) → i < states b → take 73 (drop (i * 73) (page b)) ≡ page_line b (states_reached b) (suc i)
unfolding page
line_of b i l =
    ap (λ (x : List ℕ). take 73 (drop (i * 73) x)) (sym (append-nil (page b)))
    ∙ row_of-concat 73 (page_lines b) [] (lines-wide b) i (omega (arith, lines-count b))
    ∙ lines_at b i l

-- what the page owes for any book that rows 12 to 14 let pass
pub page-right : (b : List ℕ) → book_refusal b ≡ 0 → PageIsRight b
page-right b passes =
    let ok = (book-passed b).0 passes in
    record {
      size = page_length_law b;
      room = omega (arith, ok.layout.header.states_most);
      lines = lines ok;
    }
  where
    lines : BookPassed b → (s : ℕ) → StateOf b s → LineIsRight b s (take 73 (drop ((s - 1) * 73) (page b)))
    lines ok zero of = absurd (omega arith)
    lines ok (suc i) of =
        let back : suc i - 1 ≡ i = omega arith in
        let here : take 73 (drop (i * 73) (page b)) ≡ page_line b (states_reached b) (suc i) = line_of b i of.1 in
        rw (back, here) (line-right b ok (suc i) of.0)

-- a buffer that row 1 lets pass has room for the page
pub page-fits : (b buffer : List ℕ) → page_refusal b buffer ≡ 0 → length (page b) ≤ length buffer
unfolding page_refusal
page-fits b buffer passes =
    let rows = (judge-zero 0 (leb 9271 (length buffer)) (book_refusal b)).0 passes in
    let right = page-right b rows.1 in
    omega (arith, right.size, right.room, leb-true 9271 (length buffer) rows.0)
