-- The owner's demands 2 and 3, the states of the book of a policy, the start, row 11 and the levels, what verdict, compare, the page and the way owe
-- for any book, and equal bytes. No theorem here has a hypothesis beyond this: the policies are accepted, or for row 11 and for the starts the rows before row 11 let the files pass, or the books pass
-- the checks and, where two are compared, have one frame.
use mathlib.Core.Path.{◌≡◌, sym, ap, ◌∙◌, subst, subst₂}
use mathlib.Core.List.{List}
use Prim.Native.Nat.{ℕ}
use Rattle.automaton.specs.Machine.{possible, SameHistories}
use Rattle.automaton.proofs.Below.{same-list-true, same-list-yes}
use Rattle.definitions.specs.Policy as P
use Rattle.definitions.specs.Situation.{policy_machine}
use Rattle.definitions.specs.Book as B
use Rattle.definitions.specs.Refusal.{Accepted}
use Rattle.definitions.specs.Build.{book_of}
use Rattle.definitions.specs.Verdict.{findings}
use Rattle.definitions.specs.Compare.{comparison}
use Rattle.definitions.specs.Way.{way}
use Rattle.definitions.specs.Demands.{FindingsAreRight, Demand2, Demand3, WayIsRight, SameBytesIsRight}
use Rattle.definitions.proofs.Accepted.{book-passed}
use Rattle.definitions.proofs.BookOf.{built_frame, built_events, built_requests, built_histories, built_passes, frames-same, books-same}
use Rattle.definitions.proofs.SameHistories.{findings_along, comparison_along, way_along}
-- verdict_right : (b : List ℕ) → book_refusal b ≡ 0 → VerdictIsRight b
pub use Rattle.definitions.proofs.Verdicts.{verdict_right}
-- compare_right : (b d : List ℕ) → book_refusal b ≡ 0 → book_refusal d ≡ 0 → frame b ≡ frame d → CompareIsRight b d
pub use Rattle.definitions.proofs.Comparisons.{compare_right}
-- page-right : (b : List ℕ) → book_refusal b ≡ 0 → PageIsRight b
pub use Rattle.definitions.proofs.Pages.{page-right}
-- ways-right : (b : List ℕ) → book_refusal b ≡ 0 → WaysAreRight b
pub use Rattle.definitions.proofs.Ways.{ways-right}
-- states-right : (p : List ℕ) → Accepted p → StatesAreRight (policy_machine p) (book_of p)
pub use Rattle.definitions.proofs.BookStates.{states-right}
-- start_right : (p : List ℕ) → StartIsRight p
pub use Rattle.definitions.proofs.StartSituation.{start_right}
-- starts-right : (p q : List ℕ) → file_refusal p ≡ 0 → file_refusal q ≡ 0 → SameRules p q → StartsAreRight p q
pub use Rattle.definitions.proofs.SameRules.{starts-right}
-- row11-right : (p : List ℕ) → file_refusal p ≡ 0 → Row11IsRight p
pub use Rattle.definitions.proofs.Row11.{row11-right}
-- levels_right : (p : List ℕ) → LevelsAreRight p
pub use Rattle.definitions.proofs.Levels.{levels_right}

-- the findings on the book, over the policy's histories, events and requests
policy-findings : (p : List ℕ) → Accepted p → FindingsAreRight (policy_machine p) (P.events p) (P.requests p) (findings (book_of p))
policy-findings p accepted =
    let b = book_of p in
    findings_along (B.book_machine b) (policy_machine p) (built_histories p accepted) (P.events p) (P.requests p) (findings b)
    (subst₂ (λ (E Q : ℕ). FindingsAreRight (B.book_machine b) E Q (findings b)) (built_events p accepted) (built_requests p accepted)
    (verdict_right b (built_passes p accepted)).findings)

pub demand2 : (p : List ℕ) → Accepted p → Demand2 p
demand2 p accepted =
    let b = book_of p in
    let passes = built_passes p accepted in
    let layout = ((book-passed b).0 passes).layout in
    record {
      histories = built_histories p accepted;
      findings = policy-findings p accepted;
      passes = passes;
      frame = built_frame p accepted;
      size = layout.exact;
      states = (layout.header.states_some, layout.header.states_most);
    }

-- equal books have equal frames and the same histories
equal-books : (p q : List ℕ) → Accepted p → Accepted q → book_of p ≡ book_of q → (P.frame p ≡ P.frame q) × SameHistories (policy_machine p) (policy_machine q)
equal-books p q first second e = (
  sym (built_frame p first) ∙ ap B.frame e ∙ built_frame q second,
  λ h. sym (built_histories p first h) ∙ ap (λ (b : List ℕ). possible (B.book_machine b) h) e ∙ built_histories q second h,
)

pub demand3 : (p q : List ℕ) → Accepted p → Accepted q → Demand3 p q
demand3 p q first second = record {
  books = (equal-books p q first second, λ r. books-same p q first second r.0 r.1);
  compared = λ frames.
      comparison_along (B.book_machine (book_of p)) (policy_machine p) (B.book_machine (book_of q)) (policy_machine q)
      (built_histories p first) (built_histories q second) (comparison (book_of p) (book_of q))
      (compare_right (book_of p) (book_of q) (built_passes p first) (built_passes q second) (frames-same p q first second frames)).compared;
}

-- the way in the book of an accepted policy, over the policy's histories
pub policy-way : (p : List ℕ) → Accepted p → (r outcome : ℕ) → WayIsRight (policy_machine p) (P.events p) r outcome (way (book_of p) r outcome)
policy-way p accepted r outcome =
    let b = book_of p in
    way_along (B.book_machine b) (policy_machine p) (built_histories p accepted) (P.events p) r outcome (way b r outcome)
    (subst (λ (E : ℕ). WayIsRight (B.book_machine b) E r outcome (way b r outcome)) (built_events p accepted) ((ways-right b (built_passes p accepted)).ways r outcome))

pub same-bytes-right : (x y : List ℕ) → SameBytesIsRight x y
same-bytes-right x y = (same-list-true x y, λ e. sym (same-list-yes x y e))
