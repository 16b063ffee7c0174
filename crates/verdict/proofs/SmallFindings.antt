-- How large the numbers of a finding are: its history has fewer codes than the book has states, and its request is one of the book's.
use mathlib.Core.Path.{◌≡◌, subst⁻¹}
use mathlib.Core.List.{List}
use mathlib.Core.Option.{some}
use Prim.Native.Nat.{ℕ, ◌<◌}
use native.Mathlib.Omega.{arith}
use lib.ListN.{length}
use Rattle.automaton.specs.History.{History}
use Rattle.definitions.specs.Answer.{given}
use Rattle.definitions.specs.Refusal.{book_refusal}
use Rattle.definitions.specs.Verdict.{Found, Findings, findings, verdict_refusal, verdict_answer}
use Rattle.definitions.specs.Demands.{VerdictIsRight}
use Rattle.definitions.specs.Checked.{BookLayout}
use Rattle.definitions.proofs.Accepted.{book-passed}
use Rattle.definitions.proofs.Answers.{answer-given}
use Rattle.definitions.proofs.Demands.{verdict_right}
use Rattle.verdict.proofs.VerdictAnswer.{NotRefused, not_refused}

abbrev pub SmallFound : Found → Type 0
SmallFound t = (length t.history < 127) × (t.request < 64)

pub record SmallFindings (found : Findings) : Type 0 where
  pub of_conflict : (t : Found) → found.conflict ≡ some t → SmallFound t
  pub of_missing : (t : Found) → found.missing ≡ some t → SmallFound t
  pub of_blocked : (h : History) → found.blocked ≡ some h → length h < 127

module _ (b : List ℕ) (passes : book_refusal b ≡ 0) where
  layout : BookLayout b
  layout = ((book-passed b).0 passes).layout

  right : VerdictIsRight b
  right = verdict_right b passes

  pub findings_small : SmallFindings (findings b)
  unfolding findings
  findings_small = record {
    of_conflict = λ t e.
        (omega (arith, right.conflict_short t e, layout.header.states_most), omega (arith, (right.findings.conflict_right.request t e).0, layout.header.requests_most));
    of_missing = λ t e.
        (omega (arith, right.missing_short t e, layout.header.states_most), omega (arith, (right.findings.missing_right.request t e).0, layout.header.requests_most));
    of_blocked = λ h e. omega (arith, right.blocked_short h e, layout.header.states_most);
  }

-- findings are given only where no row refuses the call
module _ (b for_conflict for_missing for_blocked : List ℕ) where
  pub given_small : (found : Findings) → given found ≡ verdict_answer b for_conflict for_missing for_blocked
      → NotRefused b for_conflict for_missing for_blocked × SmallFindings found
  unfolding verdict_answer
  given_small found e =
      let is = answer-given (verdict_refusal b for_conflict for_missing for_blocked) found (findings b) e in
      let rows = not_refused b for_conflict for_missing for_blocked is.0 in
      (rows, subst⁻¹ SmallFindings is.1 (findings_small b rows.book))
