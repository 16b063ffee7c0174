-- What the code answers in document 01's terms, with the buffers as the call leaves them.
use Rattle.std.specs.Prelude.{Result, List, ℕ}
use Rattle.definitions.specs.Answer.{Answer}
use Rattle.definitions.specs.Verdict as Verdict
use Rattle.refusal.specs.declared.Refusal.{Refusal}
use Rattle.refusal.specs.Refused.{answer_in}
use Rattle.findings.specs.declared.Findings.{Findings}
use Rattle.findings.specs.FindingsOf.{findings_of}

abbrev pub judged_answer : Result Findings Refusal → List ℕ → List ℕ → List ℕ → Answer Verdict.Findings
judged_answer judged for_conflict for_missing for_blocked = answer_in (λ found. findings_of found for_conflict for_missing for_blocked) judged

-- the three buffers
abbrev pub buffers_after : List ℕ → List ℕ → List ℕ → Verdict.Buffers
buffers_after for_conflict for_missing for_blocked = record { for_conflict = for_conflict; for_missing = for_missing; for_blocked = for_blocked }
