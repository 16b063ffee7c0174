-- Answers whose numbers are at most the given ones, so that their histories lie within the buffers.
use Rattle.std.specs.Prelude.{Option, Result, IfSome, IfOk, ℕ, ◌≤◌, ◌<◌}
use Rattle.refusal.specs.declared.Refusal.{Refusal}
use Rattle.findings.specs.declared.finding.Found.{Found}
use Rattle.findings.specs.declared.Findings.{Findings}

-- a history of at most so many codes
abbrev pub BlockedWithin : ℕ → Option ℕ → Type 0
BlockedWithin most blocked = IfSome blocked (λ n. n ≤ most)

-- and a request that fits into a byte
abbrev pub FindingWithin : ℕ → Option Found → Type 0
FindingWithin most finding = IfSome finding (λ found. (found.length ≤ most) × (found.request < 256))

-- each finding with its own bound
pub record FindingsWithin (x y z : ℕ) (found : Findings) : Type 0 where
  pub conflict : FindingWithin x found.conflict
  pub missing : FindingWithin y found.missing
  pub blocked : BlockedWithin z found.blocked

abbrev pub JudgedWithin : ℕ → ℕ → ℕ → Result Findings Refusal → Type 0
JudgedWithin x y z judged = IfOk judged (FindingsWithin x y z)
