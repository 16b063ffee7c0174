-- What each finding of the code says in document 01's terms, with the buffers as the call leaves them.
use Rattle.std.specs.Prelude.{Option, None, Some, List, ℕ, take}
use Rattle.std.proofs.Math.Option as Maybe
use Rattle.automaton.specs.History.{History}
use Rattle.definitions.specs.Verdict as Verdict
use Rattle.findings.specs.declared.finding.Found.{Found}
use Rattle.findings.specs.declared.Findings.{Findings}

-- the request, and the history from the front of its buffer
abbrev pub found_of : Option Found → List ℕ → Maybe.Option Verdict.Found
found_of None buffer = Maybe.none
found_of (Some found) buffer = Maybe.some (record { request = found.request; history = take found.length buffer })

abbrev pub blocked_of : Option ℕ → List ℕ → Maybe.Option History
blocked_of None buffer = Maybe.none
blocked_of (Some n) buffer = Maybe.some (take n buffer)

abbrev pub findings_of : Findings → List ℕ → List ℕ → List ℕ → Verdict.Findings
findings_of found for_conflict for_missing for_blocked = record {
  conflict = found_of found.conflict for_conflict;
  missing = found_of found.missing for_missing;
  blocked = blocked_of found.blocked for_blocked;
}
