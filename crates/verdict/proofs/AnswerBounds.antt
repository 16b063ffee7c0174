-- What the code answers is small: the lengths and requests that it tells are those of document 01's findings.
use mathlib.Core.Path.{◌≡◌, refl}
use mathlib.Core.List.{List}
use mathlib.Core.Option.{some}
use Prim.Native.Nat.{ℕ, ◌≤◌, ◌<◌}
use native.Mathlib.Omega.{arith}
use lib.ListN.{length}
use Rattle.std.specs.Prelude.{Option, None, Some, Result, Ok, Err}
use Rattle.automaton.specs.History.{History}
use Rattle.definitions.specs.Verdict as Verdict
use Rattle.definitions.proofs.Written.{length_taken}
use Rattle.refusal.specs.declared.Refusal.{Refusal}
use Rattle.findings.specs.FindingsOf.{found_of, blocked_of}
use Rattle.findings.specs.declared.finding.Found.{Found}
use Rattle.findings.specs.declared.Findings.{Findings}
use Rattle.verdict.specs.VerdictAnswer.{judged_answer}
use Rattle.verdict.specs.AnswerBounds.{BlockedWithin, FindingWithin, JudgedWithin}
use Rattle.verdict.proofs.SmallFindings.{SmallFound, given_small}

-- ---- the findings: the number of codes that are read off a buffer is the length of the history
module _ (buffer : List ℕ) (room : 128 ≤ length buffer) where
  finding-within : (r : Option Found) → ((t : Verdict.Found) → found_of r buffer ≡ some t → SmallFound t) → FindingWithin 128 r × FindingWithin (length buffer) r
  finding-within None small = (tt, tt)
  finding-within (Some found) small =
      let few = small _ refl in
      let is = length_taken found.length buffer (omega arith) in
      ((omega arith, omega arith), (omega arith, omega arith))

  blocked-within : (r : Option ℕ) → ((h : History) → blocked_of r buffer ≡ some h → length h < 127) → BlockedWithin 128 r × BlockedWithin (length buffer) r
  blocked-within None small = (tt, tt)
  blocked-within (Some n) small =
      let few = small _ refl in
      let is = length_taken n buffer (omega arith) in
      (omega arith, omega arith)

pub judged-within : (b for_conflict for_missing for_blocked : List ℕ) (r : Result Findings Refusal) (x y z : List ℕ)
    → length x ≡ length for_conflict → length y ≡ length for_missing → length z ≡ length for_blocked
    → judged_answer r x y z ≡ Verdict.verdict_answer b for_conflict for_missing for_blocked
    → JudgedWithin 128 128 128 r × JudgedWithin (length x) (length y) (length z) r
judged-within b for_conflict for_missing for_blocked (Err refusal) x y z ex ey ez e = (tt, tt)
judged-within b for_conflict for_missing for_blocked (Ok found) x y z ex ey ez e =
    let is = given_small b for_conflict for_missing for_blocked _ e in
    let conflict = finding-within x (omega (arith, is.0.long_conflict)) found.conflict is.1.of_conflict in
    let missing = finding-within y (omega (arith, is.0.long_missing)) found.missing is.1.of_missing in
    let blocked = blocked-within z (omega (arith, is.0.long_blocked)) found.blocked is.1.of_blocked in
    (record { conflict = conflict.0; missing = missing.0; blocked = blocked.0 }, record { conflict = conflict.1; missing = missing.1; blocked = blocked.1 })
