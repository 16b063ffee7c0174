-- The contract of `verdict` leaves nothing free: what is returned is told by document 01's answer, and the numbers of codes are the lengths of its histories.
use mathlib.Core.Path.{◌≡◌, refl, ap, sym, ◌∙◌}
use mathlib.Core.List.{List}
use mathlib.Core.Option as Maybe
use Prim.Native.Nat.{ℕ, ◌≤◌, ◌<◌}
use native.Mathlib.Omega.{arith}
use lib.ListN.{length}
use Rattle.std.specs.Prelude.{Option, None, Some, Result, Ok, Err}
use Rattle.automaton.specs.History.{History}
use Rattle.definitions.specs.Answer.{Answer, refused, given, history_bytes}
use Rattle.definitions.specs.Verdict as Verdict
use Rattle.definitions.proofs.Answers.{no_shorter}
use Rattle.definitions.proofs.Written.{length_taken}
use Rattle.refusal.proofs.Refused.{refusal_of, refusal-is}
use Rattle.refusal.specs.declared.Refusal.{Refusal}
use Rattle.findings.specs.FindingsOf.{found_of, blocked_of}
use Rattle.findings.specs.declared.finding.Found.{Found}
use Rattle.findings.specs.declared.Findings.{Findings}
use Rattle.verdict.specs.VerdictAnswer.{judged_answer, buffers_after}
use Rattle.verdict.proofs.SmallFindings.{SmallFound, given_small}

-- ---- what is returned for an answer
abbrev found_with : ℕ → ℕ → Found
found_with request n = record { request = request; length = n }

abbrev pub finding_of : Maybe.Option Verdict.Found → Option Found
finding_of Maybe.none = None
finding_of (Maybe.some t) = Some (found_with t.request (length t.history))

abbrev pub blocking_of : Maybe.Option History → Option ℕ
blocking_of Maybe.none = None
blocking_of (Maybe.some h) = Some (length h)

abbrev pub judged_of : Answer Verdict.Findings → Result Findings Refusal
judged_of (refused number) = Err (refusal_of number)
judged_of (given found) =
    Ok (record { conflict = finding_of found.conflict; missing = finding_of found.missing; blocked = blocking_of found.blocked })

-- ---- a finding whose history does not fill the buffer
module _ (buffer : List ℕ) (room : 128 ≤ length buffer) where
  finding-is : (r : Option Found) → ((t : Verdict.Found) → found_of r buffer ≡ Maybe.some t → SmallFound t) → r ≡ finding_of (found_of r buffer)
  finding-is None small = refl
  finding-is (Some found) small = ap (λ (n : ℕ). Some (found_with found.request n)) (sym (length_taken found.length buffer (omega (arith, (small _ refl).0))))

  blocking_is : (r : Option ℕ) → ((h : History) → blocked_of r buffer ≡ Maybe.some h → length h < 127) → r ≡ blocking_of (blocked_of r buffer)
  blocking_is None small = refl
  blocking_is (Some n) small = ap (λ (k : ℕ). Some k) (sym (length_taken n buffer (omega (arith, small _ refl))))

-- ---- x, y and z are the buffers after the call
module _ (b for_conflict for_missing for_blocked x y z : List ℕ) where
  buffers_no_shorter : buffers_after x y z ≡ Verdict.verdict_buffers b for_conflict for_missing for_blocked
      → (length for_conflict ≤ length x) × (length for_missing ≤ length y) × (length for_blocked ≤ length z)
  unfolding Verdict.verdict_buffers
  buffers_no_shorter e =
      let refusal = Verdict.verdict_refusal b for_conflict for_missing for_blocked in (
        rw (ap (λ (all : Verdict.Buffers). all.for_conflict) e) (no_shorter refusal (history_bytes (Verdict.found_history (Verdict.conflict b))) for_conflict),
        rw (ap (λ (all : Verdict.Buffers). all.for_missing) e) (no_shorter refusal (history_bytes (Verdict.found_history (Verdict.missing b))) for_missing),
        rw (ap (λ (all : Verdict.Buffers). all.for_blocked) e) (no_shorter refusal (history_bytes (Verdict.blocked b)) for_blocked),
      )

  pub judged-is : (r : Result Findings Refusal) → judged_answer r x y z ≡ Verdict.verdict_answer b for_conflict for_missing for_blocked
      → buffers_after x y z ≡ Verdict.verdict_buffers b for_conflict for_missing for_blocked
      → r ≡ judged_of (Verdict.verdict_answer b for_conflict for_missing for_blocked)
  judged-is (Err refusal) e eb = ap (λ (x : Refusal). Err x) (refusal-is refusal) ∙ ap judged_of e
  judged-is (Ok found) e eb =
      let is = given_small b for_conflict for_missing for_blocked _ e in
      let long = buffers_no_shorter eb in
      let conflict = finding-is x (omega (arith, is.0.long_conflict)) found.conflict is.1.of_conflict in
      let missing = finding-is y (omega (arith, is.0.long_missing)) found.missing is.1.of_missing in
      let blocked = blocking_is z (omega (arith, is.0.long_blocked)) found.blocked is.1.of_blocked in
      rw (conflict, missing, blocked) (ap judged_of e)
