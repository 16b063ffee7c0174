-- The rows of a verdict judged in order (row 1 for each buffer, then those of the book), and its answer and its buffers from the findings.
use mathlib.Core.Path.{◌≡◌, ap, ◌∙◌}
use mathlib.Core.Bool.{◌&&◌}
use mathlib.Core.List.{List}
use Prim.Native.Nat.{ℕ, ◌≤◌, ◌<◌}
use lib.Dec.{leb}
use lib.ListN.{length}
use borrow.Author.Tests.{le-leb, lt-leb, leb-true}
use Rattle.automaton.proofs.Below.{and-true}
use Rattle.definitions.specs.Answer.{refused, given, written, history_bytes}
use Rattle.definitions.specs.Refusal.{book_refusal}
use Rattle.definitions.specs.Verdict.{found_history, conflict, missing, blocked, Findings, findings, verdict_refusal, verdict_answer, verdict_buffers}
use Rattle.definitions.proofs.Tests.{judge-zero}
use Rattle.definitions.proofs.Answers.{refused_answer, given-answer, refused_buffer}
use Rattle.verdict.specs.VerdictAnswer.{buffers_after}

-- ---- the rows
module _ (b for_conflict for_missing for_blocked : List ℕ) where
  pub short-conflict : length for_conflict < 128 → 1 ≡ verdict_refusal b for_conflict for_missing for_blocked
  unfolding verdict_refusal
  short-conflict l = rw (lt-leb 128 (length for_conflict) l)

  module _ (long_conflict : 128 ≤ length for_conflict) where
    pub short-missing : length for_missing < 128 → 1 ≡ verdict_refusal b for_conflict for_missing for_blocked
    unfolding verdict_refusal
    short-missing l = rw (le-leb 128 (length for_conflict) long_conflict, lt-leb 128 (length for_missing) l)

    module _ (long_missing : 128 ≤ length for_missing) where
      pub short-blocked : length for_blocked < 128 → 1 ≡ verdict_refusal b for_conflict for_missing for_blocked
      unfolding verdict_refusal
      short-blocked l = rw (le-leb 128 (length for_conflict) long_conflict, le-leb 128 (length for_missing) long_missing, lt-leb 128 (length for_blocked) l)

      pub by-book : 128 ≤ length for_blocked → book_refusal b ≡ verdict_refusal b for_conflict for_missing for_blocked
      unfolding verdict_refusal
      by-book l = rw (le-leb 128 (length for_conflict) long_conflict, le-leb 128 (length for_missing) long_missing, le-leb 128 (length for_blocked) l)

-- no row refuses the call
pub record NotRefused (b for_conflict for_missing for_blocked : List ℕ) : Type 0 where
  pub long_conflict : 128 ≤ length for_conflict
  pub long_missing : 128 ≤ length for_missing
  pub long_blocked : 128 ≤ length for_blocked
  pub book : book_refusal b ≡ 0

pub not_refused : (b for_conflict for_missing for_blocked : List ℕ) → verdict_refusal b for_conflict for_missing for_blocked ≡ 0 → NotRefused b for_conflict for_missing for_blocked
unfolding verdict_refusal
not_refused b for_conflict for_missing for_blocked e =
    let rows = (judge-zero 0 (leb 128 (length for_conflict) && leb 128 (length for_missing) && leb 128 (length for_blocked)) (book_refusal b)).0 e in
    let two = and-true _ _ rows.0 in
    let one = and-true _ _ two.0 in
    record {
      long_conflict = leb-true 128 (length for_conflict) one.0;
      long_missing = leb-true 128 (length for_missing) one.1;
      long_blocked = leb-true 128 (length for_blocked) two.1;
      book = rows.1;
    }

-- ---- the answer and the buffers
module _ (b for_conflict for_missing for_blocked : List ℕ) where
  pub answer_refused : (x : ℕ) → x ≡ verdict_refusal b for_conflict for_missing for_blocked → (x ≡ 0 → ⊥)
      → (refused x ≡ verdict_answer b for_conflict for_missing for_blocked) × (buffers_after for_conflict for_missing for_blocked ≡ verdict_buffers b for_conflict for_missing for_blocked)
  unfolding verdict_answer verdict_buffers
  answer_refused x ex n =
      rw (← ex) (
        refused_answer x n (findings b),
        rw (
          ← refused_buffer x (history_bytes (found_history (conflict b))) for_conflict n,
          ← refused_buffer x (history_bytes (found_history (missing b))) for_missing n,
          ← refused_buffer x (history_bytes (blocked b)) for_blocked n,
        ),
      )

  -- x, y and z are the buffers with the histories of what is found
  pub answer-given : verdict_refusal b for_conflict for_missing for_blocked ≡ 0 → (found : Findings) (x y z : List ℕ) → found ≡ findings b
      → x ≡ written (history_bytes (found_history (conflict b))) for_conflict
      → y ≡ written (history_bytes (found_history (missing b))) for_missing
      → z ≡ written (history_bytes (blocked b)) for_blocked
      → (given found ≡ verdict_answer b for_conflict for_missing for_blocked) × (buffers_after x y z ≡ verdict_buffers b for_conflict for_missing for_blocked)
  unfolding verdict_answer verdict_buffers
  answer-given passes found x y z is ex ey ez = (ap given is ∙ given-answer _ passes (findings b), rw (passes, ex, ey, ez))
