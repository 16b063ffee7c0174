-- The answer and the buffer of `compare` from what was found. Its contract leaves nothing free: what is returned is told by document 01's answer, and a
-- history's length is what the result holds.
use mathlib.Core.Path.{◌≡◌, refl, ap, sym, ◌∙◌}
use mathlib.Core.List.{List}
use mathlib.Core.Option as Maybe
use Prim.Native.Nat.{ℕ, ◌+◌, ◌≤◌, ◌<◌}
use native.Mathlib.Omega.{arith}
use lib.ListN.{length, set, length-append, take}
use Rattle.std.specs.Prelude.{Option, None, Some, Result, Ok, Err}
use Rattle.automaton.specs.History.{History}
use Rattle.definitions.specs.Answer.{Answer, refused, given, written, history_bytes}
use Rattle.definitions.specs.Book.{frame}
use Rattle.definitions.specs.Compare.{comparison, compare_refusal, compare_answer, compare_buffer}
use Rattle.automaton.proofs.Below.{same-list-true}
use Rattle.definitions.proofs.Written.{written_next, length_taken}
use Rattle.definitions.proofs.Answers.{given-answer, refused_buffer, given-buffer, answer-given, no_shorter}
use Rattle.definitions.proofs.Accepted.{book-passed}
use Rattle.definitions.proofs.Comparisons.{compare_right}
use Rattle.refusal.specs.declared.Refusal.{Refusal}
use Rattle.refusal.specs.Refused.{number_of}
use Rattle.refusal.proofs.Refused.{some_number, answer-err, refusal_of, refusal-is}
use Rattle.search.specs.Trail.{history_at}
use Rattle.search.proofs.Trails.{history-short}
use Rattle.comparepairs.specs.PairSearch.{Traced, difference_at}
use Rattle.compare.specs.ComparedAnswer.{compared_answer}
use Rattle.compare.proofs.CompareRefusals.{compare_passed}

-- ---- the answer and the buffer
module _ (b d buffer : List ℕ) where
  pub compare_refused : (r : Refusal) → number_of r ≡ compare_refusal b d buffer → (refused (number_of r) ≡ compare_answer b d buffer) × (buffer ≡ compare_buffer b d buffer)
  unfolding compare_answer compare_buffer
  compare_refused r e =
      let some = some_number r in
      (answer-err r _ (comparison b d) e, refused_buffer (compare_refusal b d buffer) (history_bytes (comparison b d)) buffer (λ z. omega arith))

  pub compare_given : 0 ≡ compare_refusal b d buffer → (found : Maybe.Option History) (after : List ℕ) → found ≡ comparison b d
      → after ≡ written (history_bytes (comparison b d)) buffer
      → (given found ≡ compare_answer b d buffer) × (after ≡ compare_buffer b d buffer)
  unfolding compare_answer compare_buffer
  compare_given passes found after is written_is = (
    ap given is ∙ given-answer (compare_refusal b d buffer) (sym passes) (comparison b d),
    written_is ∙ sym (given-buffer (compare_refusal b d buffer) (history_bytes (comparison b d)) buffer (sym passes)),
  )

-- the history of a place is written, and then a code after it
pub difference-written : (trail : List ℕ) (i c n : ℕ) (buffer after : List ℕ) → Traced i c trail → 256 ≤ length buffer → n ≡ length (history_at trail i)
    → after ≡ written (history_at trail i) buffer
    → (n + 1 ≡ length (difference_at trail i c)) × (set after n c ≡ written (difference_at trail i c) buffer)
difference-written trail i c n buffer after t room en ea =
    let short = history-short trail i t.falls in
    let h = history_at trail i in (
      rw length-append (omega arith),
      rw (ea, en) (written_next h buffer (length h) c refl (omega (arith, t.few))),
    )

-- ---- nothing is free
abbrev pub compared_of : Answer (Maybe.Option History) → Result (Option ℕ) Refusal
compared_of (refused number) = Err (refusal_of number)
compared_of (given Maybe.none) = Ok None
compared_of (given (Maybe.some h)) = Ok (Some (length h))

-- a history is given only where no row refuses the call, and has fewer codes than the two books have states
pub difference_small : (b d buffer : List ℕ) (h : History) → given (Maybe.some h) ≡ compare_answer b d buffer → (length h < 254) × (256 ≤ length buffer)
unfolding compare_answer
difference_small b d buffer h e =
    let is = answer-given (compare_refusal b d buffer) (Maybe.some h) (comparison b d) e in
    let rows = compare_passed b d buffer is.0 in
    let short = ((compare_right b d rows.first rows.second (same-list-true (frame b) (frame d) rows.frames)).short h (sym is.1)).1 in
    (omega (arith, short, ((book-passed b).0 rows.first).layout.header.states_most, ((book-passed d).0 rows.second).layout.header.states_most), rows.long)

buffer_no_shorter : (b d buffer : List ℕ) → length buffer ≤ length (compare_buffer b d buffer)
unfolding compare_buffer
buffer_no_shorter b d buffer = no_shorter (compare_refusal b d buffer) (history_bytes (comparison b d)) buffer

pub compared_is : (b d buffer after : List ℕ) (r : Result (Option ℕ) Refusal) → compared_answer r after ≡ compare_answer b d buffer
    → after ≡ compare_buffer b d buffer → r ≡ compared_of (compare_answer b d buffer)
compared_is b d buffer after (Err refusal) e ea = ap (λ (x : Refusal). Err x) (refusal-is refusal) ∙ ap compared_of e
compared_is b d buffer after (Ok None) e ea = ap compared_of e
compared_is b d buffer after (Ok (Some n)) e ea =
    let small = difference_small b d buffer (take n after) e in
    ap (λ (k : ℕ). Ok (Some k)) (sym (length_taken n after (omega (arith, buffer_no_shorter b d buffer, ap length ea)))) ∙ ap compared_of e
