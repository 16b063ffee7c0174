-- Demands 2 and 3, the way, equal bytes and policies without rules over the calls: the books that build leaves in buffers, whatever these held, and what the other calls answer on them.
use mathlib.Core.Path.{◌≡◌, refl, sym, ap, ap₂, ◌∙◌, subst⁻¹, subst₂}
use mathlib.Core.Bool.{true}
use mathlib.Core.Logic.{◌↔◌}
use mathlib.Core.List.{List}
use Prim.Native.Nat.{ℕ, ◌+◌, ◌*◌, ◌≤◌, ◌<◌}
use native.Mathlib.Nat.{one-mul}
use lib.ListN.{length}
use borrow.Author.Tests.{le-leb, lt-ltb}
use Rattle.automaton.specs.Machine.{SameHistories}
use Rattle.automaton.proofs.Below.{same-list-refl}
use Rattle.definitions.specs.Answer.{Answer, given, written, history_bytes}
use Rattle.definitions.specs.Policy as P
use Rattle.definitions.specs.Situation.{policy_machine}
use Rattle.definitions.specs.Book as B
use Rattle.definitions.specs.Refusal.{Accepted, book_refusal, row15}
use Rattle.definitions.specs.Build.{book_of, build_refusal, build_answer, build_buffer}
use Rattle.definitions.specs.Verdict.{Findings, findings, verdict_refusal, verdict_answer, verdict_buffers}
use Rattle.definitions.specs.Compare.{same_bytes, comparison, compare_refusal, compare_answer, compare_buffer}
use Rattle.definitions.specs.Way.{way, way_refusal, way_answer, way_buffer}
use Rattle.definitions.specs.Demands.{book_in, book_built, buffers_with, JudgedInBuffers, Demand2OfCalls, BooksInBuffers, Demand3OfCalls, WayInBuffer, WayOfCalls, SameBytesOfCalls, NoRulesInBuffers, NoRulesOfCalls, NoRulesShareBuilt}
use Rattle.definitions.proofs.Answers.{given-answer, given-buffer}
use Rattle.definitions.proofs.Written.{take-written}
use Rattle.definitions.proofs.BookOf.{built_passes, built_events, built_requests, frames-same}
use Rattle.definitions.proofs.Demands.{demand2, demand3, policy-way, same-bytes-right}
use Rattle.definitions.proofs.NoRules.{no-rules-right, no_rules_share}

-- ---- build
module _ (p buffer : List ℕ) (accepted : Accepted p) (long : 17284 ≤ length buffer) where
  build_passes : build_refusal p buffer ≡ 0
  unfolding build_refusal
  build_passes = rw (le-leb 17284 (length buffer) long) accepted

  build_given : build_answer p buffer ≡ given (length (book_of p))
  unfolding build_answer
  build_given = sym (given-answer (build_refusal p buffer) build_passes (length (book_of p)))

  build_written : build_buffer p buffer ≡ written (book_of p) buffer
  unfolding build_buffer
  build_written = given-buffer (build_refusal p buffer) (book_of p) buffer build_passes

  -- what stands in the buffer is the book of the policy
  pub book_built_law : book_built p buffer ≡ book_of p
  book_built_law = ap₂ book_in build_given build_written ∙ take-written (book_of p) buffer (length (book_of p)) refl

-- ---- verdict
module _ (b for_conflict for_missing for_blocked : List ℕ) (passes : book_refusal b ≡ 0)
    (long_conflict : 128 ≤ length for_conflict) (long_missing : 128 ≤ length for_missing) (long_blocked : 128 ≤ length for_blocked) where
  verdict_passes : verdict_refusal b for_conflict for_missing for_blocked ≡ 0
  unfolding verdict_refusal
  verdict_passes =
      rw (le-leb 128 (length for_conflict) long_conflict, le-leb 128 (length for_missing) long_missing, le-leb 128 (length for_blocked) long_blocked) passes

  verdict_given : verdict_answer b for_conflict for_missing for_blocked ≡ given (findings b)
  unfolding verdict_answer
  verdict_given = sym (given-answer (verdict_refusal b for_conflict for_missing for_blocked) verdict_passes (findings b))

  verdict_written : verdict_buffers b for_conflict for_missing for_blocked ≡ buffers_with (findings b) for_conflict for_missing for_blocked
  unfolding verdict_buffers findings
  verdict_written = rw verdict_passes

-- ---- compare
module _ (b d history : List ℕ) (first : book_refusal b ≡ 0) (second : book_refusal d ≡ 0) (frames : B.frame b ≡ B.frame d) (long : 256 ≤ length history) where
  frames_pass : row15 b d ≡ 0
  unfolding row15
  frames_pass = rw (frames, same-list-refl (B.frame d))

  compare_passes : compare_refusal b d history ≡ 0
  unfolding compare_refusal
  compare_passes = rw (le-leb 256 (length history) long, first, second) frames_pass

  compare_given : compare_answer b d history ≡ given (comparison b d)
  unfolding compare_answer
  compare_given = sym (given-answer (compare_refusal b d history) compare_passes (comparison b d))

  compare_written : compare_buffer b d history ≡ written (history_bytes (comparison b d)) history
  unfolding compare_buffer
  compare_written = given-buffer (compare_refusal b d history) (history_bytes (comparison b d)) history compare_passes

-- ---- way
module _ (b : List ℕ) (r outcome : ℕ) (history : List ℕ) (passes : book_refusal b ≡ 0) (long : 128 ≤ length history) (few : outcome ≤ 3) (low : r < B.requests b) where
  way-passes : way_refusal b r outcome history ≡ 0
  unfolding way_refusal
  way-passes = rw (le-leb 128 (length history) long, passes, le-leb outcome 3 few, lt-ltb r (B.requests b) low)

  way-given : way_answer b r outcome history ≡ given (way b r outcome)
  unfolding way_answer
  way-given = sym (given-answer (way_refusal b r outcome history) way-passes (way b r outcome))

  way-written : way_buffer b r outcome history ≡ written (history_bytes (way b r outcome)) history
  unfolding way_buffer
  way-written = given-buffer (way_refusal b r outcome history) (history_bytes (way b r outcome)) history way-passes

pub demand2_of_calls : (p buffer for_conflict for_missing for_blocked : List ℕ) → Accepted p → 17284 ≤ length buffer
    → 128 ≤ length for_conflict → 128 ≤ length for_missing → 128 ≤ length for_blocked → Demand2OfCalls p buffer for_conflict for_missing for_blocked
demand2_of_calls p buffer for_conflict for_missing for_blocked accepted long long_conflict long_missing long_blocked =
    let right = demand2 p accepted in
    subst⁻¹ (λ (b : List ℕ). JudgedInBuffers p b for_conflict for_missing for_blocked) (book_built_law p buffer accepted long)
    (record {
      histories = right.histories;
      judged = (
        findings (book_of p),
        verdict_given (book_of p) for_conflict for_missing for_blocked right.passes long_conflict long_missing long_blocked,
        verdict_written (book_of p) for_conflict for_missing for_blocked right.passes long_conflict long_missing long_blocked,
        right.findings,
      );
    })

pub demand3_of_calls : (p q first second history : List ℕ) → Accepted p → Accepted q → 17284 ≤ length first → 17284 ≤ length second → 256 ≤ length history
    → Demand3OfCalls p q first second history
demand3_of_calls p q first second history one two long-first long-second long =
    subst₂ (λ (b d : List ℕ). BooksInBuffers p q b d history) (sym (book_built_law p first one long-first)) (sym (book_built_law q second two long-second))
    (record {
      books = (demand3 p q one two).books;
      compared = λ frames.
          let same = frames-same p q one two frames in (
            comparison (book_of p) (book_of q),
            compare_given (book_of p) (book_of q) history (built_passes p one) (built_passes q two) same long,
            compare_written (book_of p) (book_of q) history (built_passes p one) (built_passes q two) same long,
            (demand3 p q one two).compared frames,
          );
    })

pub way_of_calls : (p buffer : List ℕ) (r outcome : ℕ) (history : List ℕ) → Accepted p → 17284 ≤ length buffer → r < P.requests p → outcome ≤ 3 → 128 ≤ length history
    → WayOfCalls p buffer r outcome history
way_of_calls p buffer r outcome history accepted long low few room =
    let b = book_of p in
    let passes = built_passes p accepted in
    let below : r < B.requests b = subst⁻¹ (λ (Q : ℕ). r < Q) (built_requests p accepted) low in
    subst⁻¹ (λ (d : List ℕ). WayInBuffer p d r outcome history) (book_built_law p buffer accepted long)
    (record {
      shown = way b r outcome;
      answered = way-given b r outcome history passes room few below;
      buffer = way-written b r outcome history passes room few below;
      right = policy-way p accepted r outcome;
    })

pub same-bytes_of_calls : (p q first second : List ℕ) → Accepted p → Accepted q → 17284 ≤ length first → 17284 ≤ length second → SameBytesOfCalls p q first second
same-bytes_of_calls p q first second one two long-first long-second =
    let equal = same-bytes-right (book_of p) (book_of q) in
    let books = (demand3 p q one two).books in
    subst₂ (λ (b d : List ℕ). (same_bytes b d ≡ true) ↔ ((P.frame p ≡ P.frame q) × SameHistories (policy_machine p) (policy_machine q)))
    (sym (book_built_law p first one long-first)) (sym (book_built_law q second two long-second))
    ((λ same. books.0 (equal.0 same)), λ alike. equal.1 (books.1 alike))

pub no_rules_of_calls : (p buffer for_conflict for_missing for_blocked : List ℕ) → P.rules p ≡ 0 → Accepted p → 17284 ≤ length buffer
    → 128 ≤ length for_conflict → 128 ≤ length for_missing → 128 ≤ length for_blocked → NoRulesOfCalls p buffer for_conflict for_missing for_blocked
no_rules_of_calls p buffer for_conflict for_missing for_blocked none accepted long long_conflict long_missing long_blocked =
    let right = no-rules-right p none accepted in
    let demand = demand2 p accepted in
    let width : B.width (book_of p) ≡ P.width p = rw (built_events p accepted, built_requests p accepted) in
    subst⁻¹ (λ (b : List ℕ). NoRulesInBuffers p b for_conflict for_missing for_blocked) (book_built_law p buffer accepted long)
    (record {
      right = right;
      size = demand.size ∙ ap₂ (λ (n w : ℕ). 12 + n * w) right.one width ∙ ap (λ (w : ℕ). 12 + w) (one-mul (P.width p));
      answered =
          verdict_given (book_of p) for_conflict for_missing for_blocked demand.passes long_conflict long_missing long_blocked
          ∙ ap {B = Answer Findings} given right.findings;
      buffers =
          verdict_written (book_of p) for_conflict for_missing for_blocked demand.passes long_conflict long_missing long_blocked
          ∙ ap (λ (found : Findings). buffers_with found for_conflict for_missing for_blocked) right.findings;
    })

pub no_rules_share_built : (p q first second : List ℕ) → P.rules p ≡ 0 → P.rules q ≡ 0 → Accepted p → Accepted q → 17284 ≤ length first → 17284 ≤ length second
    → NoRulesShareBuilt p q first second
no_rules_share_built p q first second None-first none-second one two long-first long-second =
    subst₂ (λ (b d : List ℕ). (b ≡ d) ↔ (P.frame p ≡ P.frame q)) (sym (book_built_law p first one long-first)) (sym (book_built_law q second two long-second))
    (no_rules_share p q None-first none-second one two)
