-- The rows of a call judged in order (row 1 for the buffer, those of the book, 18, 16), and its answer and its buffer. The contract of `way` leaves nothing free: what is
-- returned is told by the definitions' answer, and a history's length is what is given.
use mathlib.Core.Path.{◌≡◌, sym, ap, ◌∙◌}
use mathlib.Core.List.{List}
use mathlib.Core.Option as Math
use Prim.Native.Nat.{ℕ, ◌≤◌, ◌<◌}
use native.Mathlib.Omega.{arith}
use Rattle.std.proofs.Common.{lit≤}
use lib.Dec.{leb, ltb}
use lib.ListN.{length, take}
use borrow.Author.Tests.{le-leb, lt-leb, leb-true, lt-ltb, le-ltb, ne_eqb}
use Rattle.std.specs.Prelude.{Result, Ok, Err}
use Rattle.std.specs.Prelude as Rust
use Rattle.automaton.specs.History.{History}
use Rattle.definitions.specs.Answer.{Answer, refused, given, written, history_bytes, judge, then_judge}
use Rattle.definitions.specs.Book.{requests}
use Rattle.definitions.specs.Refusal.{book_refusal}
use Rattle.definitions.specs.Telling.{Telling, none, accept, reject, both, outcome_of}
use Rattle.definitions.specs.Way.{way, way_refusal, way_answer, way_buffer}
use Rattle.definitions.proofs.Accepted.{book-passed}
use Rattle.definitions.proofs.Tests.{judge-zero, then_judge-zero}
use Rattle.definitions.proofs.Answers.{refused_buffer, given-answer, answer-given, given-buffer, no_shorter}
use Rattle.definitions.proofs.Written.{length_taken}
use Rattle.definitions.proofs.Demands.{ways-right}
use Rattle.refusal.specs.declared.Refusal.{Refusal}
use Rattle.refusal.specs.Refused.{number_of}
use Rattle.refusal.proofs.Refused.{some_number, answer-err, refusal_of, refusal-is}
use Rattle.way.specs.ShownAnswer.{shown_answer}

outcome_most : (told : Telling) → outcome_of told ≤ 3
outcome_most none = lit≤ tt
outcome_most accept = lit≤ tt
outcome_most reject = lit≤ tt
outcome_most both = lit≤ tt

module _ (b : List ℕ) (r outcome : ℕ) (buffer : List ℕ) where
  -- ---- the rows
  pub refused_by_1 : length buffer < 128 → 1 ≡ way_refusal b r outcome buffer
  unfolding way_refusal
  refused_by_1 l = rw (lt-leb 128 (length buffer) l)

  module _ (long : 128 ≤ length buffer) where
    pub refused_by-book : (number : ℕ) → 1 ≤ number → number ≡ book_refusal b → number ≡ way_refusal b r outcome buffer
    unfolding way_refusal
    refused_by-book number least is = rw (le-leb 128 (length buffer) long, ← is, ne_eqb number 0 (λ z. omega arith))

    module _ (passes : 0 ≡ book_refusal b) where
      pub refused-by-18 : 3 < outcome → 18 ≡ way_refusal b r outcome buffer
      unfolding way_refusal
      refused-by-18 l = rw (le-leb 128 (length buffer) long, ← passes, lt-leb outcome 3 l)

      module _ (told : Telling) (is : outcome_of told ≡ outcome) where
        few : outcome ≤ 3
        few = omega (arith, outcome_most told)

        pub refused-by-16 : requests b ≤ r → 16 ≡ way_refusal b r outcome buffer
        unfolding way_refusal
        refused-by-16 l = rw (le-leb 128 (length buffer) long, ← passes, le-leb outcome 3 few, le-ltb r (requests b) l)

        pub refused-by-none : r < requests b → 0 ≡ way_refusal b r outcome buffer
        unfolding way_refusal
        refused-by-none l = rw (le-leb 128 (length buffer) long, ← passes, le-leb outcome 3 few, lt-ltb r (requests b) l)

  -- ---- the answer and the buffer
  pub way-refused : (refusal : Refusal) → number_of refusal ≡ way_refusal b r outcome buffer
      → (refused (number_of refusal) ≡ way_answer b r outcome buffer) × (buffer ≡ way_buffer b r outcome buffer)
  unfolding way_answer way_buffer
  way-refused refusal is = (
    answer-err refusal (way_refusal b r outcome buffer) (way b r outcome) is,
    refused_buffer (way_refusal b r outcome buffer) (history_bytes (way b r outcome)) buffer (λ z. omega (arith, some_number refusal)),
  )

  pub way-given : 0 ≡ way_refusal b r outcome buffer → (shown : Math.Option History) (after : List ℕ) → shown ≡ way b r outcome
      → after ≡ written (history_bytes (way b r outcome)) buffer → (given shown ≡ way_answer b r outcome buffer) × (after ≡ way_buffer b r outcome buffer)
  unfolding way_answer way_buffer
  way-given is shown after ea eb = (
    ap given ea ∙ given-answer (way_refusal b r outcome buffer) (sym is) (way b r outcome),
    eb ∙ sym (given-buffer (way_refusal b r outcome buffer) (history_bytes (way b r outcome)) buffer (sym is)),
  )

-- ---- a history that is given is short, and its buffer is not
not_refused : (b : List ℕ) (r outcome : ℕ) (buffer : List ℕ) → way_refusal b r outcome buffer ≡ 0 → (128 ≤ length buffer) × (book_refusal b ≡ 0)
unfolding way_refusal
not_refused b r outcome buffer e =
    let later = judge 18 (leb outcome 3) (judge 16 (ltb r (requests b)) 0) in
    let one = (judge-zero 0 (leb 128 (length buffer)) (then_judge (book_refusal b) later)).0 e in
    (leb-true 128 (length buffer) one.0, ((then_judge-zero (book_refusal b) later).0 one.1).0)

pub way_small : (b : List ℕ) (r outcome : ℕ) (buffer : List ℕ) (h : History) → given (Math.some h) ≡ way_answer b r outcome buffer → (length h < 127) × (128 ≤ length buffer)
unfolding way_answer
way_small b r outcome buffer h e =
    let is = answer-given (way_refusal b r outcome buffer) (Math.some h) (way b r outcome) e in
    let passes = not_refused b r outcome buffer is.0 in
    let short = (ways-right b passes.1).short r outcome h (sym is.1) in
    (omega (arith, short, ((book-passed b).0 passes.1).layout.header.states_most), passes.0)

-- ---- nothing is free
abbrev length_of : Math.Option History → Rust.Option ℕ
length_of Math.none = Rust.None
length_of (Math.some h) = Rust.Some (length h)

-- the number of a refusal, or the length of the history
abbrev pub shown_of : Answer (Math.Option History) → Result (Rust.Option ℕ) Refusal
shown_of (refused number) = Err (refusal_of number)
shown_of (given h) = Ok (length_of h)

buffer_no_shorter : (b : List ℕ) (r outcome : ℕ) (buffer : List ℕ) → length buffer ≤ length (way_buffer b r outcome buffer)
unfolding way_buffer
buffer_no_shorter b r outcome buffer = no_shorter (way_refusal b r outcome buffer) (history_bytes (way b r outcome)) buffer

pub shown-is : (b : List ℕ) (r outcome : ℕ) (buffer after : List ℕ) (shown : Result (Rust.Option ℕ) Refusal) → shown_answer shown after ≡ way_answer b r outcome buffer
    → after ≡ way_buffer b r outcome buffer → shown ≡ shown_of (way_answer b r outcome buffer)
shown-is b r outcome buffer after (Err refusal) e ea = ap Err (refusal-is refusal) ∙ ap shown_of e
shown-is b r outcome buffer after (Ok Rust.None) e ea = ap shown_of e
shown-is b r outcome buffer after (Ok (Rust.Some n)) e ea =
    let small = way_small b r outcome buffer (take n after) e in
    ap (λ (k : ℕ). Ok (Rust.Some k)) (sym (length_taken n after (omega (arith, buffer_no_shorter b r outcome buffer, ap length ea)))) ∙ ap shown_of e
