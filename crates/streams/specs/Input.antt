-- What is told of standard input, and what reading it does to a buffer.
use Rattle.std.specs.Prelude.{◌≡◌, List, ℕ, ◌+◌, ◌≤◌, length, take, drop, Result, Ok, Err}
use Rattle.std.specs.Borrow.{Bor, MutBor}
use Rattle.streams.specs.declared.StreamError.{StreamError}
use Rattle.streams.specs.declared.StreamError.TheVariants.{Unread}

-- a read that answers an error failed
abbrev pub read_answer : {E : Type 0} → Result ℕ E → Result ℕ StreamError
read_answer (Ok came) = Ok came
read_answer (Err e) = Err Unread

-- one read: bytes come in from place `at` on, as many as are told, and those before and after them are unchanged; a read that failed is told as one, and changes
-- nothing
abbrev pub Came : Result ℕ StreamError → ℕ → List ℕ → List ℕ → Type 0
Came (Ok n) at before after = (at + n ≤ length before) × (take at after ≡ take at before) × (drop (at + n) after ≡ drop (at + n) before)
Came (Err e) at before after = (e ≡ Unread) × (after ≡ before)

-- reads up to the end of the input or of the buffer: the bytes at the front, as many as are told, lie within it, and those after them are unchanged. Where a read failed
-- that is told, and nothing is said of the buffer: some bytes may have come before
abbrev pub Filled : Result ℕ StreamError → List ℕ → List ℕ → Type 0
Filled (Ok n) before after = (n ≤ length after) × (drop n after ≡ drop n before)
Filled (Err e) before after = e ≡ Unread

-- a call at the bytes at the front of the input has left the buffer so
pub record Answered (post : Bor (List ℕ) → MutBor (List ℕ) → ℕ → MutBor (List ℕ) → Type 0) (input before after : List ℕ) : Type 0 where
  pub read : Bor (List ℕ)
  pub buffer : MutBor (List ℕ)
  pub end : ℕ
  pub left : MutBor (List ℕ)
  pub called : post read buffer end left
  pub reads : read.now ≡ take (length read.now) input
  pub begins : buffer.now ≡ before
  pub leaves : left.now ≡ after
