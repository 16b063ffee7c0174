-- Answers whose numbers are at most the given ones: what makes them fit into a packed number, and their histories into buffers.
use Rattle.std.specs.Prelude.{Option, Result, IfOk, IfSome, ℕ, ◌≤◌}
use Rattle.refusal.specs.declared.Refusal.{Refusal}

-- a book or a page of at most so many bytes
abbrev pub LengthWithin : ℕ → Result ℕ Refusal → Type 0
LengthWithin most answer = IfOk answer (λ n. n ≤ most)

-- a history of at most so many codes
abbrev pub HistoryWithin : ℕ → Result (Option ℕ) Refusal → Type 0
HistoryWithin most answer = IfOk answer (λ found. IfSome found (λ n. n ≤ most))
