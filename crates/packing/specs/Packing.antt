-- How an answer of document 01 is packed into the one number that a C function returns (docs/C-INTERFACE.md).
use Rattle.std.specs.Prelude.{Bool, ℕ, ◌+◌, ◌*◌, ◌^◌, length}
use Rattle.std.proofs.Math.Option.{Option, none, some}
use Rattle.automaton.specs.Below.{one}
use Rattle.automaton.specs.History.{History}
use Rattle.definitions.specs.Answer.{Answer, refused, given, history_bytes}
use Rattle.definitions.specs.Verdict.{Found, Findings}

-- modulo 256 the refusal's number, 0 where nothing is refused; divided by 256 the value
abbrev pub packed : {A : Type 0} → (A → ℕ) → Answer A → ℕ
packed value (refused number) = number
packed value (given a) = 256 * value a

-- what the test for equal bytes answers, which refuses nothing: 1 for equal, 0 for not
abbrev pub equal_or_not : Bool → ℕ
equal_or_not same = one same

-- the value of build: the book's length
abbrev pub book_length : ℕ → ℕ
book_length n = n

-- the value of page: how many bytes were written
abbrev pub page_length : ℕ → ℕ
page_length n = n

-- the value of compare: the length of the history, 0 for same
abbrev pub history_length : Option History → ℕ
history_length found = length (history_bytes found)

-- the value of way, and that of blocked: 0 for no history, else one more than its length
abbrev pub length_or_none : Option History → ℕ
length_or_none none = 0
length_or_none (some h) = length h + 1

-- the value of conflict and of missing: the same, and 256 times the request
abbrev pub found_value : Option Found → ℕ
found_value none = 0
found_value (some t) = length t.history + 1 + 256 * t.request

-- the value of verdict: conflict from bit 0, missing from bit 16, blocked from bit 32
abbrev pub findings_value : Findings → ℕ
findings_value f = found_value f.conflict + 2 ^ 16 * found_value f.missing + 2 ^ 32 * length_or_none f.blocked
