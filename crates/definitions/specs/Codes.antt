-- "A step has a code: event e is e; request r accepted is E + 2r; rejected is E + 2r + 1". E is the number of events.
use Rattle.std.specs.Prelude.{ℕ, ◌+◌, ◌-◌, ◌*◌, ◌/◌, ◌%◌}

abbrev pub accept_code : ℕ → ℕ → ℕ
accept_code E r = E + 2 * r

abbrev pub reject_code : ℕ → ℕ → ℕ
reject_code E r = E + 2 * r + 1

-- the request and the decision of a code at or above E
abbrev pub request_of : ℕ → ℕ → ℕ
request_of E c = (c - E) / 2

abbrev pub decision_of : ℕ → ℕ → ℕ
decision_of E c = 1 - (c - E) % 2
