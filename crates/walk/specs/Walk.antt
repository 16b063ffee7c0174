-- Opening and a state, by the rows that refuse them.
use Rattle.std.specs.Prelude.{cond, List, ℕ, eqb}
use Rattle.definitions.specs.Answer.{judge, then_judge}
use Rattle.definitions.specs.Refusal.{book_refusal}
use Rattle.definitions.specs.Opened.{open_refusal, state_holds}

-- "Opening .. starts at state 1"; 0 where the book is refused
abbrev pub open_state : List ℕ → ℕ
open_state b = cond (eqb (open_refusal b) 0) 1 0

-- rows 12 to 14, then row 16 of the state alone
abbrev pub state_refusal : List ℕ → ℕ → ℕ
state_refusal b s = then_judge (book_refusal b) (judge 16 (state_holds b s) 0)
