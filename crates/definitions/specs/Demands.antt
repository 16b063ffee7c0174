-- The owner's demands 2 and 3, the states of the book of a policy, the start, row 11 and the levels, what verdict, compare, the page and the way
-- owe for any book, the test for equal bytes, and policies without rules, as statements about histories. proofs/Demands.antt proves each, proofs/NoRules.antt those on
-- policies without rules, and proofs/Calls.antt those over the calls.
-- A reader who believes the definitions and these statements needs to believe nothing else.
use Rattle.std.specs.Prelude.{◌≡◌, Bool, true, false, ◌↔◌, List, [], ◌∷◌, ◌++◌, ℕ, ◌+◌, ◌-◌, ◌*◌, ◌≤◌, ◌<◌, min, length, get_or, take, drop, replicate}
use Rattle.std.proofs.Math.Option.{Option, none, some}
use Rattle.automaton.specs.History.{History, Earlier, Earliest}
use Rattle.automaton.specs.Machine.{Machine, after, possible, DistinctStates, SameHistories, in_one}
use Rattle.definitions.specs.Policy as P
use Rattle.definitions.specs.Codes.{accept_code, reject_code}
use Rattle.definitions.specs.Bytes.{version, bit}
use Rattle.definitions.specs.Valuation.{bound, valuations, initial_value, variable_in}
use Rattle.definitions.specs.Situation.{fits, applies, start_situation, policy_machine}
use Rattle.definitions.specs.Book as B
use Rattle.definitions.specs.Refusal.{policy_refusal, book_refusal}
use Rattle.definitions.specs.Answer.{Answer, refused, given, written, history_bytes}
use Rattle.definitions.specs.Build.{book_of, build_answer, build_buffer}
use Rattle.definitions.specs.Verdict.{Found, Findings, findings, found_history, verdict_answer, Buffers, verdict_buffers, conflict, missing, blocked}
use Rattle.definitions.specs.Compare.{same_bytes, comparison, compare_answer, compare_buffer}
use Rattle.definitions.specs.Telling.{Telling, to_telling, telling, outcome_of}
use Rattle.definitions.specs.Characters.{blank, newline}
use Rattle.definitions.specs.Page.{three_columns, dashes, letter, page}
use Rattle.definitions.specs.Way.{way, way_answer, way_buffer}

-- ---- what may happen after a history h in a machine m (a policy's or a book's) with E events and Q requests

-- request r may be accepted, or not
abbrev pub accepts : Machine → ℕ → History → ℕ → Bool
accepts m E h r = possible m (h ++ (accept_code E r ∷ []))

abbrev pub rejects : Machine → ℕ → History → ℕ → Bool
rejects m E h r = possible m (h ++ (reject_code E r ∷ []))

-- both together
abbrev pub telling_after : Machine → ℕ → History → ℕ → Telling
telling_after m E h r = to_telling (accepts m E h r) (rejects m E h r)

-- "some request may be both accepted and rejected"
abbrev pub ConflictAfter : Machine → ℕ → History → ℕ → Type 0
ConflictAfter m E h r = (accepts m E h r ≡ true) × (rejects m E h r ≡ true)

abbrev pub Unanswered : Machine → ℕ → History → ℕ → Type 0
Unanswered m E h r = (accepts m E h r ≡ false) × (rejects m E h r ≡ false)

-- "some request is unanswered"
abbrev pub MissingAfter : Machine → ℕ → History → ℕ → Type 0
MissingAfter m E h r = (possible m h ≡ true) × Unanswered m E h r

-- a list of events
abbrev pub Events : ℕ → History → Type 0
Events E es = (i : ℕ) → i < length es → get_or es i 0 < E

-- "no request is answered, now or after any list of events"
abbrev pub BlockedAfter : Machine → ℕ → ℕ → History → Type 0
BlockedAfter m E Q h = (possible m h ≡ true) × ((es : History) → Events E es → (r : ℕ) → r < Q → Unanswered m E (h ++ es) r)

-- ---- findings: "none", said exactly where there is no such history, "or the earliest such history and the lowest such request"
pub record FindingIsRight (After : History → ℕ → Type 0) (Q : ℕ) (finding : Option Found) : Type 0 where
  pub no_history : finding ≡ none → (h : History) (r : ℕ) → r < Q → After h r → ⊥
  pub earliest : (t : Found) → finding ≡ some t → Earliest (λ h. (r : ℕ) × (r < Q) × After h r) t.history
  pub request : (t : Found) → finding ≡ some t → (t.request < Q) × After t.history t.request
  pub lowest : (t : Found) → finding ≡ some t → (r : ℕ) → r < Q → After t.history r → t.request ≤ r

pub record BlockingIsRight (After : History → Type 0) (finding : Option History) : Type 0 where
  pub no_history : finding ≡ none → (h : History) → After h → ⊥
  pub earliest : (h : History) → finding ≡ some h → Earliest After h

-- three findings are those over all histories possible in a machine m with E events and Q requests
pub record FindingsAreRight (m : Machine) (E Q : ℕ) (found : Findings) : Type 0 where
  pub conflict_right : FindingIsRight (ConflictAfter m E) Q found.conflict
  pub missing_right : FindingIsRight (MissingAfter m E) Q found.missing
  pub blocked_right : BlockingIsRight (BlockedAfter m E Q) found.blocked

-- ---- "Two accepted policies ..": the histories possible in two machines
abbrev pub InJustOne : Machine → Machine → History → Type 0
InJustOne m k h = in_one (possible m h) (possible k h) ≡ true

-- the answer of a comparison: same exactly when the same histories are possible in m and k, and else the earliest history possible in just one
pub record ComparisonIsRight (m k : Machine) (answer : Option History) : Type 0 where
  pub same : (answer ≡ none) ↔ SameHistories m k
  pub differ : (h : History) → answer ≡ some h → Earliest (InJustOne m k) h

-- ---- demand 2, for an accepted policy
pub record Demand2 (p : List ℕ) : Type 0 where
  -- "For every history, it is possible in the book exactly when it is possible under the policy"
  pub histories : SameHistories (B.book_machine (book_of p)) (policy_machine p)
  -- "The findings on conflict, completeness and blocking are right, each bad one with the earliest history that proves it"
  pub findings : FindingsAreRight (policy_machine p) (P.events p) (P.requests p) (findings (book_of p))
  -- the book is one that every check passes, with the policy's frame
  pub passes : book_refusal (book_of p) ≡ 0
  pub frame : B.frame (book_of p) ≡ P.frame p
  pub size : length (book_of p) ≡ 12 + B.states (book_of p) * B.width (book_of p)
  pub states : (1 ≤ B.states (book_of p)) × (B.states (book_of p) ≤ 127)

-- ---- the states of a book: "Alike situations are one state. States are numbered by their earliest history"

-- history h leads to state s
abbrev pub LeadsTo : Machine → ℕ → History → Type 0
LeadsTo m s h = after m m.start h ≡ s

-- the same histories are possible after g and after h
abbrev pub SameAfter : Machine → History → History → Type 0
SameAfter m g h = (k : History) → possible m (g ++ k) ≡ possible m (h ++ k)

-- s is one of the states of book b
abbrev pub StateOf : List ℕ → ℕ → Type 0
StateOf b s = (1 ≤ s) × (s ≤ B.states b)

-- of the book b of a policy with machine m
pub record StatesAreRight (m : Machine) (b : List ℕ) : Type 0 where
  -- each possible history leads to one of the states, and each state has an earliest history that leads to it
  pub led : (h : History) → possible m h ≡ true → StateOf b (after (B.book_machine b) 1 h)
  pub reached : (s : ℕ) → StateOf b s → (h : History) × Earliest (LeadsTo (B.book_machine b) s) h
  -- a smaller number is an earlier history
  pub numbered : (s t : ℕ) (g h : History) → StateOf b s → StateOf b t → Earliest (LeadsTo (B.book_machine b) s) g → Earliest (LeadsTo (B.book_machine b) t) h
      → (s < t) ↔ Earlier g h
  -- two histories lead to one state exactly when the same histories are possible after each; those that are not possible lead to 0, which is no state
  pub joined : (g h : History) → (after (B.book_machine b) 1 g ≡ after (B.book_machine b) 1 h) ↔ SameAfter m g h

-- ---- the start of a policy: request 2
pub record StartIsRight (p : List ℕ) : Type 0 where
  -- its one valuation is that in which each variable has its starting value; "A start above the variable's bound counts as the bound"
  pub valuation : (v : ℕ) → v < valuations p
      → (bit (start_situation p) v ≡ true) ↔ ((j : ℕ) → j < P.variables p → variable_in p v j ≡ min (P.starting_value p j) (bound p j))
  -- "Version 1 files read as all zeros": what is not of version 2 carries none
  pub zeros : (version p ≡ 2 → ⊥) → (j : ℕ) → P.starting_value p j ≡ 0

-- two files of any versions with the same numbers, value counts, rules and changes of events: only versions and starting values may differ
pub record SameRules (p q : List ℕ) : Type 0 where
  pub events : P.events p ≡ P.events q
  pub fields : P.fields p ≡ P.fields q
  pub variables : P.variables p ≡ P.variables q
  pub rules : P.rules p ≡ P.rules q
  pub counts : (f : ℕ) → f < P.fields p → P.count p f ≡ P.count q f
  pub table : P.rule_table p ≡ P.rule_table q

-- "so equality of books holds between files of either version": where each variable begins alike, row 11 refuses both or neither, and there is one book
abbrev pub StartsAreRight : List ℕ → List ℕ → Type 0
StartsAreRight p q = ((j : ℕ) → j < P.variables p → initial_value p j ≡ initial_value q j) → (policy_refusal p ≡ policy_refusal q) × (book_of p ≡ book_of q)

-- ---- row 11: "over 127 situations reached, before joining alike ones", for a file that the rows before it let pass: it is turned down exactly when 128 possible
-- histories lead to situations no two of which are equal
abbrev pub Row11IsRight : List ℕ → Type 0
Row11IsRight p = (policy_refusal p ≡ 11) ↔ DistinctStates (policy_machine p) 128

-- ---- "Levels all different give the source's method 1, all equal its method 2"
abbrev pub same_level : List ℕ → ℕ → ℕ → Type 0
same_level p i k = P.level p (P.rule p i) ≡ P.level p (P.rule p k)

pub record LevelsAreRight (p : List ℕ) : Type 0 where
  -- whatever the levels: where a rule fits, a rule of its level or a greater one applies
  pub greatest : (r v i : ℕ) → i < P.rules p → fits p (P.rule p i) r v ≡ true
      → (k : ℕ) × (k < P.rules p) × (applies p (P.rule p k) r v ≡ true) × (P.level p (P.rule p i) ≤ P.level p (P.rule p k))
  -- all different: at most one rule applies to a request in a valuation, so that it is the one of the greatest level that fits
  pub different : ((i k : ℕ) → i < P.rules p → k < P.rules p → same_level p i k → i ≡ k) → (r v i k : ℕ) → i < P.rules p → k < P.rules p
      → applies p (P.rule p i) r v ≡ true → applies p (P.rule p k) r v ≡ true → i ≡ k
  -- all equal: every rule that fits applies
  pub equal : ((i k : ℕ) → i < P.rules p → k < P.rules p → same_level p i k) → (r v k : ℕ) → k < P.rules p
      → applies p (P.rule p k) r v ≡ fits p (P.rule p k) r v

-- ---- demand 3, for two accepted policies
pub record Demand3 (p q : List ℕ) : Type 0 where
  -- "books equal byte for byte exactly when their frames are equal and every history, however long, is possible under both or under neither"
  pub books : (book_of p ≡ book_of q) ↔ ((P.frame p ≡ P.frame q) × SameHistories (policy_machine p) (policy_machine q))
  -- "Comparing two books says same exactly then, and else shows the earliest history possible in just one"
  pub compared : P.frame p ≡ P.frame q → ComparisonIsRight (policy_machine p) (policy_machine q) (comparison (book_of p) (book_of q))

-- ---- demands 2 and 3 over the calls: what build leaves in a buffer that row 1 lets pass, and what verdict and compare say of it

-- "Its book is the first bytes of the buffer, as many as the length that build gives"
abbrev pub book_in : Answer ℕ → List ℕ → List ℕ
book_in (refused number) buffer = []
book_in (given n) buffer = take n buffer

abbrev pub book_built : List ℕ → List ℕ → List ℕ
book_built p buffer = book_in (build_answer p buffer) (build_buffer p buffer)

-- three buffers with the histories of three findings at their fronts
abbrev pub buffers_with : Findings → List ℕ → List ℕ → List ℕ → Buffers
buffers_with found for_conflict for_missing for_blocked = record {
  for_conflict = written (history_bytes (found_history found.conflict)) for_conflict;
  for_missing = written (history_bytes (found_history found.missing)) for_missing;
  for_blocked = written (history_bytes found.blocked) for_blocked;
}

-- ---- demand 2 over the calls: b stands in the buffer after build was called on p, the other three buffers are verdict's
pub record JudgedInBuffers (p b for_conflict for_missing for_blocked : List ℕ) : Type 0 where
  pub histories : SameHistories (B.book_machine b) (policy_machine p)
  pub judged : (found : Findings) × (verdict_answer b for_conflict for_missing for_blocked ≡ given found)
      × (verdict_buffers b for_conflict for_missing for_blocked ≡ buffers_with found for_conflict for_missing for_blocked)
      × FindingsAreRight (policy_machine p) (P.events p) (P.requests p) found

abbrev pub Demand2OfCalls : List ℕ → List ℕ → List ℕ → List ℕ → List ℕ → Type 0
Demand2OfCalls p buffer for_conflict for_missing for_blocked = JudgedInBuffers p (book_built p buffer) for_conflict for_missing for_blocked

-- ---- demand 3 over the calls: b and d stand in the buffers after build was called on p and q; history is compare's buffer
pub record BooksInBuffers (p q b d history : List ℕ) : Type 0 where
  pub books : (b ≡ d) ↔ ((P.frame p ≡ P.frame q) × SameHistories (policy_machine p) (policy_machine q))
  -- "Two built books of one frame are turned down by row 1 alone"
  pub compared : P.frame p ≡ P.frame q → (answer : Option History) × (compare_answer b d history ≡ given answer)
      × (compare_buffer b d history ≡ written (history_bytes answer) history) × ComparisonIsRight (policy_machine p) (policy_machine q) answer

abbrev pub Demand3OfCalls : List ℕ → List ℕ → List ℕ → List ℕ → List ℕ → Type 0
Demand3OfCalls p q first second history = BooksInBuffers p q (book_built p first) (book_built q second) history

-- ---- what verdict and compare owe for any books that rows 12 to 14 let pass, built here or not
pub record VerdictIsRight (b : List ℕ) : Type 0 where
  pub findings : FindingsAreRight (B.book_machine b) (B.events b) (B.requests b) (findings b)
  -- "Histories go into three buffers, at most n − 1 codes each"
  pub conflict_short : (t : Found) → conflict b ≡ some t → length t.history < B.states b
  pub missing_short : (t : Found) → missing b ≡ some t → length t.history < B.states b
  pub blocked_short : (h : History) → blocked b ≡ some h → length h < B.states b

pub record CompareIsRight (b d : List ℕ) : Type 0 where
  pub compared : ComparisonIsRight (B.book_machine b) (B.book_machine d) (comparison b d)
  -- "with its length: 1 to n + n' − 1"
  pub short : (h : History) → comparison b d ≡ some h → (1 ≤ length h) × (length h < B.states b + B.states d)

-- ---- request 1 of document 02: the page of any book that rows 12 to 14 let pass

-- the columns of a line that show a length
abbrev pub length_shown : List ℕ → List ℕ
length_shown line = take 3 (drop 4 line)

-- the column of request r
abbrev pub letter_shown : List ℕ → ℕ → ℕ
letter_shown line r = get_or line (8 + r) 0

-- the line of state s
pub record LineIsRight (b : List ℕ) (s : ℕ) (line : List ℕ) : Type 0 where
  -- "Each line is 72 columns and the byte 10"
  pub size : length line ≡ 73
  pub end : get_or line 72 0 ≡ newline
  -- "state number in 3 columns to the right, a blank, .. a blank"
  pub number : take 3 line ≡ three_columns s
  pub blanks : (get_or line 3 0 ≡ blank) × (get_or line 7 0 ≡ blank)
  -- "length of its earliest history": where some history leads to the state, one does of which no other is earlier, and its length is shown
  pub earliest : (h : History) → LeadsTo (B.book_machine b) s h
      → (g : History) × Earliest (LeadsTo (B.book_machine b) s) g × (length_shown line ≡ three_columns (length g))
  -- "States that no history reaches .. show --- as length", and no others
  pub unreached : (length_shown line ≡ dashes) ↔ ((h : History) → LeadsTo (B.book_machine b) s h → ⊥)
  -- "one letter a request": what may happen to it after any history that leads to the state
  pub letters : (r : ℕ) → r < B.requests b → (h : History) → LeadsTo (B.book_machine b) s h
      → letter_shown line r ≡ letter (telling_after (B.book_machine b) (B.events b) h r)
  -- and what the state's row says, also where none does
  pub row : (r : ℕ) → r < B.requests b → letter_shown line r ≡ letter (telling b s r)
  -- "blanks beyond Q"
  pub beyond : (r : ℕ) → B.requests b ≤ r → r < 64 → letter_shown line r ≡ blank

pub record PageIsRight (b : List ℕ) : Type 0 where
  -- "n × 73 bytes are written", for which 9,271 are enough
  pub size : length (page b) ≡ B.states b * 73
  pub room : B.states b * 73 ≤ 9271
  -- "one line a state"
  pub lines : (s : ℕ) → StateOf b s → LineIsRight b s (take 73 (drop ((s - 1) * 73) (page b)))

-- ---- request 3 of document 02: the way to a decision

-- a possible history "after which the request has that outcome"
abbrev pub OutcomeAfter : Machine → ℕ → ℕ → ℕ → History → Type 0
OutcomeAfter m E r outcome h = (possible m h ≡ true) × (outcome_of (telling_after m E h r) ≡ outcome)

-- what is shown for request r and an outcome, over all histories possible in a machine m with E events
pub record WayIsRight (m : Machine) (E r outcome : ℕ) (shown : Option History) : Type 0 where
  -- "No history must be said exactly when there is none"
  pub no_history : (shown ≡ none) ↔ ((h : History) → OutcomeAfter m E r outcome h → ⊥)
  -- "find the earliest possible history after which the request has that outcome"
  pub earliest : (h : History) → shown ≡ some h → Earliest (OutcomeAfter m E r outcome) h

-- for any book that rows 12 to 14 let pass, built here or not
pub record WaysAreRight (b : List ℕ) : Type 0 where
  pub ways : (r outcome : ℕ) → WayIsRight (B.book_machine b) (B.events b) r outcome (way b r outcome)
  -- at most n − 1 codes, for which "a lent buffer of at least 128 bytes" is enough
  pub short : (r outcome : ℕ) (h : History) → way b r outcome ≡ some h → length h < B.states b

-- over the calls: b stands in the buffer after build was called on p, and history is the buffer of the way
pub record WayInBuffer (p b : List ℕ) (r outcome : ℕ) (history : List ℕ) : Type 0 where
  pub shown : Option History
  pub answered : way_answer b r outcome history ≡ given shown
  pub buffer : way_buffer b r outcome history ≡ written (history_bytes shown) history
  pub right : WayIsRight (policy_machine p) (P.events p) r outcome shown

abbrev pub WayOfCalls : List ℕ → List ℕ → ℕ → ℕ → List ℕ → Type 0
WayOfCalls p buffer r outcome history = WayInBuffer p (book_built p buffer) r outcome history

-- ---- request 4 of document 02: "the plain test whether two books have equal bytes", of any two strings
abbrev pub SameBytesIsRight : List ℕ → List ℕ → Type 0
SameBytesIsRight x y = (same_bytes x y ≡ true) ↔ (x ≡ y)

-- over the calls: what build leaves in two buffers has equal bytes exactly when the frames are equal and the same histories are possible
abbrev pub SameBytesOfCalls : List ℕ → List ℕ → List ℕ → List ℕ → Type 0
SameBytesOfCalls p q first second =
    (same_bytes (book_built p first) (book_built q second) ≡ true) ↔ ((P.frame p ≡ P.frame q) × SameHistories (policy_machine p) (policy_machine q))

-- ---- request 5 of document 02: a policy p without rules, whatever its variables, starting values and changes of events are

-- no row that judges rules, or what they lead to, turns such a file down: neither a mask, nor too many valuations, nor too many situations
abbrev pub NoRulesPass : List ℕ → Type 0
NoRulesPass p = (policy_refusal p ≡ 8 → ⊥) × (policy_refusal p ≡ 10 → ⊥) × (policy_refusal p ≡ 11 → ⊥)

-- "Missing is request 0 after the empty history; blocked holds after the empty history", and there is no conflict
abbrev pub nothing_answered : Findings
nothing_answered = record { conflict = none; missing = some (record { request = 0; history = [] }); blocked = some [] }

-- the row of a state in which each of E events leads to state 1, and none of Q requests is possible
abbrev pub events_row : ℕ → ℕ → List ℕ
events_row E Q = replicate E 1 ++ replicate (2 * Q) 0

-- of its book b, where the policy is accepted
pub record NoRulesAreRight (p b : List ℕ) : Type 0 where
  -- "a policy that answers nothing": the possible histories are the lists of events
  pub histories : (h : History) → (possible (policy_machine p) h ≡ true) ↔ Events (P.events p) h
  -- "Its book has one state whose events lead to itself"
  pub one : B.states b ≡ 1
  pub events : (e : ℕ) → e < P.events p → LeadsTo (B.book_machine b) 1 (e ∷ [])
  -- and no request is possible
  pub requests : (c : ℕ) → P.events p ≤ c → possible (B.book_machine b) (c ∷ []) ≡ false
  -- byte for byte
  pub bytes : b ≡ B.book_bytes (P.frame p) (events_row (P.events p) (P.requests p) ∷ [])
  pub findings : findings b ≡ nothing_answered

-- "Two such policies of equal frame have equal books whatever their variables are", and equal books only then
abbrev pub NoRulesShareBooks : List ℕ → List ℕ → Type 0
NoRulesShareBooks p q = (book_of p ≡ book_of q) ↔ (P.frame p ≡ P.frame q)

-- over the calls: b stands in the buffer after build was called on p, the other three buffers are verdict's, in which no byte changes
pub record NoRulesInBuffers (p b for_conflict for_missing for_blocked : List ℕ) : Type 0 where
  pub right : NoRulesAreRight p b
  pub size : length b ≡ 12 + P.width p
  pub answered : verdict_answer b for_conflict for_missing for_blocked ≡ given nothing_answered
  pub buffers : verdict_buffers b for_conflict for_missing for_blocked ≡ record { for_conflict = for_conflict; for_missing = for_missing; for_blocked = for_blocked }

abbrev pub NoRulesOfCalls : List ℕ → List ℕ → List ℕ → List ℕ → List ℕ → Type 0
NoRulesOfCalls p buffer for_conflict for_missing for_blocked = NoRulesInBuffers p (book_built p buffer) for_conflict for_missing for_blocked

-- and what build leaves in two buffers is the same exactly where the frames are
abbrev pub NoRulesShareBuilt : List ℕ → List ℕ → List ℕ → List ℕ → Type 0
NoRulesShareBuilt p q first second = (book_built p first ≡ book_built q second) ↔ (P.frame p ≡ P.frame q)
