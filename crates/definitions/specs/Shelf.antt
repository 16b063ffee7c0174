-- The text that the program `shelf` writes for a policy: four lines, or one line with the number of a refusal.
use Rattle.std.specs.Prelude.{cond, List, [], ◌∷◌, ◌++◌, ℕ, eqb, length, take}
use Rattle.std.proofs.Math.Option.{Option, none, some}
use Rattle.automaton.specs.History.{History}
use Rattle.definitions.specs.Book.{states}
use Rattle.definitions.specs.Refusal.{policy_refusal}
use Rattle.definitions.specs.Build.{book_of}
use Rattle.definitions.specs.Verdict.{Found, conflict, missing, blocked}
use Rattle.definitions.specs.Characters.{blank, newline}
use Rattle.definitions.specs.Decimal.{decimal}

-- ---- lines: "Parts of a line are one blank apart"

-- the codes, each after a blank
abbrev pub codes_text : History → List ℕ
codes_text [] = []
codes_text (c ∷ h) = blank ∷ decimal c ++ codes_text h

-- "length and codes"
abbrev pub history_text : History → List ℕ
history_text h = decimal (length h) ++ codes_text h

-- "-"
abbrev pub none_text : List ℕ
none_text = 45 ∷ []

-- "request, history length, codes; .. - is none"
abbrev pub found_text : Option Found → List ℕ
found_text none = none_text
found_text (some t) = decimal t.request ++ (blank ∷ history_text t.history)

abbrev pub blocked_text : Option History → List ℕ
blocked_text none = none_text
blocked_text (some h) = history_text h

-- a line: a word, a blank, the rest
abbrev pub line : List ℕ → List ℕ → List ℕ
line word rest = word ++ (blank ∷ rest) ++ (newline ∷ [])

-- "states", "conflict", "missing", "blocked", "refused"
abbrev pub states_word : List ℕ
states_word = 115 ∷ 116 ∷ 97 ∷ 116 ∷ 101 ∷ 115 ∷ []

abbrev pub conflict_word : List ℕ
conflict_word = 99 ∷ 111 ∷ 110 ∷ 102 ∷ 108 ∷ 105 ∷ 99 ∷ 116 ∷ []

abbrev pub missing_word : List ℕ
missing_word = 109 ∷ 105 ∷ 115 ∷ 115 ∷ 105 ∷ 110 ∷ 103 ∷ []

abbrev pub blocked_word : List ℕ
blocked_word = 98 ∷ 108 ∷ 111 ∷ 99 ∷ 107 ∷ 101 ∷ 100 ∷ []

abbrev pub refused_word : List ℕ
refused_word = 114 ∷ 101 ∷ 102 ∷ 117 ∷ 115 ∷ 101 ∷ 100 ∷ []

-- the lines of a book
unfoldable pub book_text : List ℕ → List ℕ
unfolding conflict missing blocked
book_text b =
    line states_word (decimal (states b)) ++ line conflict_word (found_text (conflict b)) ++ line missing_word (found_text (missing b))
    ++ line blocked_word (blocked_text (blocked b))

-- "A bad file gives one line, refused and the number"
unfoldable pub policy_text : List ℕ → List ℕ
unfolding policy_refusal book_of book_text
policy_text p =
    let right = book_text (book_of p) in
    let wrong = line refused_word (decimal (policy_refusal p)) in
    cond (eqb (policy_refusal p) 0) right wrong

-- "a policy of up to 1,024 bytes (a longer one is judged by its first 1,024)"
unfoldable pub shelf_text : List ℕ → List ℕ
unfolding policy_text
shelf_text input = policy_text (take 1024 input)
