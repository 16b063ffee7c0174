-- Each byte of a policy and of a book in turn holds a value that it cannot have. Events, fields, variables and rules differ in number, so that a record read
-- at a wrong place gives another number. The values were computed by the reference.
use Rattle.std.specs.Prelude.{List, [], ◌∷◌, ◌++◌, ℕ, length, set, replicate}
use Rattle.automaton.specs.Below.{list_below}
use Rattle.definitions.specs.Book.{concat}
use Rattle.definitions.specs.Refusal.{policy_refusal, book_refusal}
use Rattle.definitions.specs.Build.{book_of}
use Rattle.definitions.specs.Shelf.{shelf_text}
use Rattle.definitions.specs.Cases.Claim.{Claim, bytes}

-- 3 events, fields of 2 values and of 1, 4 variables, 5 rules
abbrev pub mixed : List ℕ
mixed =
    80 ∷ 79 ∷ 76 ∷ 0 ∷ 1 ∷ 3 ∷ 2 ∷ 4 ∷ 5
    ∷ 2 ∷ 1
    ∷ 0 ∷ 1 ∷ 0 ∷ 1 ∷ 1 ∷ 0 ∷ 0 ∷ 1 ∷ 1 ∷ 0 ∷ 0 ∷ 0 ∷ 0 ∷ 0 ∷ 0 ∷ 0 ∷ 0 ∷ 0
    ∷ 0 ∷ 2 ∷ 0 ∷ 1 ∷ 1 ∷ 1 ∷ 0 ∷ 0 ∷ 2 ∷ 0 ∷ 1 ∷ 1 ∷ 0 ∷ 0 ∷ 0 ∷ 0 ∷ 0 ∷ 0
    ∷ 0 ∷ 2 ∷ 0 ∷ 1 ∷ 0 ∷ 0 ∷ 0 ∷ 0 ∷ 0 ∷ 0 ∷ 0 ∷ 0 ∷ 1 ∷ 0 ∷ 0 ∷ 0 ∷ 0 ∷ 1
    ∷ 0 ∷ 1 ∷ 0 ∷ 1 ∷ 0 ∷ 2 ∷ 0 ∷ 0 ∷ 0 ∷ 0 ∷ 0 ∷ 0 ∷ 0 ∷ 0 ∷ 2 ∷ 1 ∷ 0 ∷ 0
    ∷ 0 ∷ 3 ∷ 0 ∷ 1 ∷ 1 ∷ 0 ∷ 0 ∷ 0 ∷ 0 ∷ 1 ∷ 0 ∷ 0 ∷ 0 ∷ 0 ∷ 1 ∷ 0 ∷ 0 ∷ 0
    ∷ 2 ∷ 0 ∷ 0 ∷ 0
    ∷ 0 ∷ 2 ∷ 1 ∷ 0
    ∷ 0 ∷ 0 ∷ 0 ∷ 2 ∷ []

abbrev pub book_of_mixed : List ℕ
book_of_mixed =
    66 ∷ 79 ∷ 75 ∷ 0 ∷ 1 ∷ 3 ∷ 2 ∷ 2 ∷ 1 ∷ 0 ∷ 0 ∷ 10
    ∷ 1 ∷ 2 ∷ 1 ∷ 3 ∷ 0 ∷ 4 ∷ 0
    ∷ 2 ∷ 2 ∷ 2 ∷ 5 ∷ 0 ∷ 6 ∷ 0
    ∷ 1 ∷ 5 ∷ 3 ∷ 0 ∷ 0 ∷ 4 ∷ 0
    ∷ 4 ∷ 2 ∷ 4 ∷ 6 ∷ 0 ∷ 6 ∷ 0
    ∷ 2 ∷ 5 ∷ 5 ∷ 0 ∷ 0 ∷ 6 ∷ 0
    ∷ 6 ∷ 2 ∷ 6 ∷ 6 ∷ 0 ∷ 6 ∷ 7
    ∷ 7 ∷ 8 ∷ 6 ∷ 0 ∷ 9 ∷ 7 ∷ 7
    ∷ 8 ∷ 8 ∷ 2 ∷ 0 ∷ 10 ∷ 7 ∷ 0
    ∷ 9 ∷ 8 ∷ 4 ∷ 0 ∷ 9 ∷ 7 ∷ 0
    ∷ 10 ∷ 8 ∷ 1 ∷ 0 ∷ 10 ∷ 9 ∷ 0 ∷ []

-- "states 10", "conflict 1 2 1 5", "missing 0 1 3", "blocked -"
abbrev text_of_mixed : List ℕ
text_of_mixed =
    115 ∷ 116 ∷ 97 ∷ 116 ∷ 101 ∷ 115 ∷ 32 ∷ 49 ∷ 48 ∷ 10
    ∷ 99 ∷ 111 ∷ 110 ∷ 102 ∷ 108 ∷ 105 ∷ 99 ∷ 116 ∷ 32 ∷ 49 ∷ 32 ∷ 50 ∷ 32 ∷ 49 ∷ 32 ∷ 53 ∷ 10
    ∷ 109 ∷ 105 ∷ 115 ∷ 115 ∷ 105 ∷ 110 ∷ 103 ∷ 32 ∷ 48 ∷ 32 ∷ 49 ∷ 32 ∷ 51 ∷ 10
    ∷ 98 ∷ 108 ∷ 111 ∷ 99 ∷ 107 ∷ 101 ∷ 100 ∷ 32 ∷ 45 ∷ 10 ∷ []

-- the number that refuses the bytes where byte i holds x
abbrev number_with : (List ℕ → ℕ) → List ℕ → ℕ → ℕ → ℕ
number_with refusal file x i = refusal (set file i x)

abbrev pub numbers_with : (List ℕ → ℕ) → List ℕ → ℕ → List ℕ
numbers_with refusal file x = list_below (length file) (number_with refusal file x)

-- the head and the counts; each rule's two masks, decision, level and four variables; the events' changes
abbrev policy_numbers : List ℕ
policy_numbers =
    3 ∷ 3 ∷ 3 ∷ 4 ∷ 4 ∷ 5 ∷ 5 ∷ 5 ∷ 5 ∷ 7 ∷ 7
    ∷ concat (replicate 5 (8 ∷ 8 ∷ 8 ∷ 8 ∷ 9 ∷ 0 ∷ replicate 12 9)) ++ replicate 12 9

-- the head; the rows, in which every entry is above n
abbrev book_numbers : List ℕ
book_numbers = 12 ∷ 12 ∷ 12 ∷ 12 ∷ 12 ∷ 13 ∷ 13 ∷ 13 ∷ 13 ∷ 13 ∷ 13 ∷ 13 ∷ replicate 70 14

-- the rows, in which 0 is no state, and an event is always possible
abbrev book_numbers_of_zero : List ℕ
book_numbers_of_zero = 12 ∷ 12 ∷ 12 ∷ 0 ∷ 12 ∷ 13 ∷ 13 ∷ 13 ∷ 13 ∷ 0 ∷ 0 ∷ 13 ∷ concat (replicate 10 (14 ∷ 14 ∷ 14 ∷ 0 ∷ 0 ∷ 0 ∷ 0 ∷ []))

abbrev pub each_byte_cases : List Claim
each_byte_cases =
    bytes (book_of mixed) book_of_mixed
    ∷ bytes (shelf_text mixed) text_of_mixed
    ∷ bytes (numbers_with policy_refusal mixed 255) policy_numbers
    ∷ bytes (numbers_with book_refusal book_of_mixed 255) book_numbers
    ∷ bytes (numbers_with book_refusal book_of_mixed 0) book_numbers_of_zero
    ∷ []
