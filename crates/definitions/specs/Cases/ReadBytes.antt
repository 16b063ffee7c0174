-- Parts of policies and books, read off their bytes: numbers of requests, frames, marks, and what is read past an end.
use Rattle.std.specs.Prelude.{List, [], ◌∷◌, set}
use Rattle.definitions.specs.Bytes.{byte}
use Rattle.definitions.specs.Policy.{frame, request_number}
use Rattle.definitions.specs.Refusal.{policy_refusal, book_refusal, row15}
use Rattle.definitions.specs.Cases.Claim.{Claim, number, bytes}
use Rattle.definitions.specs.Cases.Samples.{policy, policy_a, book_a}
use Rattle.definitions.specs.Cases.Several.{several, wide}

abbrev pub read_cases : List Claim
read_cases =
    number (byte (5 ∷ 6 ∷ []) 1) 6
    ∷ number (byte (5 ∷ 6 ∷ []) 2) 0
    -- "its number r starts at 0 and comes from r = first value, then for each later field r × (its count) + value"
    ∷ number (request_number several (byte (1 ∷ 2 ∷ 1 ∷ []))) 11
    ∷ number (request_number several (byte (0 ∷ 1 ∷ 0 ∷ []))) 2
    ∷ number (request_number wide (byte (3 ∷ 1 ∷ 2 ∷ 1 ∷ []))) 61
    -- "four value counts (0 for absent fields)", whatever stands after those that are present
    ∷ bytes (frame (policy 0 0 1 (16 ∷ 0xFF ∷ 0xFF ∷ 1 ∷ 0 ∷ []))) (0 ∷ 1 ∷ 16 ∷ 0 ∷ 0 ∷ 0 ∷ [])
    ∷ bytes (frame wide) (1 ∷ 4 ∷ 4 ∷ 2 ∷ 4 ∷ 2 ∷ [])
    -- each byte of a mark, one less
    ∷ number (policy_refusal (set policy_a 0 0x4F)) 3
    ∷ number (policy_refusal (set policy_a 1 0x4E)) 3
    ∷ number (policy_refusal (set policy_a 2 0x4B)) 3
    ∷ number (book_refusal (set book_a 0 0x41)) 12
    ∷ number (book_refusal (set book_a 1 0x4E)) 12
    ∷ number (book_refusal (set book_a 2 0x4A)) 12
    -- two frames differ in E, F or any count, and in nothing else
    ∷ number (row15 book_a (set book_a 5 2)) 15
    ∷ number (row15 book_a (set book_a 6 2)) 15
    ∷ number (row15 book_a (set book_a 7 3)) 15
    ∷ number (row15 (set book_a 8 1) book_a) 15
    ∷ number (row15 (set book_a 9 1) book_a) 15
    ∷ number (row15 (set book_a 10 1) book_a) 15
    ∷ number (row15 book_a (set book_a 11 4)) 0
    ∷ number (row15 book_a (set book_a 4 2)) 0
    ∷ []
