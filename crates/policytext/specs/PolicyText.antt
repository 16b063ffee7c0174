-- The text for a policy: a line with the number of a refusal, or a text of its book.
use Rattle.std.specs.Prelude.{cond, List, ℕ, eqb}
use Rattle.definitions.specs.Refusal.{policy_refusal}
use Rattle.definitions.specs.Build.{book_of}
use Rattle.definitions.specs.Decimal.{decimal}
use Rattle.definitions.specs.Shelf.{line, refused_word}

unfoldable pub refusal_or : (List ℕ → List ℕ) → List ℕ → List ℕ
unfolding policy_refusal book_of
refusal_or text p =
    let right = text (book_of p) in
    let wrong = line refused_word (decimal (policy_refusal p)) in
    cond (eqb (policy_refusal p) 0) right wrong
