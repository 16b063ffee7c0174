-- Numbers as decimal text: those that occur are below 1,000.
use Rattle.std.specs.Prelude.{cond, List, [], ◌∷◌, ℕ, ◌+◌, ◌/◌, ◌%◌, ltb}

abbrev pub digit : ℕ → ℕ
digit n = 48 + n % 10

abbrev pub decimal : ℕ → List ℕ
decimal n =
    let one = digit n ∷ [] in
    let two = digit (n / 10) ∷ one in
    let three = digit (n / 100) ∷ two in
    cond (ltb n 10) one (cond (ltb n 100) two three)
