-- `write_joined` meets its contract: the parts of its arrays have a place for each state and one before them, and the states are in one class.
use Rattle.std.proofs.Common.{◌≡◌, ◌+◌, ◌-◌, ◌≤◌, ◌∙◌, ℕ, List, ◌∷◌, length, take, sym, ap, refl, add-one, arith}
use Rattle.std.proofs.Math.ListN.{replicate}
use Rattle.std.proofs.lemmas.List.{take-replicate}
use lib.Seq.{length-take-le}
use Rattle.refine.specs.Rounds.{one_class}
use Rattle.join.proofs.write_joined.Goals as goal

-- the array as it begins, and a part of it
abbrev begun : List ℕ
begun = 0 ∷ replicate 127 1

begun_part : (n : ℕ) → n ≤ 127 → take (n + 1) begun ≡ one_class (length (take (n + 1) begun))
begun_part n few =
    let size : length begun ≡ 128 = refl in
    let left : length (take (n + 1) begun) - 1 ≡ n = omega (arith, length-take-le (n + 1) begun (omega arith)) in
    rw add-one (ap (λ (l : List ℕ). 0 ∷ l) (take-replicate n 127 1 few)) ∙ ap (λ (k : ℕ). 0 ∷ replicate k 1) (sym left)

pub write_joined_in-requires-clause-one_class : goal.write_joined_in-requires-clause-one_class
write_joined_in-requires-clause-one_class c = begun_part c.args.n c.requires.table_in.1
