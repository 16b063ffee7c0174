use Rattle.std.proofs.Common.{◌≡◌, ℕ, ◌<◌, ◌/◌, get_or}
use Rattle.definitions.specs.Valuation.{worth, variable_in}
use Rattle.rules.proofs.effects.fill_variables.Given as goal

abbrev pub invariant-loop-j : goal.invariant-loop-j
invariant-loop-j l =
    (l.rest ≡ l.v / worth l.policy l.j)
    × ((i : ℕ) → i < l.j → get_or l.values i 0 ≡ variable_in l.policy l.v i)
