use Rattle.std.proofs.Common.{◌≡◌, ℕ, ◌<◌, get_or}
use Rattle.definitions.specs.Valuation.{bound}
use Rattle.rules.proofs.effects.fill_bounds.Given as goal

abbrev pub invariant-loop-j : goal.invariant-loop-j
invariant-loop-j l = (i : ℕ) → i < l.j → get_or l.bounds i 0 ≡ bound l.policy i
