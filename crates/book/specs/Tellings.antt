-- Document 01's telling for each case of the enum, and its number as an outcome.
use Rattle.std.specs.Prelude.{◌≡◌, ℕ, ◌<◌, Result, MatchResult}
use Rattle.definitions.specs.Telling as Told
use Rattle.refusal.specs.declared.Refusal.{Refusal}
use Rattle.refusal.specs.declared.Refusal.TheVariants.{UnknownOutcome}
use Rattle.book.specs.declared.telling.Telling.{Telling}
use Rattle.book.specs.declared.telling.Telling.TheVariants.{None, Accept, Reject, Both}

abbrev pub telling_of : Telling → Told.Telling
telling_of None = Told.none
telling_of Accept = Told.accept
telling_of Reject = Told.reject
telling_of Both = Told.both

-- the outcome with this number, or the refusal of a number that no outcome has
abbrev pub NumberedOutcome : ℕ → Result Telling Refusal → Type 0
NumberedOutcome n r = MatchResult r (λ outcome. Told.outcome_of (telling_of outcome) ≡ n) (λ e. (e ≡ UnknownOutcome) × (3 < n))
