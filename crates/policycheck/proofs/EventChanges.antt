-- The changes of all events, as one list: it passes exactly if every event does.
use mathlib.Core.Path.{◌≡◌, ap, ◌∙◌}
use mathlib.Core.Bool.{Bool}
use mathlib.Core.List.{List}
use Prim.Native.Nat.{ℕ, ◌+◌, ◌*◌}
use lib.Dec.{leb}
use Rattle.std.specs.List.{list_all}
use Rattle.automaton.specs.Below.{all_below}
use Rattle.automaton.proofs.Loops.{all-rows}
use Rattle.definitions.specs.Bytes.{byte}
use Rattle.definitions.specs.Policy.{events, variables}
use Rattle.definitions.specs.Refusal.{event_holds}
use Rattle.policy.specs.Sized.{ChangesOf}
use Rattle.policy.proofs.Parts.{changes-length}
use Rattle.policycheck.proofs.AllBelow.{all_below-list}

abbrev pub change_holds : ℕ → Bool
change_holds change = leb change 2

-- change i of a list of changes
abbrev change_at : List ℕ → ℕ → Bool
change_at changes i = change_holds (byte changes i)

pub events_hold : (p changes : List ℕ) → ChangesOf p changes → list_all change_holds changes ≡ all_below (events p) (event_holds p)
events_hold p changes h =
    all_below-list change_holds changes ∙ ap (λ (n : ℕ). all_below n (change_at changes)) (changes-length p changes h)
    ∙ all-rows (change_at changes) (events p) (variables p)
    ∙ ap (λ (t : List ℕ). all_below (events p) (λ e. all_below (variables p) (λ j. change_at t (e * variables p + j)))) h.changes
