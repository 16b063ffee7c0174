-- Row 11 by histories: a file that the rows before it let pass is refused by row 11 exactly when 128 possible histories lead to situations no two of which
-- are equal.
use mathlib.Core.Path.{◌≡◌}
use mathlib.Core.Logic.{◌↔◌}
use mathlib.Core.List.{List}
use Prim.Native.Nat.{ℕ, ◌<◌}
use lib.Dec.{leb}
use lib.ListN.{length}
use borrow.Author.Tests.{leb-false, lt-leb}
use Rattle.automaton.specs.Machine.{DistinctStates}
use Rattle.automaton.proofs.Reachable.{reached-over}
use Rattle.definitions.specs.Situation.{policy_machine}
use Rattle.definitions.specs.Refusal.{file_refusal, situations, row11, policy_refusal}
use Rattle.definitions.specs.Demands.{Row11IsRight}
use Rattle.definitions.proofs.Tests.{judge-last}
use Rattle.definitions.proofs.Steps.{start-is-state}

module _ (p : List ℕ) where
  situations-over : (127 < length (situations p)) ↔ DistinctStates (policy_machine p) 128
  unfolding situations
  situations-over = reached-over (policy_machine p) 127 (start-is-state p)

  row11-over : file_refusal p ≡ 0 → (policy_refusal p ≡ 11) ↔ (127 < length (situations p))
  unfolding policy_refusal row11
  row11-over passes =
      let n = length (situations p) in
      let row = judge-last 10 (leb n 127) in
      rw passes (λ e. leb-false n 127 (row.0 e), λ l. row.1 (lt-leb n 127 l))

  pub row11-right : file_refusal p ≡ 0 → Row11IsRight p
  row11-right passes =
      let row = row11-over passes in
      (λ e. situations-over.0 (row.0 e), λ d. row.1 (situations-over.1 d))
