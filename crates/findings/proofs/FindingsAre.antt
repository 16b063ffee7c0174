-- What is found is what document 01 says.
use mathlib.Core.Path.{◌≡◌}
use mathlib.Core.List.{List}
use mathlib.Core.Option.{Option}
use Prim.Native.Nat.{ℕ}
use Rattle.automaton.specs.History.{History}
use Rattle.definitions.specs.Answer.{written, history_bytes}
use Rattle.definitions.specs.Verdict.{Found, findings, found_history, conflict, missing, blocked}
use Rattle.findings.specs.SoughtRequests.{sought_finding}
use Rattle.findings.specs.declared.requests.Sought.TheVariants.{Conflict, Missing}

module _ (b : List ℕ) where
  pub findings-are : (c m : Option Found) (k : Option History) → c ≡ sought_finding Conflict b → m ≡ sought_finding Missing b → k ≡ blocked b
      → record { conflict = c; missing = m; blocked = k } ≡ findings b
  unfolding findings conflict missing sought_finding
  findings-are c m k ec em ek = rw (ec, em, ek)

  -- x and y are the first two buffers after the call
  pub histories-are : (for_conflict for_missing x y : List ℕ)
      → x ≡ written (history_bytes (found_history (sought_finding Conflict b))) for_conflict → y ≡ written (history_bytes (found_history (sought_finding Missing b))) for_missing
      → (x ≡ written (history_bytes (found_history (conflict b))) for_conflict) × (y ≡ written (history_bytes (found_history (missing b))) for_missing)
  unfolding conflict missing sought_finding
  histories-are for_conflict for_missing x y ex ey = (ex, ey)
