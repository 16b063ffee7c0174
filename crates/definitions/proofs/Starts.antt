-- The starting values: a file of version 2 carries one for each variable, a file of version 1 none, and what the file does not carry is 0.
use mathlib.Core.Path.{◌≡◌, refl, sym}
use mathlib.Core.Bool.{Bool, cond, true, false}
use mathlib.Core.List.{List}
use Prim.Native.Nat.{ℕ, zero, suc, ◌+◌, ◌*◌, ◌≤◌, ◌<◌, min}
use native.Mathlib.Nat.{zero-min, zero-mul}
use native.Mathlib.Omega.{arith}
use lib.Dec.{leb, eqb}
use Rattle.automaton.specs.Below.{all_below, fold_below}
use Rattle.automaton.proofs.Below.{all_below_law}
use Rattle.definitions.specs.Bytes.{byte, version}
use Rattle.definitions.specs.Policy.{fields, variables, starts, starting_value}
use Rattle.definitions.specs.Valuation.{bound, worth, with_variable, initial_value, start_valuation}
use Rattle.definitions.specs.Refusal.{start_holds, starts_hold}

module _ (p : List ℕ) where
  pub starts-most : starts p ≤ variables p
  starts-most = go (eqb (version p) 2)
    where
      go : (b : Bool) → cond b (variables p) 0 ≤ variables p
      go true = omega arith
      go false = omega arith

  -- a starting value that the file carries
  pub start_carried : (j : ℕ) → j < starts p → starting_value p j ≡ byte p (9 + fields p + j)
  start_carried j = go (eqb (version p) 2)
    where
      go : (b : Bool) → j < cond b (variables p) 0 → cond b (byte p (9 + fields p + j)) 0 ≡ byte p (9 + fields p + j)
      go true l = refl
      go false l = absurd (omega arith)

  -- where those that the file carries hold, all do
  pub starts_hold_law : all_below (starts p) (start_holds p) ≡ starts_hold p
  starts_hold_law = go (eqb (version p) 2)
    where
      go : (b : Bool)
          → all_below (cond b (variables p) 0) (λ j. leb (cond b (byte p (9 + fields p + j)) 0) 63) ≡ all_below (variables p) (λ j. leb (cond b (byte p (9 + fields p + j)) 0) 63)
      go true = refl
      go false = sym (all_below_law (λ j. leb 0 63) (variables p) (λ j l. refl))

  -- those that the file carries make the start
  zeros : (n : ℕ) → fold_below n 0 (λ j v. v + min 0 (bound p j) * worth p j) ≡ 0
  zeros zero = refl
  zeros (suc n) = rw (zeros n, zero-min (bound p n), zero-mul (worth p n))

  pub start_summed : fold_below (starts p) 0 (with_variable p (initial_value p)) ≡ start_valuation p
  start_summed = go (eqb (version p) 2)
    where
      go : (b : Bool)
          → fold_below (cond b (variables p) 0) 0 (λ j v. v + min (cond b (byte p (9 + fields p + j)) 0) (bound p j) * worth p j)
          ≡ fold_below (variables p) 0 (λ j v. v + min (cond b (byte p (9 + fields p + j)) 0) (bound p j) * worth p j)
      go true = refl
      go false = sym (zeros (variables p))
