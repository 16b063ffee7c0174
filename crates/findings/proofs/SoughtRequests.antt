-- Whether a request is sought at a state, from what the state tells of it.
use mathlib.Core.Path.{◌≡◌, refl, sym, ap, ◌∙◌}
use mathlib.Core.Bool.{Bool, true, false, not, ◌&&◌, ◌||◌}
use mathlib.Core.List.{List}
use Prim.Native.Nat.{ℕ}
use Rattle.definitions.specs.Telling.{Telling, to_telling, acceptable, rejectable, telling}
use Rattle.findings.specs.SoughtRequests.{sought_by, test_of}
use Rattle.findings.specs.declared.requests.Sought.{Sought}
use Rattle.findings.specs.declared.requests.Sought.TheVariants.{Conflict, Missing, Answer}

conflict-by : (a r : Bool) → (a && r) ≡ sought_by Conflict (to_telling a r)
conflict-by true true = refl
conflict-by true false = refl
conflict-by false true = refl
conflict-by false false = refl

answer-by : (a r : Bool) → (a || r) ≡ sought_by Answer (to_telling a r)
answer-by true true = refl
answer-by true false = refl
answer-by false true = refl
answer-by false false = refl

missing-by : (a r : Bool) → not (a || r) ≡ sought_by Missing (to_telling a r)
missing-by true true = refl
missing-by true false = refl
missing-by false true = refl
missing-by false false = refl

sought_by_law : (sought : Sought) (b : List ℕ) (s r : ℕ) → test_of sought b s r ≡ sought_by sought (telling b s r)
unfolding telling
sought_by_law Conflict b s r = conflict-by (acceptable b s r) (rejectable b s r)
sought_by_law Missing b s r = missing-by (acceptable b s r) (rejectable b s r)
sought_by_law Answer b s r = answer-by (acceptable b s r) (rejectable b s r)

pub sought_is : (sought : Sought) (b : List ℕ) (s r : ℕ) (told : Telling) (t : Bool) → told ≡ telling b s r → t ≡ sought_by sought told → test_of sought b s r ≡ t
sought_is sought b s r told t e is = sought_by_law sought b s r ∙ ap (sought_by sought) (sym e) ∙ sym is
