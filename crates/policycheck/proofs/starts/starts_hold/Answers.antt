-- `starts_hold` meets its contract.
use Rattle.std.proofs.Common.{ℕ, ◌+◌, ap, sym, ◌∙◌, leb, rules, tests}
use Rattle.automaton.proofs.Congruence.{all-below-same}
use Rattle.definitions.specs.Bytes.{byte}
use Rattle.definitions.specs.Policy.{fields, starts}
use Rattle.definitions.specs.Refusal.{start_holds}
use Rattle.definitions.proofs.Starts.{start_carried, starts_hold_law}
use Rattle.policycheck.proofs.AllBelow.{all_below-range}
use Rattle.policycheck.proofs.starts.starts_hold.Goals as goal

pub returns : goal.returns
returns c =
    let p = c.args.policy.now in
    let carried = λ (j : ℕ). leb (byte p (9 + fields p + j)) 63 in
    all_below-range carried (starts p) c.all.ensures.ran c.starts.ensures.0 (λ x b q k. search (rules, tests))
    ∙ all-below-same carried (start_holds p) (starts p) (λ j l. ap (λ (x : ℕ). leb x 63) (sym (start_carried p j l))) ∙ starts_hold_law p
