-- `events_hold` meets its contract.
use Rattle.std.proofs.Common.{◌∙◌, rules, tests}
use Rattle.std.proofs.lemmas.Iterator.{YieldsList-from_slice}
use Rattle.std.proofs.lemmas.Iterator.Search.{all_from_yields_List}
use Rattle.policycheck.proofs.EventChanges.{change_holds, events_hold}
use Rattle.policycheck.proofs.values.events_hold.Goals as goal

pub returns : goal.returns
returns c =
    let changes = c.args.changes.now in
    all_from_yields_List change_holds _ _ _ c.all.ensures.ran (YieldsList-from_slice changes cc) (λ x b q k. search (rules, tests))
    ∙ events_hold c.args.policy.now changes c.requires
