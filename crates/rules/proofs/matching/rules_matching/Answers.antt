-- `rules::matching::rules_matching` meets its contract.
use mathlib.Core.Path.{◌∙◌}
use Rattle.definitions.specs.Policy.{value}
use Rattle.rules.specs.Arrays.{entry_of}
use Rattle.rules.proofs.Values.{admitting-same, value_small}
use Rattle.rules.proofs.matching.rules_matching.Goals as goal

pub rules_admitting-requires : goal.rules_admitting-requires
rules_admitting-requires c =
    let t = c.fill_values.ensures in
    (c.requires.1, t.room, λ f l. rw (t.entry f l) (value_small c.args.policy.now c.requires.0 c.args.r f l))

pub returns : goal.returns
returns c =
    let p = c.args.policy.now in
    let values = c.fill_values in
    c.rules_admitting.ensures ∙ admitting-same p (entry_of values.new.values) (value p c.args.r) values.ensures.entry
