-- `images::PreparedPolicy::fill_decided` meets its contract.
use Rattle.std.proofs.Common.{arith}
use Rattle.images.proofs.ImageRows.{rules_listed, row_decided}
use Rattle.images.proofs.PreparedPolicy.fill_decided.Goals as goal

pub fill_requests-requires : goal.fill_requests-requires
fill_requests-requires c =
    let s = c.args.self in
    let targets = c.fill_targets in
    let enabled = c.rules_enabled-enabled in (
      rules_listed s.policy.now s.bounds.now s.sets.now s.ranks.now c.args.values.now targets.new.targets enabled.result s.has_arrays enabled.ensures targets.ensures c.requires.0,
      omega (arith, s.has_arrays.counted, c.requires.1),
    )

pub returns : goal.returns
returns c =
    let s = c.args.self in
    let targets = c.fill_targets in
    let enabled = c.rules_enabled-enabled in
    row_decided s.policy.now s.bounds.now s.sets.now s.ranks.now c.args.values.now targets.new.targets enabled.result s.has_arrays enabled.ensures targets.ensures _
    c.fill_requests.ensures
