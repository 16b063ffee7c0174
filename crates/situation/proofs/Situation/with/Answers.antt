-- `Situation::with` meets its contract.
use Rattle.definitions.proofs.Sets.{one_shifted}
use Rattle.situation.proofs.Situation.with.Goals as goal

pub returns : goal.returns
returns c = rw (one_shifted c.args.v c.requires)
