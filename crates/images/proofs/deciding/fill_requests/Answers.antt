-- `images::deciding::fill_requests` meets its contract. The loop's invariant: the entries of the requests before r are filled.
use Rattle.std.proofs.Common.{get_or}
use Rattle.images.proofs.Choices.{listed_both}
use Rattle.images.proofs.deciding.fill_requests.Goals as goal

pub choose-choice-requires : goal.choose-choice-requires
choose-choice-requires c =
    let a = c.args in
    listed_both (get_or a.sets.now c.loop-r.r 0) a.enabled a.ranks.now a.targets.now c.requires.0
