-- `images::PreparedPolicy::fill_row` meets its contract: the row has the events, and after them the decided requests.
use Rattle.std.proofs.Common.{arith}
use Rattle.images.proofs.ImageRows.{row_imaged}
use Rattle.images.proofs.PreparedPolicy.fill_row.Goals as goal

pub returns : goal.returns
returns c =
    let values = c.fill_variables in
    let row = c.fill_events in
    let first = c.events-first in
    let decided = c.fill_decided in
    row_imaged c.args.self.policy.now values.new.values c.args.v first.result row.new.row decided.new.row values.ensures first.ensures.0
    (omega (arith, row.auto.row, c.requires)) row.ensures decided.auto.row decided.ensures
