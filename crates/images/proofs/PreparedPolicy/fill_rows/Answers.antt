-- `images::PreparedPolicy::fill_rows` meets its contract. The loop's invariant: the rows of the valuations before v are filled.
use Rattle.std.proofs.Common.{◌≡◌, ◌+◌, ◌*◌, ◌≤◌, ap, arith, length}
use Rattle.automaton.proofs.Loops.{row_within}
use Rattle.definitions.specs.Policy.{width}
use Rattle.definitions.specs.Valuation.{valuations}
use Rattle.policy.specs.declared.shape.Shape.{Shape}
use Rattle.images.proofs.ImageRows.{rows_more}
use Rattle.images.proofs.PreparedPolicy.fill_rows.Goals.{In-loop-v}
use Rattle.images.proofs.PreparedPolicy.fill_rows.Goals as goal

within : (c : In-loop-v) → c.loop-v.v * c.args.shape.width + c.args.shape.width ≤ length c.loop-v.images
within c =
    let s = c.args.shape in
    let width_is : s.width ≡ width c.args.self.policy.now = ap (λ (x : Shape). x.width) c.requires.0 in
    let valuations-are : s.valuations ≡ valuations c.args.self.policy.now = ap (λ (x : Shape). x.valuations) c.requires.0 in
    let all_fit : s.valuations * s.width ≤ length c.args.images.now = rw (valuations-are, width_is) c.requires.1 in
    omega (arith, row_within c.loop-v.v s.valuations s.width c.loop-v-test.true)

pub loop-v-preserved : goal.loop-v-preserved
loop-v-preserved c =
    let loop = c.loop-v in
    let row = c.fill_row in
    rows_more c.args.self.policy.now c.args.shape.width loop.v loop.images _ (ap (λ (x : Shape). x.width) c.requires.0)
    (within (goal.at.loop-v-preserved c).In-loop-v) loop.invariant row.auto.row row.ensures
