-- `first_unmarked` meets its contract: the states at the places below i are marked.
use mathlib.Core.Path.{◌≡◌, ap}
use mathlib.Core.Bool.{false, not}
use native.Mathlib.Omega.{arith}
use Rattle.definitions.specs.Bytes.{byte}
use Rattle.findings.specs.Marks.{marked, unmarked_at}
use Rattle.findings.proofs.LowestBelow.{lowest_hit, lowest-end}
use Rattle.findings.proofs.finding.first_unmarked.Goals as goal

pub returns-then-not-marks-state : goal.returns-then-not-marks-state
returns-then-not-marks-state c =
    let a = c.args in
    let l = c.loop-i in
    let is : marked a.marks.now (byte a.search.now.order l.i) ≡ false = rw c.state.ensures at c.if-not-marks-state.true in
    ((omega (arith, c.count-i-end.ensures)), lowest_hit (unmarked_at a.marks.now a.search.now.order) a.search.now.count l.i l.invariant (omega (arith, c.count-i-end.ensures)) (ap not is))

pub returns : goal.returns
returns c = let a = c.args in let l = c.loop-i in lowest-end (unmarked_at a.marks.now a.search.now.order) a.search.now.count l.i l.invariant (omega (arith, c.count-i-end.ensures)) (omega (arith, c.count-i-end.ensures))
