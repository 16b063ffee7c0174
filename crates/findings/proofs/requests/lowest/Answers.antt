-- `lowest` meets its contract: the requests below r are not sought.
use mathlib.Core.Path.{◌∙◌}
use Prim.Native.Nat.{◌<◌}
use native.Mathlib.Omega.{arith}
use borrow.Author.Count.{below_more}
use Rattle.definitions.specs.Book.{requests}
use Rattle.findings.specs.SoughtRequests.{test_of}
use Rattle.findings.proofs.LowestBelow.{lowest_hit, lowest-end}
use Rattle.findings.proofs.SoughtRequests.{sought_is}
use Rattle.findings.proofs.requests.lowest.Goals as goal

pub returns-then-is_sought : goal.returns-then-is_sought
returns-then-is_sought c =
    let a = c.args in
    let l = c.loop-r in
    let low : l.r < requests a.book.bytes.now = omega (arith, a.book.requests_are, c.loop-r-test.true) in
    let is = sought_is a.sought a.book.bytes.now a.state l.r _ _ c.telling.ensures c.is_sought.ensures in
    (low, lowest_hit (test_of a.sought a.book.bytes.now a.state) (requests a.book.bytes.now) l.r l.invariant low (is ∙ c.if-is_sought.true))

pub loop-r-preserved : goal.loop-r-preserved
loop-r-preserved c =
    let a = c.args in
    let l = c.loop-r in
    let is = sought_is a.sought a.book.bytes.now a.state l.r _ _ c.telling.ensures c.is_sought.ensures in
    below_more _ _ l.invariant (is ∙ c.if-is_sought.false)

pub returns : goal.returns
returns c =
    let a = c.args in
    let l = c.loop-r in
    lowest-end (test_of a.sought a.book.bytes.now a.state) (requests a.book.bytes.now) l.r l.invariant
    (omega (arith, a.book.requests_are, c.loop-r-test.false)) (omega (arith, a.book.requests_are, l.auto.r-end))
