-- `first_with` meets its contract: the states at the places below k have no request that is sought.
use native.Mathlib.Omega.{arith}
use borrow.Author.Count.{below_more}
use Rattle.std.specs.Prelude.{None, Some}
use Rattle.definitions.specs.Book.{requests}
use Rattle.definitions.specs.Bytes.{byte}
use Rattle.findings.specs.SoughtRequests.{test_of, some_at, IsLowest}
use Rattle.findings.proofs.LowestBelow.{lowest_hit, lowest-end, any-lowest}
use Rattle.findings.proofs.finding.first_with.Goals as goal

pub returns-in-Some : goal.returns-in-Some
returns-in-Some c =
    let a = c.args in
    let b = a.book.bytes.now in
    let l = c.loop-place in
    let test = test_of a.sought b (byte a.search.now.order l.place) in
    let found : IsLowest (requests b) test (Some c.in-Some.request) = rw c.state.ensures at c.in-Some.ensures in
    record {
      within = omega (arith, c.count-place-end.ensures);
      first = lowest_hit (some_at a.sought b a.search.now.order) a.search.now.count l.place l.invariant (omega (arith, c.count-place-end.ensures)) (any-lowest test (requests b) (Some c.in-Some.request) found);
      lowest = found.1;
    }

pub loop-place-preserved : goal.loop-place-preserved
loop-place-preserved c =
    let a = c.args in
    let b = a.book.bytes.now in
    let l = c.loop-place in
    let test = test_of a.sought b (byte a.search.now.order l.place) in
    let none : IsLowest (requests b) test None = rw c.state.ensures at c.in_default.ensures in
    below_more _ _ l.invariant (any-lowest test (requests b) None none)

pub returns : goal.returns
returns c = let a = c.args in let l = c.loop-place in lowest-end (some_at a.sought a.book.bytes.now a.search.now.order) a.search.now.count l.place l.invariant (omega (arith, c.count-place-end.ensures)) (omega (arith, c.count-place-end.ensures))
