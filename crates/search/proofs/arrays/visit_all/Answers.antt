-- `visit_all` meets its contract: i states have been visited, and at most as many are found as the table has rows.
use mathlib.Core.Path.{refl}
use native.Mathlib.Omega.{arith}
use borrow.Author.Rules.{rules}
use Rattle.search.proofs.Found.{as_found}
use Rattle.search.proofs.SearchTurns.{searched_begun, searched_few, searched-next, searched-turn, searched_done}
use Rattle.search.proofs.arrays.visit_all.Goals as goal

pub loop-i-init : goal.loop-i-init
loop-i-init c = (searched_begun _ _ c.requires.begun.holds.are, as_found c.requires.begun, refl, refl, refl)

pub visit-n-requires : goal.visit-n-requires
visit-n-requires c =
    let small = c.requires.small_table in
    let now = c.loop-i.invariant in
    record { small_table = (small.0, searched-next _ _ small.0 now.0 c.loop-i-test.true); arrays = (now.1, omega (arith, small.1, now.2)) }

pub overflow_add-i : goal.overflow_add-i
overflow_add-i c = omega (arith, searched_few _ _ c.requires.small_table.0 c.loop-i.invariant.0, c.loop-i-test.true)

pub loop-i-smaller : goal.loop-i-smaller
loop-i-smaller c = omega (arith, searched_few _ _ c.requires.small_table.0 c.loop-i.invariant.0, c.loop-i-test.true)

pub loop-i-preserved : goal.loop-i-preserved
loop-i-preserved c =
    let turned = searched-turn _ _ c.requires.small_table.0 c.loop-i.invariant.0 c.loop-i-test.true c.visit-n.ensures.holds.are in
    (turned, as_found c.visit-n.ensures, search rules, search rules, search rules)

pub returns : goal.returns
returns c =
    let now = c.loop-i.invariant in
    rw (searched_done _ _ c.requires.small_table.0 now.0 c.loop-i-test.false) at now.1
