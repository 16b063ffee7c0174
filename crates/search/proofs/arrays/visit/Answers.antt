-- `visit` meets its contract: the codes below some code have been tried from the state at place i.
use mathlib.Core.Path.{◌∙◌}
use Prim.Native.Nat.{◌-◌, ◌*◌}
use native.Mathlib.Omega.{arith}
use borrow.Author.Rules.{rules}
use Rattle.search.proofs.Found.{as_found}
use Rattle.search.proofs.SearchTurns.{tried-asks, tried-turn, part-code, part-entry}
use Rattle.search.proofs.arrays.visit.Goals as goal

pub note-k-requires : goal.note-k-requires
note-k-requires c =
    let s = c.requires.small_table in
    let here = c.loop-code-test.true in
    let start = (c.from.result - 1) * c.args.width in
    let now = c.loop-code.invariant in
    let asks = tried-asks s.0 s.1 now.0 (part-code _ start _ _ here) c.from.result c.from.ensures _ (c.from-there.ensures ∙ part-entry _ start _ _ here) (omega (arith, c.requires.arrays.1, now.2)) in
    record { arrays = now.1; state_in_bounds = asks.0; code_in_bounds = asks.1 }

pub loop-code-preserved : goal.loop-code-preserved
loop-code-preserved c =
    let s = c.requires.small_table in
    let here = c.loop-code-test.true in
    let start = (c.from.result - 1) * c.args.width in
    let turned = tried-turn s.0 s.1 c.loop-code.invariant.0 (part-code _ start _ _ here) c.from.result c.from.ensures _ (c.from-there.ensures ∙ part-entry _ start _ _ here) c.note-k.ensures.holds.are in
    (turned, as_found c.note-k.ensures, search rules, search rules, search rules)
