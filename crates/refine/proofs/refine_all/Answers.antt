-- `refine_all` meets its contract: each turn is a round, until one moves no state.
use Rattle.std.proofs.Common.{arith}
use Rattle.refine.proofs.Refinement.{refining_begun, refining_turn, refining_less}
use Rattle.refine.proofs.refine_all.Goals as goal

pub loop-moved-init : goal.loop-moved-init
loop-moved-init c = refining_begun c.args.next.now c.args.table.well_formed c.requires.lengths.0 c.requires.lengths.1 c.requires.one_class (omega (arith, c.fill_leads.auto)) c.fill_leads.ensures c.requires.lengths.2

pub loop-moved-smaller : goal.loop-moved-smaller
loop-moved-smaller c =
    let r = c.divide-moved in
    refining_less c.loop-moved.invariant r.ensures.next_after c.copy_from_slice.ensures.after r.ensures.value c.loop-moved-test.true

pub loop-moved-preserved : goal.loop-moved-preserved
loop-moved-preserved c =
    let r = c.divide-moved in
    refining_turn c.loop-moved.invariant r.ensures.next_after c.copy_from_slice.ensures.after r.ensures.value
