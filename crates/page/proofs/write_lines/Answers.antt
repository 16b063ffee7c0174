-- `write_lines` meets its contract: i lines are written.
use native.Mathlib.Omega.{arith}
use Rattle.automaton.proofs.Loops.{part_is-drop}
use Rattle.page.proofs.WrittenLines.{lines-turn, lines-done}
use Rattle.page.proofs.write_lines.Goals as goal

pub loop-i-preserved : goal.loop-i-preserved
loop-i-preserved c =
    let l = c.loop-i in
    lines-turn _ _ c.args.book.passed c.requires.room _ c.states-n.ensures l.i l.page l.invariant c.loop-i-test.true c.args.depths.now _ _ c.requires.depths_of.1 c.from-depth.ensures (simp part_is-drop at c.write_line.ensures)

pub returns-clause-page_after : goal.returns-clause-page_after
returns-clause-page_after c = lines-done _ _ c.args.book.passed c.requires.room _ c.states-n.ensures _ _ c.loop-i.invariant (omega arith)
