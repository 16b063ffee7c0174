-- `put_tellings` meets its contract: what is told of the first requests is put, each in at most seven bytes.
use native.Mathlib.Omega.{arith}
use Rattle.play.proofs.StateLines.{asked, few, tellings_turn}
use Rattle.play.proofs.lines.put_tellings.Goals as goal

pub requests-request-end-requires : goal.requests-request-end-requires
requests-request-end-requires c = asked c.args.book.now c.args.state c.requires.0

pub put_telling-next-requires : goal.put_telling-next-requires
put_telling-next-requires c =
    omega (arith, few c.args.book.now c.args.state c.requires.0, c.requests-request-end.ensures)

pub loop-request-preserved : goal.loop-request-preserved
loop-request-preserved c =
    let put = c.put_telling-next.ensures in
    record {
      put = tellings_turn c.args.book.now c.args.state c.requires.0 c.loop-request.request _ (omega (arith, c.requests-request-end.ensures)) c.tell.ensures c.loop-request.invariant.put put.put;
      short = omega arith;
    }

pub returns-clause-upper_bound : goal.returns-clause-upper_bound
returns-clause-upper_bound c =
    omega (arith, few c.args.book.now c.args.state c.requires.0, c.requests-request-end.ensures)
