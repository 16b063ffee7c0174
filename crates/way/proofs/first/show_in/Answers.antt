-- `show_in` meets its contract: the history of the first state that is a goal.
use native.Mathlib.Omega.{arith}
use Rattle.way.proofs.ShownWays.{shows-none, shows-found}
use Rattle.way.proofs.first.show_in.Goals as goal

pub returns-in_err-length : goal.returns-in_err-length
returns-in_err-length g c = rw c.from_residual.ensures (shows-none c.args.goal c.in_err-length.ensures c.args.history.now)

pub returns : goal.returns
returns g c = shows-found c.args.goal c.in_ok-length.ensures _ (omega (arith, c.count-last.ensures)) c.args.history.now _ c.write_codes.ensures
