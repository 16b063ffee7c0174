-- `merge` meets its contract: where one number has the label, one store moves it.
use native.Mathlib.Omega.{arith}
use Rattle.comparelabels.proofs.LabelBytes.{alone}
use Rattle.comparelabels.proofs.label_bytes.merge.Goals as goal

pub returns-then-base-from : goal.returns-then-base-from
returns-then-base-from c =
    let base = c.from-base.ensures in
    rw base (alone _ _ c.requires.own_from _ (omega arith) c.requires.x_in_bounds.2 c.args.x (omega (arith, base, rw base at c.from.ensures, c.if-base-from.true)))
