-- `note_depths` meets its contract: the depths of the first k states are noted.
use mathlib.Core.Path.{◌≡◌, refl}
use Prim.Native.Nat.{ℕ}
use native.Mathlib.Omega.{arith}
use lib.ListN.{length, length-set}
use Rattle.page.proofs.NotedDepths.{parent-before, noted_first, note-reads, note-fits, noted-next}
use Rattle.page.proofs.depths.note_depths.Goals as goal

pub loop-k-init : goal.loop-k-init
loop-k-init c =
    let p = c.requires in
    noted_first p.0 _ refl p.1 p.2 _ c.from.ensures

pub bounds-order-parent : goal.bounds-order-parent
bounds-order-parent c =
    let P = c.requires.0 in
    omega (arith, P.room_order, c.loop-k-test.true, parent-before P c.loop-k.k c.loop-k.auto.k c.loop-k-test.true _ c.from-parent.ensures)

pub bounds-depths-from-in-loop-k : goal.bounds-depths-from-in-loop-k
bounds-depths-from-in-loop-k c =
    let l = c.loop-k in
    let long : length l.depths ≡ length c.args.depths.now = omega (arith, l.auto.depths, length-set {A = ℕ}) in
    note-reads c.requires.0 l.depths long l.k l.auto.k c.loop-k-test.true l.invariant _ c.from-parent.ensures _ c.from-in-loop-k.ensures

pub overflow_add-depths : goal.overflow_add-depths
overflow_add-depths c =
    let l = c.loop-k in
    let long : length l.depths ≡ length c.args.depths.now = omega (arith, l.auto.depths, length-set {A = ℕ}) in
    omega (arith, note-fits c.requires.0 l.depths long l.k l.auto.k c.loop-k-test.true l.invariant _ c.from-parent.ensures _ c.from-in-loop-k.ensures)

pub loop-k-preserved : goal.loop-k-preserved
loop-k-preserved c =
    let l = c.loop-k in
    let long : length l.depths ≡ length c.args.depths.now = omega (arith, l.auto.depths, length-set {A = ℕ}) in
    noted-next c.requires.0 l.depths long l.k l.auto.k c.loop-k-test.true l.invariant _ c.from-parent.ensures _ c.from-in-loop-k.ensures _ c.from-in-loop-k-2.ensures _ (omega arith)
