-- `divide` meets its contract: the states passed so far have their new classes, and the word has those that moved.
use Rattle.std.proofs.Common.{◌≡◌, ℕ, refl, sym, ap, ◌∙◌, length, length-set, arith}
use Rattle.automaton.specs.Below.{fold_below}
use Rattle.automaton.proofs.Loops.{fold_more}
use Rattle.definitions.specs.Situation.{empty_set}
use Rattle.definitions.proofs.RowsWritten.{fill_turn, fill_done}
use Rattle.refine.specs.NextClasses.{next_classes}
use Rattle.refine.specs.StateWords.{with_moved}
use Rattle.refine.proofs.Rounds.{some-few, some-length, some-low, some-unmoved}
use Rattle.refine.proofs.Round.divide.Goals as goal

pub loop-s-init : goal.loop-s-init
loop-s-init c =
    let now = c.args.self.now in
    let long = some-length now.in_rounds in
    let a_class = now.class_of_each in
    (fill_turn (next_classes now) c.args.next.now 0 0 refl (omega (arith, c.requires)) (omega arith) refl, sym (some-unmoved now.in_rounds))

pub overflow_cast-next : goal.overflow_cast-next
overflow_cast-next c =
    let now = c.args.self.now in
    omega (arith, some-low now.in_rounds c.loop-s.s c.loop-s.auto.s c.loop-s-test.true, c.next_class-class.ensures, some-few now.in_rounds)

pub with_moved-word-requires : goal.with_moved-word-requires
with_moved-word-requires c = omega (arith, some-few c.args.self.now.in_rounds)

pub loop-s-preserved : goal.loop-s-preserved
loop-s-preserved c =
    let now = c.args.self.now in
    let l = c.loop-s in
    let class = c.next_class-class in
    let long = some-length now.in_rounds in
    let room = simp length-set at l.auto.next in (
      fill_turn (next_classes now) l.next l.s class.result l.invariant.0 (omega (arith, c.requires)) (omega arith) class.ensures,
      rw (fold_more (with_moved now.classes.now (next_classes now)) empty_set l.s, ← l.invariant.1, ← class.ensures, ← c.from.ensures) c.with_moved-word.ensures,
    )

pub returns-clause-value : goal.returns-clause-value
returns-clause-value c =
    let now = c.args.self.now in
    let e : c.loop-s.s ≡ length now.classes.now = omega (arith, now.class_of_each) in
    c.loop-s.invariant.1 ∙ ap (λ (k : ℕ). fold_below k empty_set (with_moved now.classes.now (next_classes now))) e

pub returns-clause-next_after : goal.returns-clause-next_after
returns-clause-next_after c =
    let now = c.args.self.now in
    let room = simp length-set at c.loop-s.auto.next in
    fill_done (next_classes now) c.loop-s.next c.loop-s.s c.loop-s.invariant.0 (omega (arith, c.requires)) (room ∙ c.requires ∙ sym (some-length now.in_rounds))
