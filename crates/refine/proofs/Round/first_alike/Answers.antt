-- `first_alike` meets its contract: the states passed so far are before the class.
use Rattle.std.proofs.Common.{sym, ◌∙◌, arith}
use Rattle.refine.proofs.Rounds.{some-begins, some-low, some-found, some-passed}
use Rattle.refine.proofs.Round.first_alike.Goals as goal

pub loop-t-init : goal.loop-t-init
loop-t-init c =
    let b = some-begins c.args.self.now.in_rounds c.args.s c.requires.s_in_bounds.0 c.requires.s_in_bounds.1 in
    omega (arith, b.1)

pub is_first_alike-requires : goal.is_first_alike-requires
is_first_alike-requires c =
    let now = c.args.self.now.in_rounds in
    let s = c.requires.s_in_bounds in
    let b = some-begins now c.args.s s.0 s.1 in
    (omega arith, omega arith, omega arith, omega arith)

pub returns-then-is_first_alike : goal.returns-then-is_first_alike
returns-then-is_first_alike c =
    let now = c.args.self.now.in_rounds in
    let s = c.requires.s_in_bounds in
    let b = some-begins now c.args.s s.0 s.1 in
    some-found now c.args.s s.0 s.1 c.args.next.now c.requires.next_value c.loop-t.t (omega arith) c.loop-t-test.true c.loop-t.invariant (sym c.is_first_alike.ensures ∙ c.if-is_first_alike.true)

pub loop-t-preserved : goal.loop-t-preserved
loop-t-preserved c =
    let now = c.args.self.now.in_rounds in
    let s = c.requires.s_in_bounds in
    let b = some-begins now c.args.s s.0 s.1 in
    some-passed now c.args.s s.0 s.1 c.args.next.now c.requires.next_value c.loop-t.t (omega arith) c.loop-t-test.true c.loop-t.invariant (sym c.is_first_alike.ensures ∙ c.if-is_first_alike.false)

pub returns : goal.returns
returns c =
    let low = some-low c.args.self.now.in_rounds c.args.s c.requires.s_in_bounds.0 c.requires.s_in_bounds.1 in
    omega arith
