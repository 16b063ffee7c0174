-- `all_possible` meets its contract: the entries passed so far are states.
use Rattle.std.proofs.Common.{◌+◌, arith}
use borrow.Author.Tests.{le-leb, lt-leb}
use Rattle.definitions.specs.Bytes.{byte}
use Rattle.automaton.proofs.Loops.{all_more, all-fails}
use Rattle.bookcheck.specs.Entries.{is_possible}
use Rattle.bookcheck.proofs.Entries.{entry_in_part}
use Rattle.bookcheck.proofs.all_possible.Goals as goal

pub returns-then-x-eq0 : goal.returns-then-x-eq0
returns-then-x-eq0 c =
    let a = c.args in
    let i = c.loop-x.x-index in
    all-fails (is_possible a.bytes.now a.at) a.e i (omega arith) (lt-leb 1 (byte a.bytes.now (a.at + i)) (omega (arith, entry_in_part a.bytes.now a.at a.e i)))

pub loop-x-preserved : goal.loop-x-preserved
loop-x-preserved c =
    let a = c.args in
    let i = c.loop-x.x-index in
    all_more (is_possible a.bytes.now a.at) i c.loop-x.invariant (le-leb 1 (byte a.bytes.now (a.at + i)) (omega (arith, entry_in_part a.bytes.now a.at a.e i)))
