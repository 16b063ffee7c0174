use Prim.Native.Nat.{◌+◌, ◌*◌, ◌≤◌}
use Rattle.text.specs.Put.{Put}
use Rattle.play.specs.StateLines.{tellings_text}
use Rattle.play.proofs.lines.put_tellings.Given as goal

abbrev pub invariant-loop-request : goal.invariant-loop-request
invariant-loop-request l =
    record {
      put : Put l.initial.out l.at (tellings_text l.book l.state l.request) l.out l.next;
      short : l.next ≤ l.at + 7 * l.request;
    }
