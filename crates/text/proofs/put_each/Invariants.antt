use Rattle.text.proofs.Each.{EachPut}
use Rattle.text.proofs.put_each.Given as goal

abbrev pub invariant-loop-byte : goal.invariant-loop-byte
invariant-loop-byte g l = EachPut g.texts l.initial.out l.bytes l.at l.byte-index l.next l.out
