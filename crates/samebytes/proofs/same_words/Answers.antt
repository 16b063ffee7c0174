-- `same_words` meets its contract: the words passed so far are equal.
use Rattle.bytewords.proofs.ByteWords.{words_read}
use Rattle.samebytes.proofs.SameBytes.{part_differs}
use Rattle.samebytes.proofs.same_words.Goals as goal

pub returns-then-word : goal.returns-then-word
returns-then-word c =
    let a = c.args in
    let k = c.loop-k.k in
    part_differs a.first.now a.second.now 8 k (λ same. c.if-word.true ((words_read a.first.now a.second.now k k c.word.ensures c.word-in-loop-k.ensures).1 same))
