-- `answers` meets its contract: some request is answered where there is a lowest one.
use mathlib.Core.Path.{sym, ◌∙◌}
use Rattle.definitions.specs.Book.{requests}
use Rattle.definitions.specs.Telling.{answered}
use Rattle.findings.proofs.LowestBelow.{any-lowest}
use Rattle.findings.proofs.marks.answers.Goals as goal

pub returns : goal.returns
returns c =
    let b = c.args.book.bytes.now in
    c.is_some.ensures ∙ sym (any-lowest (answered b c.args.state) (requests b) c.lowest.result c.lowest.ensures)
