-- `find` meets its contract: the first place with a request that is sought, its lowest such request and its history.
use Rattle.search.proofs.BookSearch.{book-inside}
use Rattle.search.proofs.Found.{holds_of}
use Rattle.findings.proofs.RequestFindings.{says_none, says-found}
use Rattle.findings.proofs.finding.find.Goals as goal

pub first_with-requires : goal.first_with-requires
first_with-requires c =
    book-inside _ (holds_of c.args.search.now c.requires.found) c.args.book.passed

pub returns-in_err-hit : goal.returns-in_err-hit
returns-in_err-hit c =
    let all = says_none c.args.sought _ (holds_of c.args.search.now c.requires.found) c.in_err-hit.ensures c.args.buffer.now in
    record { answer = rw c.from_residual.ensures all.0; buffer_after = all.1 }

pub returns : goal.returns
returns c =
    let e = c.write_history-length.ensures in
    let all = says-found c.args.sought _ (holds_of c.args.search.now c.requires.found) _ _ _ c.args.buffer.now _ c.in_ok-hit.ensures e.value e.buffer_after in
    record { answer = all.0; buffer_after = all.1 }
