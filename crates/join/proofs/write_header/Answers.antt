-- `write_header` meets its contract: the mark is copied, the frame after it, and the number of states is stored.
use Rattle.join.proofs.BookRows.{header-done}
use Rattle.join.proofs.write_header.Goals as goal

pub returns : goal.returns
returns c =
    let a = c.args in
    header-done a.frame.now c.requires.1 a.book.now c.copy_from_slice.new.self c.copy_from_slice-2.new.self a.n
    c.requires.0 c.copy_from_slice.ensures.after c.copy_from_slice-2.ensures.after
