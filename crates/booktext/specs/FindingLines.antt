-- The lines of a book's findings.
use Rattle.std.specs.Prelude.{List, ◌++◌, ℕ}
use Rattle.definitions.specs.Verdict.{Findings}
use Rattle.definitions.specs.Shelf.{line, found_text, blocked_text, conflict_word, missing_word, blocked_word}

abbrev pub finding_lines : Findings → List ℕ
finding_lines found =
    line conflict_word (found_text found.conflict) ++ line missing_word (found_text found.missing) ++ line blocked_word (blocked_text found.blocked)
