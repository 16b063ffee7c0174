-- The text of a book by the form that is asked for, and the room that every such text has enough of.
use Rattle.std.specs.Prelude.{List, ℕ}
use Rattle.definitions.specs.Shelf.{book_text}
use Rattle.booktext.specs.Hex.{hex_line}
use Rattle.booktext.specs.declared.Form.{Form}
use Rattle.booktext.specs.declared.Form.TheVariants.{Findings, Bytes}

abbrev pub text_of : Form → List ℕ → List ℕ
text_of Findings b = book_text b
text_of Bytes b = hex_line b

abbrev pub room_of : Form → ℕ
room_of Findings = 2048
room_of Bytes = 34569
