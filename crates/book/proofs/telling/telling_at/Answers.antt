-- `telling_at` meets its contract: the two entries of the request are its two steps.
use Rattle.std.proofs.Common.{◌≡◌, ℕ, List, ◌+◌, ◌-◌, ◌*◌, ◌∙◌, ap, sym, arith}
use Rattle.std.proofs.lemmas.List.{get_or-drop}
use Rattle.definitions.specs.Bytes.{byte}
use Rattle.definitions.specs.Book.{width, entry}
use Rattle.book.proofs.Tellings.{telling-by}
use Rattle.book.proofs.telling.telling_at.Goals as goal

-- an entry, read where it stands
entry_read : (b : List ℕ) (w s c at : ℕ) → w ≡ width b → at ≡ 12 + (s - 1) * w + c → byte b at ≡ entry b s c
entry_read b w s c at same is =
    ap (byte b) is ∙ ap (λ (v : ℕ). byte b (12 + (s - 1) * v + c)) same ∙ sym (get_or-drop (12 + (s - 1) * width b) b c 0)

pub returns : goal.returns
returns c =
    let a = c.args in
    let w = c.requires.book_layout.1 in
    let code = c.events.result + 2 * a.request in
    c.told_by.ensures
    ∙ telling-by a.book.now a.state a.request _ _ _ c.requires.le_state.0 c.requires.le_state.2 c.events.ensures
    (entry_read a.book.now a.width a.state code _ w (omega arith)) (entry_read a.book.now a.width a.state (code + 1) _ w (omega arith))
