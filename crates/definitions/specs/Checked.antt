-- What the checks of a book say in plain facts; `book-passed` of proofs/Accepted.antt proves that they are those that rows 12 to 14 let pass.
use Rattle.std.specs.Prelude.{◌≡◌, List, ℕ, ◌+◌, ◌*◌, ◌≤◌, ◌<◌, length}
use Rattle.definitions.specs.Bytes.{byte}
use Rattle.definitions.specs.Book as B

-- the numbers of a book's header are in their ranges
pub record BookHeader (b : List ℕ) : Type 0 where
  pub events_most : B.events b ≤ 8
  pub fields_some : 1 ≤ B.fields b
  pub fields_most : B.fields b ≤ 4
  pub count_some : (f : ℕ) → f < B.fields b → 1 ≤ B.count b f
  pub count_most : (f : ℕ) → f < B.fields b → B.count b f ≤ 16
  pub count_absent : (f : ℕ) → B.fields b ≤ f → f < 4 → B.count b f ≡ 0
  pub requests_some : 1 ≤ B.requests b
  pub requests_most : B.requests b ≤ 64
  pub width_most : B.width b ≤ 136
  pub states_some : 1 ≤ B.states b
  pub states_most : B.states b ≤ 127

-- a book that row 13 does not refuse: the header, and the length that it asks for
pub record BookLayout (b : List ℕ) : Type 0 where
  pub header : BookHeader b
  pub exact : length b ≡ 12 + B.states b * B.width b

-- a book that rows 12 to 14 do not refuse
pub record BookPassed (b : List ℕ) : Type 0 where
  pub long : 12 ≤ length b
  pub mark : (byte b 0 ≡ 0x42) × (byte b 1 ≡ 0x4F) × (byte b 2 ≡ 0x4B)
  pub version : (byte b 3 ≡ 0) × (byte b 4 ≡ 1)
  pub layout : BookLayout b
  pub entry_most : (s c : ℕ) → 1 ≤ s → s ≤ B.states b → c < B.width b → B.entry b s c ≤ B.states b
  pub event_entry_some : (s c : ℕ) → 1 ≤ s → s ≤ B.states b → c < B.events b → 1 ≤ B.entry b s c
