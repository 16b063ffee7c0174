-- `requests_in_header` meets its contract: one part that fails fails the header, and the last comes after all others hold.
use Rattle.std.proofs.Common.{◌≡◌, rules}
use mathlib.Core.Bool.{and-false, false}
use borrow.Author.Tests.{tests}
use Rattle.definitions.specs.Bytes.{byte, within}
use Rattle.bookcheck.proofs.requests_in_header.Goals as goal

pub returns-then-not-contains : goal.returns-then-not-contains
returns-then-not-contains c = let h : within 1 (byte c.args.bytes.now 6) 4 ≡ false = search (rules, tests) in simp (h, and-false)
