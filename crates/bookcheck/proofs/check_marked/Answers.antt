-- `check_marked` meets its contract: rows 13 and 14 are judged in order.
use Rattle.std.proofs.Common.{◌≡◌, List, ℕ, true, sym}
use Rattle.definitions.specs.Refusal.{is_marked, layout_holds, entries_hold, book_checks, book_refusal}
use Rattle.definitions.proofs.CheckLists.{PassedBefore, row_refuses, rows_from_law}
use Rattle.definitions.proofs.Tests.{held, failed}
use Rattle.definitions.proofs.Accepted.{book-passed}
use Rattle.bookcheck.proofs.check_marked.Goals as goal

-- ---- the rows that have passed where the code goes on
past12 : (b : List ℕ) → is_marked b ≡ true → PassedBefore 13 book_checks b
past12 b marked = record { passed = (tt, marked) }

past13 : (b : List ℕ) → is_marked b ≡ true → layout_holds b ≡ true → PassedBefore 14 book_checks b
past13 b marked laid = record { passed = ((tt, marked), laid) }

all_pass : (b : List ℕ) → is_marked b ≡ true → layout_holds b ≡ true → entries_hold b ≡ true → 0 ≡ book_refusal b
unfolding book_refusal
all_pass b marked laid entries = let past : PassedBefore 0 book_checks b = record { passed = (((tt, marked), laid), entries) } in sym (rows_from_law past)

pub returns-in_default-clause-refusal : goal.returns-in_default-clause-refusal
unfolding book_refusal
returns-in_default-clause-refusal c = row_refuses (past12 c.args.bytes.now c.requires) c.in_default.ensures

pub returns-then-not-entries_hold-clause-refusal : goal.returns-then-not-entries_hold-clause-refusal
unfolding book_refusal
returns-then-not-entries_hold-clause-refusal c =
    let b = c.args.bytes.now in
    let fails = failed _ _ c.entries_hold.ensures c.if-not-entries_hold.true in
    row_refuses (past13 b c.requires c.in-Some.ensures.0) (rw c.in-Some.ensures.1 at fails)

pub invariant_of-result : goal.invariant_of-result
invariant_of-result c =
    let b = c.args.bytes.now in
    let marked = c.requires in
    let entries = held _ _ c.entries_hold.ensures c.if-not-entries_hold.false in
    let layout = c.in-Some.layout in
    record {
      passed = (book-passed b).0 (sym (all_pass b marked c.in-Some.ensures.0 (rw c.in-Some.ensures.1 at entries)));
      requests_are = rw c.in-Some.ensures.1 at layout.requests_are;
      width_is = rw c.in-Some.ensures.1 at layout.width_is;
    }

pub returns-clause-refusal : goal.returns-clause-refusal
returns-clause-refusal c =
    let marked = c.requires in
    let entries = held _ _ c.entries_hold.ensures c.if-not-entries_hold.false in
    all_pass _ marked c.in-Some.ensures.0 (rw c.in-Some.ensures.1 at entries)
