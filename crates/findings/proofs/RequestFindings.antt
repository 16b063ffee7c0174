-- The findings with a request, by the first of the states found that has one.
use mathlib.Core.Path.{◌≡◌, refl, sym, ap, ◌∙◌}
use mathlib.Core.Bool.{false, true≢false}
use mathlib.Core.List.{List}
use mathlib.Core.Option.{Option, none, some}
use Prim.Native.Nat.{ℕ, ◌<◌}
use native.Mathlib.Decide.{dec_lt}
use native.Mathlib.Omega.{arith}
use lib.ListN.{length, take}
use Rattle.automaton.specs.Below.{lowest_below}
use Rattle.automaton.specs.Explore.{Reached, first_that}
use Rattle.automaton.proofs.Below.{lowest_below_law}
use Rattle.definitions.specs.Answer.{written, history_bytes}
use Rattle.definitions.specs.Telling.{some_request}
use Rattle.definitions.specs.Verdict.{Found, found_history, lowest_request, is_none}
use Rattle.definitions.proofs.Written.{written_read}
use Rattle.search.specs.Trail.{history_at}
use Rattle.search.specs.Found.{reached_at, found_in, Holds, book_states}
use Rattle.search.proofs.FirstFound.{first-none, first_some}
use Rattle.search.proofs.BookSearch.{book-first}
use Rattle.findings.specs.SoughtRequests.{test_of, some_at, IsHit, sought_finding}
use Rattle.findings.specs.declared.requests.Sought.{Sought}

module _ (sought : Sought) (b : List ℕ) {n : ℕ} {order trail : List ℕ} (H : Holds (book_states b) n order trail) where
  -- an answer and a buffer that say what is found
  abbrev Says : Option Found → List ℕ → List ℕ → Type 0
  Says answer buffer after = (answer ≡ sought_finding sought b) × (after ≡ written (history_bytes (found_history (sought_finding sought b))) buffer)

  says : (o : Option Reached) → first_that (some_request (test_of sought) b) (found_in n order trail) ≡ o → sought_finding sought b ≡ lowest_request (test_of sought) b o
  unfolding sought_finding
  says o e = ap (lowest_request (test_of sought) b) (book-first b H (some_request (test_of sought) b) ∙ e)

  -- where there is no finding, no place has such a request
  pub none_found : sought_finding sought b ≡ none → (k : ℕ) → k < n → some_at sought b order k ≡ false
  none_found e k l = go (dec_lt (lowest_below n (some_at sought b order)) n)
    where
      go : Dec (lowest_below n (some_at sought b order) < n) → some_at sought b order k ≡ false
      go (yes h) =
          absurd (true≢false (ap is_none (sym e ∙ says (some (reached_at order trail (lowest_below n (some_at sought b order))))
          (first_some (some_request (test_of sought) b) order trail n (some_at sought b order) (λ k b. refl) (lowest_below n (some_at sought b order)) refl h))))
      go (no h) = (lowest_below_law (some_at sought b order) n).first k (omega arith)

  pub says_none : lowest_below n (some_at sought b order) ≡ n → (buffer : List ℕ) → Says none buffer buffer
  says_none e buffer =
      rw (says none (first-none (some_request (test_of sought) b) order trail n (some_at sought b order) (λ k b. refl) (omega (arith, e)))) (refl, refl)

  -- m codes are written
  pub says-found : (k r m : ℕ) (buffer after : List ℕ) → IsHit sought b order n k r → m ≡ length (history_at trail k)
      → after ≡ written (history_at trail k) buffer → Says (some (record { request = r; history = take m after })) buffer after
  says-found k r m buffer after hit em ea =
      rw (
        says (some (reached_at order trail k)) (first_some (some_request (test_of sought) b) order trail n (some_at sought b order) (λ k b. refl) k hit.first hit.within),
        written_read (history_at trail k) buffer m after em ea,
        hit.lowest,
      ) (refl, ea)
