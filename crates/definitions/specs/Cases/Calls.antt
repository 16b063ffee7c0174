-- What calls give and what their buffers hold afterwards, where nothing is refused and where something is; and walks of an opened book.
use Rattle.std.specs.Prelude.{true, false, List, [], ◌∷◌, ◌++◌, length, take}
use Rattle.std.proofs.Math.Option.{none, some}
use Rattle.definitions.specs.Answer.{given}
use Rattle.definitions.specs.Build.{book_of, build_answer, build_buffer}
use Rattle.definitions.specs.Verdict.{verdict_answer, verdict_buffers}
use Rattle.definitions.specs.Compare.{same_bytes, compare_answer, compare_buffer}
use Rattle.definitions.specs.Opened.{open_answer, tell_answer, step_state, walk_state, walk_history}
use Rattle.definitions.specs.Telling.{none as untold, accept, reject, both}
use Rattle.definitions.specs.Cases.Claim.{Claim, number, says, bytes, builds, finds, compares, tells}
use Rattle.definitions.specs.Cases.Samples.{policy_a, policy_b, policy_c, policy_e, policy_g, policy_h, book_a, no_findings, lent}

abbrev pub call_cases : List Claim
call_cases =
    builds (build_answer policy_a (lent 17284)) (given 27)
    ∷ bytes (take 30 (build_buffer policy_a (lent 17284))) (book_a ++ lent 3)
    ∷ number (length (build_buffer policy_a (lent 17284))) 17284
    ∷ bytes (build_buffer [] (lent 17284)) (lent 17284)
    ∷ builds (build_answer policy_a (lent 17285)) (given 27)
    ∷ finds (verdict_answer book_a (lent 128) (lent 128) (lent 128)) (given no_findings)
    ∷ bytes (verdict_buffers (book_of (policy_e 0)) (lent 128) (lent 129) (lent 130)).for_conflict (3 ∷ 3 ∷ lent 126)
    ∷ bytes (verdict_buffers (book_of (policy_e 0)) (lent 128) (lent 129) (lent 130)).for_missing (lent 129)
    ∷ bytes (verdict_buffers (book_of policy_g) (lent 128) (lent 129) (lent 130)).for_missing (0 ∷ lent 128)
    ∷ bytes (verdict_buffers (book_of policy_g) (lent 128) (lent 129) (lent 130)).for_blocked (0 ∷ lent 129)
    ∷ bytes (verdict_buffers (book_of policy_g) (lent 128) (lent 127) (lent 130)).for_blocked (lent 130)
    ∷ compares (compare_answer book_a book_a (lent 256)) (given none)
    ∷ bytes (compare_buffer book_a book_a (lent 256)) (lent 256)
    ∷ compares (compare_answer book_a (book_of policy_b) (lent 257)) (given (some (3 ∷ 3 ∷ [])))
    ∷ bytes (compare_buffer book_a (book_of policy_b) (lent 256)) (3 ∷ 3 ∷ lent 254)
    ∷ bytes (compare_buffer book_a (book_of policy_h) (lent 256)) (lent 256)
    -- "books or not"
    ∷ says (same_bytes (book_of policy_c) book_a) true
    ∷ says (same_bytes book_a (take 26 book_a)) false
    ∷ says (same_bytes (take 26 book_a) book_a) false
    ∷ says (same_bytes book_a (take 26 book_a ++ (3 ∷ []))) true
    ∷ says (same_bytes book_a (take 26 book_a ++ (2 ∷ []))) false
    ∷ says (same_bytes (take 24 book_a) (0 ∷ take 23 book_a)) false
    ∷ says (same_bytes [] []) true
    ∷ builds (open_answer book_a) (given 1)
    ∷ tells (tell_answer book_a 1 1) (given accept)
    ∷ tells (tell_answer book_a 3 1) (given reject)
    ∷ tells (tell_answer (book_of policy_g) 2 0) (given untold)
    ∷ tells (tell_answer (book_of (policy_e 0)) 3 0) (given both)
    -- the second step is refused and the third one too, and the state stays
    ∷ number (step_state book_a 1 2) 1
    ∷ number (walk_state book_a 1 (3 ∷ 2 ∷ 4 ∷ 3 ∷ 4 ∷ [])) 3
    ∷ bytes (walk_history book_a 1 (3 ∷ 2 ∷ 4 ∷ 3 ∷ 4 ∷ [])) (3 ∷ 3 ∷ 4 ∷ [])
    ∷ []
