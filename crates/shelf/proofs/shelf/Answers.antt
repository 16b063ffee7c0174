-- `shelf` meets its contract: the text for a policy, of the first 1,024 bytes.
use mathlib.Core.Path.{◌≡◌, refl}
use mathlib.Core.List.{List}
use Prim.Native.Nat.{ℕ}
use lib.ListN.{take}
use Rattle.definitions.specs.Shelf.{book_text, policy_text, shelf_text}
use Rattle.policytext.specs.PolicyText.{refusal_or}
use Rattle.shelf.proofs.shelf.Goals as goal

shelf-is : (input : List ℕ) → refusal_or book_text (take 1024 input) ≡ shelf_text input
unfolding refusal_or policy_text shelf_text
shelf-is input = refl

pub returns-clause-value : goal.returns-clause-value
returns-clause-value c = rw (← shelf-is c.args.input.now) (rw c.first.ensures.result_value at c.policy_text.ensures.value)

pub returns-clause-out_after : goal.returns-clause-out_after
returns-clause-out_after c = rw (← shelf-is c.args.input.now) (rw c.first.ensures.result_value at c.policy_text.ensures.out_after)
