-- `build_in` meets its contract: what exploring leaves is the table of the policy's situations, and its book is written.
use Rattle.images.specs.Images.{ImagesOf}
use Rattle.build.specs.Room.{RoomFor}
use Rattle.build.proofs.PolicySizes.{has-passed, width_low, start-low, start-some, valuations-low, book-fits, header_read}
use Rattle.build.proofs.RawTable.{SituationRows, situations_fit, situations-over, situation-rows}
use Rattle.build.proofs.BuildAnswers.{refused-by-11, refused-by-none, build_refused, build_given}
use Rattle.explore.specs.SetImages.{images_machine}
use Rattle.definitions.specs.Situation.{empty_set, insert, start_situation}
use Rattle.explore.specs.Reaches.{RowsFit, Reaches}
use Rattle.definitions.specs.Policy.{width}
use Rattle.policy.specs.declared.shape.Shape.{Shape}
use Rattle.policy.specs.Shape.{shape_of}
use Rattle.definitions.specs.Valuation.{valuations}
use Rattle.definitions.specs.Refusal.{situations}
use lib.ListN.{length, replicate}
use mathlib.Core.List.{List}
use Prim.Native.Nat.{ℕ, min, ◌*◌, ◌<◌, ◌≤◌}
use native.Mathlib.Omega.{arith}
use mathlib.Core.Path.{◌≡◌, refl, sym, ap, subst, ◌∙◌}
use Rattle.build.proofs.build_in.Goals.{After-explore}
use Rattle.build.proofs.build_in.Goals as goal

-- ---- the room, by the policy's numbers
room : (p : List ℕ) (s : Shape) (images raw : ℕ) → s ≡ shape_of p → RoomFor p s images raw → RoomFor p (shape_of p) images raw
room p s images raw e h = rw e at h

-- ---- the machine that is explored, by the policy's numbers
reaches-by : (p images found raw : List ℕ) (s : Shape) (set n : ℕ) (found' raw' : List ℕ) → s ≡ shape_of p → set ≡ start_situation p
    → Reaches (images_machine images s.valuations s.width set) found raw n found' raw'
    → Reaches (images_machine images (valuations p) (width p) (start_situation p)) found raw n found' raw'
reaches-by p images found raw s set n found' raw' is begins h = rw (is, begins) at h

fits_by : (p images : List ℕ) (s : Shape) (set room : ℕ) → s ≡ shape_of p → set ≡ start_situation p → ImagesOf p images
    → min 127 (length (situations p)) * s.width ≤ room → RowsFit (images_machine images s.valuations s.width set) room
fits_by p images s set room is begins are h = rw (is, begins) (situations_fit p images are room (rw is at h))

-- ---- after exploring
abbrev policy : After-explore → List ℕ
policy c = c.args.policy.bytes.now

-- the images are the policy's, and its situations are reached
abbrev images : After-explore → List ℕ
images c = c.fill_images.new.images

images-of : (c : After-explore) → ImagesOf (policy c) (images c)
images-of c = c.fill_images.ensures

start_is : (c : After-explore) → c.start-start.result.set ≡ start_situation (policy c)
start_is c = c.start-start.ensures ∙ ap (λ (s : Shape). insert s.start empty_set) c.args.policy.shape_is

-- what exploring leaves where n situations are found, and where n is 0
abbrev Explored : After-explore → ℕ → Type 0
Explored c n =
    Reaches (images_machine (images c) c.args.policy.shape.valuations c.args.policy.shape.width c.start-start.result.set) (replicate 128 0) c.args.raw.now n
    c.explore.new.found c.explore.new.raw

reaches : (c : After-explore) (n : ℕ) → Explored c n
    → Reaches (images_machine (images c) (valuations (policy c)) (width (policy c)) (start_situation (policy c))) (replicate 128 0) c.args.raw.now n
    c.explore.new.found c.explore.new.raw
reaches c n = reaches-by (policy c) (images c) (replicate 128 0) c.args.raw.now c.args.policy.shape _ n _ _ c.args.policy.shape_is (start_is c)

raw-fits : (c : After-explore)
    → RowsFit (images_machine (images c) (valuations (policy c)) (width (policy c)) (start_situation (policy c))) (length c.args.raw.now)
raw-fits c =
    situations_fit (policy c) (images c) (images-of c) (length c.args.raw.now)
    (room (policy c) c.args.policy.shape (length c.args.images.now) (length c.args.raw.now) c.args.policy.shape_is c.requires.room).1

wide : (c : After-explore) → c.args.policy.shape.width ≡ width (policy c)
wide c = ap (λ (s : Shape). s.width) c.args.policy.shape_is

over : (c : After-explore) → Explored c 0 → 127 < length (situations (policy c))
over c none = situations-over (policy c) (images c) (images-of c) (raw-fits c) (reaches c 0 none) refl

rows : (c : After-explore) (n : ℕ) → (0 < n) × Explored c n → SituationRows (policy c) c.explore.new.raw n
rows c n found = situation-rows (policy c) (images c) (images-of c) (raw-fits c) (reaches c n found.1) (λ e. omega (arith, found.0, e))

pub fill_images-requires : goal.fill_images-requires
fill_images-requires c =
    let policy = c.args.policy in
    let fits = room policy.bytes.now policy.shape (length c.args.images.now) (length c.args.raw.now) policy.shape_is c.requires.room in
    (has-passed policy.bytes.now policy.passed, policy.shape_is, fits.0)

pub start-start-requires : goal.start-start-requires
start-start-requires c =
    let policy = c.args.policy in
    omega (arith, start-low policy.bytes.now policy.passed, ap (λ (s : Shape). s.start) policy.shape_is)

pub explore-requires : goal.explore-requires
explore-requires c =
    let policy = c.args.policy.bytes.now in
    let is = c.args.policy.shape_is in
    let file = c.args.policy.passed in
    let few = ap (λ (s : Shape). s.valuations) is in
    let wide = ap (λ (s : Shape). s.width) is in
    let begins = c.start-start.ensures ∙ ap (λ (s : Shape). insert s.start empty_set) is in record {
      table = (omega (arith, valuations-low policy file, few), omega (arith, width_low policy file, wide), omega (arith, c.fill_images.auto.images, c.requires.room.0));
      state = subst (λ (set : ℕ). 0 < set) (sym begins) (start-some policy file);
      room = (omega arith, fits_by policy c.fill_images.new.images c.args.policy.shape _ (length c.args.raw.now) is begins c.fill_images.ensures c.requires.room.1);
    }

pub returns-in_default : goal.returns-in_default
returns-in_default c =
    let a = c.args in
    let p = a.policy.bytes.now in
    let all = build_refused p a.book.now 11 (λ e. omega arith)
    (refused-by-11 p a.book.now c.requires.holds_any_book a.policy.passed (over (goal.at.returns-in_default c).After-explore c.in_default.ensures)) in
    record { answer = all.0; book = all.1 }

pub write_book-requires : goal.write_book-requires
write_book-requires c =
    let policy = c.args.policy in
    let t = rows (goal.at.write_book-requires c).After-explore c.in-Some.n c.in-Some.ensures in
    let low = book-fits policy.bytes.now policy.passed c.in-Some.n t.few in
    rw policy.shape_is record {
      table_in = (t.is_table, t.few, t.ordered, omega (arith, c.requires.holds_any_book));
      in_bounds = header_read policy.bytes.now policy.passed;
    }

pub returns : goal.returns
returns c =
    let a = c.args in
    let p = a.policy.bytes.now in
    let t = rows (goal.at.returns c).After-explore c.in-Some.n c.in-Some.ensures in
    let b = c.write_book.ensures in
    let all = build_given p a.book.now c.explore.new.raw c.in-Some.n (wide (goal.at.returns c).After-explore)
    (refused-by-none p a.book.now c.requires.holds_any_book a.policy.passed t.count) t.rows b.value b.book_after in
    record { answer = all.0; book = all.1 }
