-- `images::fill_images` meets its contract.
use Rattle.images.proofs.ImageRows.{images_are}
use Rattle.images.proofs.fill_images.Goals as goal

pub returns : goal.returns
returns c = images_are c.args.policy.now _ c.fill_rows.ensures
