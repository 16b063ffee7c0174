-- `compare_in` meets its contract: books of one frame have one width.
use Rattle.std.proofs.Common.{◌≡◌, rules}
use Rattle.definitions.specs.Book.{width}
use Rattle.definitions.proofs.Comparisons.{same_width_law}
use Rattle.compare.proofs.compare_in.Goals as goal

pub first_difference-requires : goal.first_difference-requires
first_difference-requires g c =
    let b = c.args.first.bytes.now in
    let d = c.args.second.bytes.now in
    let same : width b ≡ width d = same_width_law b d c.requires.one_frame.0 c.args.second.passed.layout.header.fields_most in
    search rules
