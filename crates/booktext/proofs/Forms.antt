-- Every form has room for a line with a number.
use Prim.Native.Nat.{◌≤◌}
use native.Mathlib.Omega.{arith}
use Rattle.booktext.specs.Forms.{room_of}
use Rattle.booktext.specs.declared.Form.{Form}
use Rattle.booktext.specs.declared.Form.TheVariants.{Findings, Bytes}

pub enough : (form : Form) → 2048 ≤ room_of form
enough Findings = omega arith
enough Bytes = omega arith
