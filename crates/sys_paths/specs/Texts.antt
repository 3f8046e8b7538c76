-- What the code tells of a text that was read.
use Rattle.std.specs.Prelude.{ℕ, if◌then◌else◌, List, Option, Some, None}
use Rattle.lego_base.specs.Space.{Space, permits}
use Rattle.linux_model.specs.Paths.{Text, TextEnd, AtZero, Denied, Long}
use Rattle.sys_paths.specs.declared.text.Text.{Text as Told}
use Rattle.sys_paths.specs.declared.text.Text.TheVariants.{Whole, Denied as NotReadable, Long as TooLong}

abbrev pub told_by : TextEnd → List ℕ → Told
told_by AtZero bytes = Whole bytes
told_by Denied bytes = NotReadable
told_by Long bytes = TooLong

abbrev pub told : Text → Told
told text = told_by text.end text.bytes

-- the byte at an address, where it may be read
abbrev pub byte_at : Space → ℕ → Option ℕ
byte_at space at = if permits space 1 at 1 then Some (space.byte at) else None
