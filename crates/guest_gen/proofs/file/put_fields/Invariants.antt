use Rattle.std.proofs.Common.{◌≡◌, ◌++◌, drop}
use Rattle.guest_gen.specs.Image.{fields_bytes}
use Rattle.guest_gen.proofs.file.put_fields.Given as goal

abbrev pub invariant-loop-field : goal.invariant-loop-field
invariant-loop-field l = l.file.items ++ fields_bytes (drop l.field-index l.fields) ≡ l.fn.file.items ++ fields_bytes l.fields
