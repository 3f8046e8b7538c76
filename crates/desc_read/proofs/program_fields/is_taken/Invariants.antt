use Rattle.std.proofs.Common.{◌≡◌, drop}
use Rattle.desc_read.specs.Plans.{has_path}
use Rattle.desc_read.proofs.program_fields.is_taken.Given as goal

abbrev pub invariant-loop-file : goal.invariant-loop-file
invariant-loop-file l = has_path l.files l.path ≡ has_path (drop l.file-index l.files) l.path
