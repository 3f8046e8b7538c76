use Rattle.std.proofs.Common.{◌≡◌, ◌++◌, map, drop}
use Rattle.std.specs.Prelude.{flat_map}
use Rattle.report_text.specs.Archive.{file_record}
use Rattle.report_text.proofs.archive_bytes.push_files.Given as goal

-- the bytes so far with those of the files that are left make all bytes
abbrev pub invariant-loop-file : goal.invariant-loop-file
invariant-loop-file l = l.bytes.items ++ flat_map file_record (map (λ file. file.now) (drop l.file-index l.files)) ≡ l.fn.bytes.items ++ flat_map file_record (map (λ file. file.now) l.files)
