use Rattle.std.proofs.Common.{◌≡◌, map, take}
use Rattle.report_text.proofs.archive_bytes.by_name.Given as goal

-- the files so far, in the order given
abbrev pub invariant-loop-file : goal.invariant-loop-file
invariant-loop-file l = map (λ file. file.now) l.sorted.items ≡ take l.file-index l.files
