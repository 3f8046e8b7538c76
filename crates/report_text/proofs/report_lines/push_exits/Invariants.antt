use Rattle.std.proofs.Common.{◌≡◌, ◌++◌, drop, string_bytes}
use Rattle.std.specs.Prelude.{flat_map}
use Rattle.report_text.specs.Report.{exit_line}
use Rattle.report_text.proofs.report_lines.push_exits.Given as goal

-- the lines so far with those that are left make all lines
abbrev pub invariant-loop-exit : goal.invariant-loop-exit
invariant-loop-exit l = string_bytes l.text ++ flat_map exit_line (drop l.exit-index l.exits) ≡ string_bytes l.fn.text ++ flat_map exit_line l.exits
