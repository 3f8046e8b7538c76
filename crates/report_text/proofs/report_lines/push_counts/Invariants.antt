use Rattle.std.proofs.Common.{◌≡◌, ◌++◌, drop, string_bytes}
use Rattle.report_text.specs.Report.{cpu_lines}
use Rattle.report_text.proofs.report_lines.push_counts.Given as goal

-- the lines so far with those that are left make all lines
abbrev pub invariant-loop-number : goal.invariant-loop-number
invariant-loop-number l = string_bytes l.text ++ cpu_lines l.number (drop l.number l.counts) ≡ string_bytes l.fn.text ++ cpu_lines 0 l.counts
