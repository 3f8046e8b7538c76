use Rattle.std.proofs.Common.{◌≡◌, ◌+◌, length, drop}
use Rattle.space_rules.specs.Start.{closed_all}
use Rattle.space_rules.proofs.stack.closed_size.Given as goal

-- the size so far with that of the strings that are left makes the size of all
abbrev pub invariant-loop-string : goal.invariant-loop-string
invariant-loop-string l = l.size + length (closed_all (drop l.string-index l.strings)) ≡ length (closed_all l.strings)
