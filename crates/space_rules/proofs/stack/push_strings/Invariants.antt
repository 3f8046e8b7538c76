use Rattle.std.proofs.Common.{◌≡◌, ◌++◌, drop}
use Rattle.space_rules.specs.Start.{closed_all}
use Rattle.space_rules.proofs.stack.push_strings.Given as goal

-- the bytes so far with those of the strings that are left make all bytes
abbrev pub invariant-loop-string : goal.invariant-loop-string
invariant-loop-string l = l.bytes.items ++ closed_all (drop l.string-index l.strings) ≡ l.fn.bytes.items ++ closed_all l.strings
