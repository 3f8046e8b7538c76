use Rattle.std.proofs.Common.{◌≡◌, ◌+◌, length, drop}
use Rattle.space_rules.specs.Start.{closed_all}
use Rattle.space_rules.proofs.stack.room_after.Given as goal

-- the strings that are left take as much of what is left as all strings take of the room
abbrev pub invariant-loop-string : goal.invariant-loop-string
invariant-loop-string l = l.room + length (closed_all (drop l.string-index l.strings)) ≡ l.left + length (closed_all l.strings)
