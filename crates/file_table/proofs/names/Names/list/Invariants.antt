use Rattle.std.proofs.Common.{◌≡◌, ◌++◌, map}
use Rattle.file_table.specs.Entries.{name_of}
use Rattle.file_table.proofs.names.Names.list.Given as goal

abbrev pub invariant-loop-name : goal.invariant-loop-name
invariant-loop-name l = l.list.items ++ map name_of l.name-iterator ≡ l.self
