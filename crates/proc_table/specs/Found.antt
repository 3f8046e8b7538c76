-- What a search for a dead child has found so far, and what follows.
use Rattle.std.specs.Prelude.{ℕ, ℤ, List, map}
use Rattle.proc_table.specs.declared.entry.Entry.{Entry}
use Rattle.proc_table.specs.declared.table.Reaped.{Reaped}
use Rattle.proc_table.specs.declared.table.Reaped.TheVariants.{Child, NoChild, NotYet}
use Rattle.proc_table.specs.Entries.{child_for, process_of}

abbrev pub children : ℕ → ℤ → List Entry → Reaped
children parent want entries = child_for parent want (record { procs = map process_of entries; last = 0 })

-- what was found, and what is found later: the first dead child decides
abbrev pub later : Reaped → Reaped → Reaped
later found NoChild = found
later found (Child pid status) = Child pid status
later found NotYet = NotYet
