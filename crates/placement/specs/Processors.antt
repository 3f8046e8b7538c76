-- Where processes run. Processors are numbered from 0, processes from 1.
use Rattle.std.specs.Prelude.{◌-◌, ◌%◌, ℕ}

-- the processor of a process, with this many processors
abbrev pub processor_with : ℕ → ℕ → ℕ
processor_with processors pid = (pid - 1) % processors
