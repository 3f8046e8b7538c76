-- What holds of the manager's tables between its calls.
use Rattle.std.specs.Prelude.{◌≡◌, ℕ, ◌+◌, ◌≤◌, ◌<◌, true, List, length, is_some, slice_index}
use Rattle.lego_base.specs.declared.report.Exit.{Exit}
use Rattle.kernel_objects.specs.Slots.{slot}
use Rattle.linux_model.specs.Fits.{PidsRise, ProcsFit}
use Rattle.linux_model.specs.Limits.{PROCESSES}
use Rattle.linux_model.specs.Managed.{Managed}
use Rattle.proc_table.specs.Entries.{Table}
use Rattle.manager.specs.Counting.{references, readers, writers}
use Rattle.manager.specs.Tables.{DescTable, PipeTable}

-- Pids rise, what descriptors and descriptions refer to is there, zombies have nothing open, and the counts are right.
pub record Counted (t : Table) (d : DescTable) (p : PipeTable) : Type 0 where
  pub pids : PidsRise 0 t.last t.procs
  pub few : length t.procs ≤ PROCESSES
  pub procs : ProcsFit d.descs t.procs
  pub refs : (n : ℕ) → slice_index d.refs n ≡ references n t.procs
  pub reading : (n : ℕ) → slice_index p.readers n ≡ readers n d.descs
  pub writing : (n : ℕ) → slice_index p.writers n ≡ writers n d.descs
  pub there : (n : ℕ) → 0 < readers n d.descs + writers n d.descs → is_some (slot p.pipes n) ≡ true

-- each pipe that is there has an end
abbrev pub Ended : DescTable → PipeTable → Type 0
Ended d p = (n : ℕ) → is_some (slot p.pipes n) ≡ true → 0 < readers n d.descs + writers n d.descs

pub record Sound (t : Table) (d : DescTable) (p : PipeTable) : Type 0 where
  pub counted : Counted t d p
  pub ended : Ended d p

-- the manager's part of the kernel that these tables are
abbrev pub managed_of : Table → DescTable → PipeTable → List ℕ → List Exit → Managed
managed_of t d p input exits = record { procs = t.procs; last = t.last; descs = d.descs; pipes = p.pipes; input = input; exits = exits }
