-- What a change makes of one process, which is changed where it has the pid.
use Rattle.std.specs.Prelude.{ℕ, ◌==◌, Option, None, if◌then◌else◌}
use Rattle.kernel_objects.specs.declared.descriptor.FdEntry.{FdEntry}
use Rattle.kernel_objects.specs.declared.process.Brk.{Brk}
use Rattle.kernel_objects.specs.declared.process.Waiting.{Waiting}
use Rattle.linux_model.specs.Effects.{at_fd}
use Rattle.rv64_step.specs.declared.cpu.Cpu.{Cpu}
use Rattle.linux_model.specs.State.{Process, Zombie}
use Rattle.linux_model.specs.Processes.{orphaned}

-- it is a zombie where it is the dead one, and has the heir as its parent where the dead one was
abbrev pub after_one : ℕ → ℕ → ℕ → Process → Process
after_one dead status heir p = orphaned dead heir (if p.pid == dead then record p { state = Zombie status; waiting = None } else p)

-- its registers, its break, its waiting call and a descriptor
abbrev pub after_cpu : ℕ → Cpu → Process → Process
after_cpu pid cpu p = if p.pid == pid then record p { cpu = cpu } else p

abbrev pub after_brk : ℕ → Brk → Process → Process
after_brk pid brk p = if p.pid == pid then record p { brk = brk } else p

abbrev pub after_waiting : ℕ → Option Waiting → Process → Process
after_waiting pid waiting p = if p.pid == pid then record p { waiting = waiting } else p

abbrev pub after_fd : ℕ → ℕ → Option FdEntry → Process → Process
after_fd pid fd entry p = if p.pid == pid then at_fd fd entry p else p
