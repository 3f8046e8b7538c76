-- What a run rests on: the kernel that is booted, and that its turns may come.
use Rattle.std.specs.Prelude.{◌≡◌, ◌<◌, ◌≤◌, ℕ, List, length}
use Rattle.lego_base.specs.declared.report.FileOut.{FileOut}
use Rattle.lego_base.specs.declared.sizes.TheConstants.{USER_END}
use Rattle.elf_image.specs.Image.{Program}
use Rattle.linux_model.specs.Boot.{boot_of}
use Rattle.linux_model.specs.Loading.{break_of}
use Rattle.linux_model.specs.State.{Kernel, nothing}
use Rattle.linux_model.specs.Turns.{Schedule}
use Rattle.plain_kernel.specs.declared.kernel.PlainKernel.{PlainKernel}
use Rattle.plain_kernel.specs.Runs.{NamesStay, TurnsMayCome}
use Rattle.plain_kernel.specs.Standing.{kernel_in}
use Rattle.plain_kernel.specs.Written.{IsEmpty}

-- It stands for the kernel that is booted with a program, its arguments and its environment, with these files and this input;
-- nothing is to be written, and the program's break is in user space.
pub record IsBooted (kernel : PlainKernel) (program : Program) (args env : List (List ℕ)) (files : List FileOut) (input : List ℕ) : Type 0 where
  pub stands : kernel_in kernel nothing ≡ boot_of program args env files input
  pub empty : IsEmpty kernel.machine.output
  pub low : (break_of program).now ≤ USER_END

-- the flat run on a kernel has turns, not too many, and each of them may come
pub record CanRun (schedule : Schedule) (boot : Kernel) : Type 0 where
  pub some : 0 < length schedule.turns
  pub few : schedule.max_turns ≤ 10000000
  pub may : TurnsMayCome schedule boot
  pub names : NamesStay schedule boot
