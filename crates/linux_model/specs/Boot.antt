-- Booting, which is turn 0: the description's files in their order, then process 1 with its descriptors.
use Rattle.std.specs.Prelude.{ℕ, ◌+◌, false, List, [], ◌∷◌, ◌++◌, Option, Some, None, replicate}
use Rattle.lego_base.specs.declared.report.FileOut.{FileOut}
use Rattle.elf_image.specs.Image.{Program}
use Rattle.kernel_objects.specs.declared.descriptor.Description.{Description}
use Rattle.kernel_objects.specs.declared.descriptor.FdEntry.{FdEntry}
use Rattle.kernel_objects.specs.declared.descriptor.Object.{Object}
use Rattle.kernel_objects.specs.declared.descriptor.Object.TheVariants.{Input, Output}
use Rattle.kernel_objects.specs.declared.descriptor.Stream.TheVariants.{Out, Err}
use Rattle.linux_model.specs.Limits.{O_WRONLY}
use Rattle.linux_model.specs.State.{Kernel, Process, unbooted}
use Rattle.linux_model.specs.Processes.{first_process}
use Rattle.linux_model.specs.Effects.{Effect, Begins, MakesFile, WritesFile, Opens, Starts, applies}
use Rattle.linux_model.specs.Loading.{start_of, loads_program, break_of}

-- files with their names, the first of them under a number
abbrev pub file_effects : ℕ → List FileOut → List Effect
file_effects number [] = []
file_effects number (f ∷ files) = MakesFile f.name ∷ WritesFile number 0 f.bytes ∷ file_effects (number + 1) files

-- stdin(3): descriptor 0 is open on standard input, 1 on standard output and 2 on standard error
abbrev pub standard_streams : List Effect
standard_streams = Opens 1 0 Input 0 false ∷ Opens 1 1 (Output Out) O_WRONLY false ∷ Opens 1 2 (Output Err) O_WRONLY false ∷ []

-- the effects of booting with these files
abbrev pub boot_effects : Program → List (List ℕ) → List (List ℕ) → List FileOut → List Effect
boot_effects program args env files =
    Begins 0 0
    ∷ file_effects 0 files
    ++ loads_program 1 program args env
    ++ Starts 1 (start_of program args env) (break_of program)
    ∷ standard_streams

-- the kernel that is booted, with this on standard input
abbrev pub boot_of : Program → List (List ℕ) → List (List ℕ) → List FileOut → List ℕ → Kernel
boot_of program args env files input = applies (boot_effects program args env files) (unbooted input)

-- ---- what booting comes to

abbrev pub stream_on : Object → ℕ → Option Description
stream_on object flags = Some (record { object = object; offset = 0; flags = flags })

-- the descriptions of the three standard streams
abbrev pub streams : List (Option Description)
streams = stream_on Input 0 ∷ stream_on (Output Out) O_WRONLY ∷ stream_on (Output Err) O_WRONLY ∷ []

abbrev pub entry_of : ℕ → Option FdEntry
entry_of desc = Some (record { desc = desc; cloexec = false })

abbrev pub booted_process : Program → List (List ℕ) → List (List ℕ) → Process
booted_process program args env =
    record (first_process 1 (start_of program args env) (break_of program)) { fds = entry_of 0 ∷ entry_of 1 ∷ entry_of 2 ∷ replicate 61 None }
