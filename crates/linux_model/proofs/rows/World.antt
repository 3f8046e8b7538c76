-- A small world for worked examples: process 1 with two pages to read and write, of which the first has some paths, and with
-- the three standard streams.
use Rattle.std.specs.Prelude.{ℕ, ◌+◌, false, List, [], ◌∷◌, ◌++◌, Option, Some, None, replicate}
use Rattle.lego_base.specs.declared.records.Area.{Area}
use Rattle.rv64_step.specs.declared.cpu.Cpu.{Cpu}
use Rattle.kernel_objects.specs.declared.descriptor.FdEntry.{FdEntry}
use Rattle.kernel_objects.specs.declared.descriptor.Object.TheVariants.{Input, Regular}
use Rattle.kernel_objects.specs.declared.process.Brk.{Brk}
use Rattle.linux_model.specs.State.{Kernel, Process, unbooted}
use Rattle.linux_model.specs.Processes.{process, first_process}
use Rattle.linux_model.specs.Effects.{Effect, Reads, Maps, Fills, Starts, MakesFile, WritesFile, Opens, CopyIn, applies}
use Rattle.linux_model.specs.Called.{Called}
use Rattle.linux_model.specs.Boot.{standard_streams}

abbrev pub area : ℕ → ℕ → ℕ → Area
area first pages perms = record { first = record { 0 = first }; pages = pages; perms = record { 0 = perms } }

abbrev pub zero_cpu : Cpu
zero_cpu = record { pc = 0x10000; x = replicate 32 0 }

-- registers with the number of a call and its first arguments
abbrev pub calls : ℕ → ℕ → ℕ → ℕ → ℕ → Cpu
calls number a b c d = record { pc = 0x10000; x = replicate 10 0 ++ a ∷ b ∷ c ∷ d ∷ 0 ∷ 0 ∷ 0 ∷ number ∷ replicate 14 0 }

-- the break is at the third page, 0x22000
abbrev pub brk_there : Brk
brk_there = record { base = 0x22000; now = 0x22000 }

-- paths at 0x20000 (f), 0x20010 (/), 0x20020 (f/), 0x20030 (g), 0x20040 (g/), 0x20050 (empty), and one without an end
-- before the pages end, at 0x21fff
abbrev pub paths : List Effect
paths =
    Fills 1 0x20000 (102 ∷ []) ∷ Fills 1 0x20010 (47 ∷ []) ∷ Fills 1 0x20020 (102 ∷ 47 ∷ []) ∷ Fills 1 0x20030 (103 ∷ [])
    ∷ Fills 1 0x20040 (103 ∷ 47 ∷ []) ∷ Fills 1 0x21fff (102 ∷ []) ∷ []

-- with three bytes of input and, under the name f, a file of five
abbrev pub world : Kernel
world = applies
    (Maps 1 (area 0x20 2 3 ∷ [])
    ∷ paths
    ++ Starts 1 zero_cpu brk_there
    ∷ standard_streams
    ++ MakesFile (102 ∷ []) ∷ WritesFile 0 0 (1 ∷ 2 ∷ 3 ∷ 4 ∷ 5 ∷ []) ∷ [])
    (unbooted (7 ∷ 8 ∷ 9 ∷ []))

abbrev pub or_none : Option Process → Process
or_none None = first_process 0 zero_cpu brk_there
or_none (Some p) = p

-- the first process of a kernel
abbrev pub one : Kernel → Process
one k = or_none (process k.procs 1)

-- what a row gives for process 1
abbrev pub tried : Kernel → (Process → Kernel → Called) → Called
tried k row = row (one k) k

-- the world with these descriptors for process 1
abbrev pub with_fds : List (Option FdEntry) → Kernel → Kernel
with_fds fds k = record k { procs = record (one k) { fds = fds } ∷ [] }

abbrev pub entry_of : ℕ → Option FdEntry
entry_of desc = Some (record { desc = desc; cloexec = false })

-- the world where n descriptors are open on standard input and the others are free
abbrev pub with_open : ℕ → ℕ → Kernel
with_open n free = with_fds (replicate n (entry_of 0) ++ replicate free None) world

-- the world with n descriptions
abbrev pub with_descriptions : ℕ → Kernel
with_descriptions n = record world { descs = replicate n (Some (record { object = Input; offset = 0; flags = 0 })) }

-- the world where descriptor 3 has the file f, with flags of open(2)
abbrev pub with_file : ℕ → Kernel
with_file flags = applies (Opens 1 3 (Regular (record { 0 = 0 })) flags false ∷ []) world

-- bytes that are read one by one
abbrev pub spelt : ℕ → List ℕ → List Effect
spelt address [] = []
spelt address (byte ∷ bytes) = Reads CopyIn 1 address (byte ∷ []) ∷ spelt (address + 1) bytes
