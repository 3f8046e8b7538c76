-- Worked turns, by computation: a turn may fork, a break may move, a file may get a name, and a call comes with the registers
-- of its turn's instructions.
use Rattle.std.specs.Prelude.{◌≡◌, ℕ, List, [], ◌∷◌, map, Option, Some, None, refl}
use Rattle.area_list.specs.Runs.{put_runs}
use Rattle.elf_image.specs.Image.{Program}
use Rattle.rv64_decode.specs.Table.{decoded, row_of, table}
use Rattle.rv64_step.specs.Meaning.{reg}
use Rattle.linux_model.specs.State.{Kernel, Process}
use Rattle.linux_model.specs.Boot.{boot_of}
use Rattle.linux_model.specs.Turns.{Schedule, flat, whose, ready}
use Rattle.linux_model.specs.Named.{named_files}
use Rattle.kernel_laws.specs.Laws.{ran_before}

abbrev schedule : Schedule
schedule = record { turns = 0 ∷ []; quantum = 1000; max_turns = 3 }

-- a program of this code alone, whose break is at the page after it
abbrev program : List ℕ → Program
program code = record { entry = 0x10000; segments = record { vaddr = 0x10000; memsz = 64; perms = record { 0 = 5 }; bytes = code } ∷ []; brk = 0x11000 }

abbrev after : List ℕ → ℕ → Kernel
after code n = flat schedule (boot_of (program code) [] [] [] []) n

-- clone(17, 0)
abbrev forks : List ℕ
forks = 0x13 ∷ 0x05 ∷ 0x10 ∷ 0x01 ∷ 0x93 ∷ 0x05 ∷ 0x00 ∷ 0x00 ∷ 0x93 ∷ 0x08 ∷ 0xc0 ∷ 0x0d ∷ 0x73 ∷ 0x00 ∷ 0x00 ∷ 0x00 ∷ []

-- brk(0x12000)
abbrev moves : List ℕ
moves = 0x37 ∷ 0x25 ∷ 0x01 ∷ 0x00 ∷ 0x93 ∷ 0x08 ∷ 0x60 ∷ 0x0d ∷ 0x73 ∷ 0x00 ∷ 0x00 ∷ 0x00 ∷ []

first_pid : (after forks 0).last ≡ 1
unfolding decoded row_of table flat put_runs
first_pid = refl

a_turn_forks : (after forks 1).last ≡ 2
unfolding decoded row_of table flat put_runs
a_turn_forks = refl

a_break_moves : map (λ p. p.brk.now) (after moves 1).procs ≡ 0x12000 ∷ []
unfolding decoded row_of table flat put_runs
a_break_moves = refl

-- openat(AT_FDCWD, "ab", O_CREAT | O_WRONLY), with the path after the code
abbrev creates : List ℕ
creates = 0x13 ∷ 0x05 ∷ 0xc0 ∷ 0xf9 ∷ 0xb7 ∷ 0x05 ∷ 0x01 ∷ 0x00 ∷ 0x93 ∷ 0x85 ∷ 0x85 ∷ 0x01 ∷ 0x13 ∷ 0x06 ∷ 0x10 ∷ 0x04 ∷ 0x93 ∷ 0x08 ∷ 0x80 ∷ 0x03 ∷ 0x73 ∷ 0x00 ∷ 0x00 ∷ 0x00 ∷ 97 ∷ 98 ∷ []

a_file_gets_a_name : map (λ f. f.name) (named_files (after creates 1)) ≡ (97 ∷ 98 ∷ []) ∷ []
unfolding decoded row_of table flat put_runs
a_file_gets_a_name = refl

-- the number of the call that the turn of a process comes to
abbrev number : Kernel → Option Process → ℕ
number k None = 0
number k (Some p) = reg (ran_before schedule p p.waiting k).cpu 17

clone_comes_first : number (after forks 0) (whose schedule 1 (after forks 0).procs (ready (after forks 0))) ≡ 220
unfolding decoded row_of table flat put_runs
clone_comes_first = refl
