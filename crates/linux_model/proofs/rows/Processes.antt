-- Worked rows of the calls on processes, of death, and of who is ready and chosen, by computation.
use Rattle.std.specs.Prelude.{◌≡◌, ℕ, ◌-◌, ◌^◌, true, false, List, [], ◌∷◌, ◌++◌, map, Option, Some, None, replicate, refl}
use Rattle.kernel_objects.specs.declared.descriptor.Object.TheVariants.{Regular, PipeRead, PipeWrite}
use Rattle.rv64_step.specs.declared.cpu.Cpu.{Cpu}
use Rattle.elf_image.specs.Image.{first_fault}
use Rattle.linux_model.specs.Limits.{ENOENT, E2BIG, ENOEXEC, ECHILD, EAGAIN, EACCES, EFAULT, EINVAL, ANY}
use Rattle.linux_model.specs.State.{Kernel, Process, State, Live, Zombie}
use Rattle.linux_model.specs.Effects.{Effect, Reads, Writes, Refused, AsksSpan, LooksUp, AsksSize, ReadsFile, FreesFile, Opens, Closes, MakesPipe, PutsPipe, Copies, Drops, Forks, Dies, Reaps, Returns, Keeps, Goes, Fills, CopyIn, CopyOut, applies, apply}
use Rattle.linux_model.specs.Called.{Gives, Waits, Death, says}
use Rattle.linux_model.specs.Descriptors.{closings}
use Rattle.linux_model.specs.ProcessCalls.{dying, exit_row, clone_row, execve_row, wait4_row, strings_at}
use Rattle.linux_model.specs.Calls.{call_effects}
use Rattle.linux_model.specs.Turns.{Schedule, ready, chosen}
use Rattle.linux_model.proofs.rows.World.{world, one, tried, calls, with_file, spelt, zero_cpu}

-- who is there: pid, parent, and the status of a zombie
pub record Seen : Type 0 where
  pub pid : ℕ
  pub parent : ℕ
  pub status : Option ℕ

abbrev status_of : State → Option ℕ
status_of Live = None
status_of (Zombie status) = Some status

abbrev seen : List Process → List Seen
seen procs = map (λ p. record { pid = p.pid; parent = p.parent; status = status_of p.state }) procs

abbrev there : ℕ → ℕ → Seen
there pid parent = record { pid = pid; parent = parent; status = None }

abbrev dead : ℕ → ℕ → ℕ → Seen
dead pid parent status = record { pid = pid; parent = parent; status = Some status }

-- ---- clone and death

fork_copies_then_starts_the_child : tried world (λ p k. clone_row p k 17 0) ≡ Gives (Copies 1 2 ∷ Forks 1 2 (record { pc = 0x10004; x = replicate 32 0 }) ∷ []) 2
fork_copies_then_starts_the_child = refl

only_fork_is_there : (tried world (λ p k. clone_row p k 0x11100 0) ≡ says EINVAL) × (tried world (λ p k. clone_row p k 17 0x20000) ≡ says EINVAL)
only_fork_is_there = (refl, refl)

sixty_four_processes_and_no_more : tried (record world { procs = replicate 64 (one world) }) (λ p k. clone_row p k 17 0) ≡ says EAGAIN
sixty_four_processes_and_no_more = refl

a_code_keeps_its_low_byte : exit_row (2 ^ 64 - 1) ≡ Death [] 65280
a_code_keeps_its_low_byte = refl

-- 1 has the child 2, which has the child 3; each child is a copy
abbrev family : Kernel
family = applies (Forks 1 2 zero_cpu ∷ Forks 2 3 zero_cpu ∷ []) world

process_1_inherits : seen (apply (Dies 2 256) family).procs ≡ there 1 0 ∷ dead 2 1 256 ∷ there 3 1 ∷ []
process_1_inherits = refl

-- the zombie 2 has no parent any more, so it goes as 1 does
nobody_inherits_from_process_1 : seen (apply (Dies 1 0) (apply (Dies 2 256) family)).procs ≡ there 3 0 ∷ []
nobody_inherits_from_process_1 = refl

an_orphan_leaves_no_zombie : seen (apply (Dies 3 9) (apply (Dies 1 0) (apply (Dies 2 256) family))).procs ≡ []
an_orphan_leaves_no_zombie = refl

each_exit_is_recorded : (apply (Dies 1 0) (apply (Dies 2 256) family)).exits ≡ record { pid = record { 0 = 2 }; status = 256 } ∷ record { pid = record { 0 = 1 }; status = 0 } ∷ []
each_exit_is_recorded = refl

death_closes_then_records_then_drops : dying 1 11 (with_file 0) ≡ Closes 1 0 ∷ Closes 1 1 ∷ Closes 1 2 ∷ Closes 1 3 ∷ FreesFile 0 ∷ Dies 1 11 ∷ Drops 1 ∷ []
death_closes_then_records_then_drops = refl

-- ---- execve

-- a list of one address, of the string f, at 0x20300
abbrev listed : Kernel
listed = applies (Fills 1 0x20300 (0 ∷ 0 ∷ 2 ∷ []) ∷ []) world

abbrev one_string : List Effect
one_string = Reads CopyIn 1 0x20300 (0 ∷ 0 ∷ 2 ∷ 0 ∷ 0 ∷ 0 ∷ 0 ∷ 0 ∷ []) ∷ spelt 0x20000 (102 ∷ 0 ∷ []) ++ Reads CopyIn 1 0x20308 (replicate 8 0) ∷ []

lists_come_before_the_root_and_what_is_absent : (tried listed (λ p k. execve_row p k 0x20010 0x20300 0) ≡ Gives (spelt 0x20010 (47 ∷ 0 ∷ []) ++ one_string) EACCES) × ((tried listed (λ p k. execve_row p k 0x20030 0 0x20300) ≡ Gives (spelt 0x20030 (103 ∷ 0 ∷ []) ++ LooksUp (103 ∷ []) ∷ one_string) ENOENT) × (tried listed (λ p k. execve_row p k 0x20030 0x30000 0) ≡ Gives (spelt 0x20030 (103 ∷ 0 ∷ []) ++ LooksUp (103 ∷ []) ∷ Refused CopyIn 1 0x30000 8 ∷ []) EFAULT))
lists_come_before_the_root_and_what_is_absent = (refl, (refl, refl))

what_is_no_image_isn_t_run : tried world (λ p k. execve_row p k 0x20000 0 0) ≡ Gives (spelt 0x20000 (102 ∷ 0 ∷ []) ++ LooksUp (102 ∷ []) ∷ AsksSize 0 ∷ ReadsFile 0 0 5 ∷ []) ENOEXEC
unfolding first_fault
what_is_no_image_isn_t_run = refl

-- where no address may come any more, the next one is read and is one too many
an_address_too_many_is_read : (strings_at 1 (listed.space 1) 0 0x20300 65536).reads ≡ Reads CopyIn 1 0x20300 (0 ∷ 0 ∷ 2 ∷ 0 ∷ 0 ∷ 0 ∷ 0 ∷ 0 ∷ []) ∷ []
an_address_too_many_is_read = refl

an_address_too_many : ((strings_at 1 (listed.space 1) 0 0x20300 65536).fault ≡ Some E2BIG) × ((strings_at 1 (listed.space 1) 0 0x20308 65536).fault ≡ None)
an_address_too_many = (refl, refl)

-- where one more byte may come, the closing 0 is one too many, and isn't read
a_byte_too_many_isn_t_read : (strings_at 1 (listed.space 1) 512 0x20300 1).reads ≡ Reads CopyIn 1 0x20300 (0 ∷ 0 ∷ 2 ∷ 0 ∷ 0 ∷ 0 ∷ 0 ∷ 0 ∷ []) ∷ spelt 0x20000 (102 ∷ [])
a_byte_too_many_isn_t_read = refl

a_closing_zero_counts : ((strings_at 1 (listed.space 1) 512 0x20300 1).fault ≡ Some E2BIG) × ((strings_at 1 (listed.space 1) 512 0x20300 2).room ≡ 0)
a_closing_zero_counts = (refl, refl)

-- descriptor 3 is kept, 4 is closed
abbrev flagged : Kernel
flagged = applies (Opens 1 4 (Regular (record { 0 = 0 })) 0 true ∷ []) (with_file 0)

execve_closes_what_is_flagged : closings (λ e. e.cloexec) 1 0 (one flagged).fds flagged ≡ Closes 1 4 ∷ []
execve_closes_what_is_flagged = refl

-- ---- wait4

-- 1 has the children 2, 3 and 4, of which 3 and 4 are dead
abbrev bereaved : Kernel
bereaved = applies (Forks 1 2 zero_cpu ∷ Forks 1 3 zero_cpu ∷ Forks 1 4 zero_cpu ∷ Dies 4 512 ∷ Dies 3 768 ∷ []) world

the_least_pid_is_reaped : tried bereaved (λ p k. wait4_row p k ANY 0x20100 0 0) ≡ Gives (AsksSpan 1 0x20100 4 ∷ Reaps 3 ∷ Writes CopyOut 1 0x20100 (0 ∷ 3 ∷ 0 ∷ 0 ∷ []) ∷ []) 3
the_least_pid_is_reaped = refl

one_pid_is_waited_for : (tried bereaved (λ p k. wait4_row p k 4 0 0 0) ≡ Gives (Reaps 4 ∷ []) 4) × ((tried bereaved (λ p k. wait4_row p k 2 0 0 0) ≡ Waits [] 0 0) × (tried bereaved (λ p k. wait4_row p k 2 0 1 0) ≡ says 0))
one_pid_is_waited_for = (refl, (refl, refl))

wait4_checks_arguments_then_children_then_the_address : (tried world (λ p k. wait4_row p k 0 0 0 0) ≡ says EINVAL) × ((tried world (λ p k. wait4_row p k (2 ^ 64 - 2) 0 0 0) ≡ says EINVAL) × ((tried world (λ p k. wait4_row p k ANY 0 2 0) ≡ says EINVAL) × ((tried world (λ p k. wait4_row p k ANY 0 0 1) ≡ says EINVAL) × ((tried world (λ p k. wait4_row p k ANY 0x30000 0 0) ≡ says ECHILD) × (tried bereaved (λ p k. wait4_row p k 2 0x30000 1 0) ≡ Gives (AsksSpan 1 0x30000 4 ∷ []) EFAULT)))))
wait4_checks_arguments_then_children_then_the_address = (refl, (refl, (refl, (refl, (refl, refl)))))

a_reaped_zombie_is_gone : seen (apply (Reaps 3) bereaved).procs ≡ there 1 0 ∷ there 2 1 ∷ dead 4 1 512 ∷ []
a_reaped_zombie_is_gone = refl

-- ---- who has the turn

abbrev schedule : Schedule
schedule = record { turns = 5 ∷ 1 ∷ []; quantum = 10; max_turns = 10 }

zombies_have_no_turn : ready bereaved ≡ 1 ∷ 2 ∷ []
zombies_have_no_turn = refl

the_number_counts_among_the_ready : (chosen schedule 1 (1 ∷ 2 ∷ []) ≡ 2) × ((chosen schedule 2 (1 ∷ 2 ∷ []) ≡ 2) × (chosen schedule 3 (1 ∷ 2 ∷ 7 ∷ []) ≡ 7))
the_number_counts_among_the_ready = (refl, (refl, refl))

-- process 1 waits in a call with these registers
abbrev waits : Cpu → ℕ → Kernel → Kernel
waits cpu len k = applies (Goes 1 cpu ∷ Keeps 1 0 len ∷ []) k

abbrev piped : Kernel
piped = applies (MakesPipe ∷ Opens 1 3 (PipeRead 0) 0 false ∷ Opens 1 4 (PipeWrite 0) 1 false ∷ []) world

a_read_waits_for_a_byte_or_the_end : (ready (waits (calls 63 3 0x20100 8 0) 0 piped) ≡ []) × ((ready (apply (PutsPipe 0 (1 ∷ [])) (waits (calls 63 3 0x20100 8 0) 0 piped)) ≡ 1 ∷ []) × (ready (apply (Closes 1 4) (waits (calls 63 3 0x20100 8 0) 0 piped)) ≡ 1 ∷ []))
a_read_waits_for_a_byte_or_the_end = (refl, (refl, refl))

a_short_write_waits_for_room_for_all : (ready (waits (calls 64 4 0x20000 2 0) 2 (apply (PutsPipe 0 (replicate 65535 1)) piped)) ≡ []) × (ready (waits (calls 64 4 0x20000 2 0) 2 (apply (PutsPipe 0 (replicate 65534 1)) piped)) ≡ 1 ∷ [])
a_short_write_waits_for_room_for_all = (refl, refl)

a_long_write_waits_for_room_for_one : (ready (waits (calls 64 4 0x20000 5000 0) 5000 (apply (PutsPipe 0 (replicate 65535 1)) piped)) ≡ 1 ∷ []) × (ready (waits (calls 64 4 0x20000 5000 0) 5000 (apply (PutsPipe 0 (replicate 65536 1)) piped)) ≡ [])
a_long_write_waits_for_room_for_one = (refl, refl)

a_write_goes_on_without_readers : ready (apply (Closes 1 3) (waits (calls 64 4 0x20000 5000 0) 5000 (apply (PutsPipe 0 (replicate 65536 1)) piped))) ≡ 1 ∷ []
a_write_goes_on_without_readers = refl

wait4_waits_for_a_death : (ready (waits (calls 260 2 0 0 0) 0 bereaved) ≡ 2 ∷ []) × (ready (waits (calls 260 ANY 0 0 0) 0 bereaved) ≡ 1 ∷ 2 ∷ [])
wait4_waits_for_a_death = (refl, refl)

-- ---- a kept call

-- a call that waits keeps its registers, and one that is over goes on after it
a_kept_call_stays_at_its_instruction : call_effects (Some (one (waits (calls 63 3 0x20100 8 0) 0 piped))) (waits (calls 63 3 0x20100 8 0) 0 piped) ≡ Keeps 1 0 0 ∷ []
a_kept_call_stays_at_its_instruction = refl

a_call_that_is_over_is_kept_no_more : (one (apply (Returns 1 zero_cpu) (waits (calls 63 3 0x20100 8 0) 0 piped))).waiting ≡ None
a_call_that_is_over_is_kept_no_more = refl
