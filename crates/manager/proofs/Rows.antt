-- Worked calls of the manager's part, by computation.
use Rattle.std.specs.Prelude.{◌≡◌, false, [], ◌∷◌, Some, None, Ok, refl}
use Rattle.rv64_step.specs.declared.cpu.Cpu.{Cpu}
use Rattle.kernel_objects.specs.declared.process.Brk.{Brk}
use Rattle.linux_model.specs.State.{unbooted}
use Rattle.linux_model.specs.Boot.{streams}
use Rattle.linux_model.specs.Effects.{Closes, Forks}
use Rattle.linux_model.specs.Managed.{Managed, managed_in, managed_after, managed_after_all}
use Rattle.manager.specs.Words.{start_effects, pipe_effects, fd_for_one, fds_for_two}

abbrev cpu : Cpu
cpu = record { pc = 0; x = [] }

abbrev brk : Brk
brk = record { base = 0; now = 0 }

abbrev booted : Managed
booted = managed_after_all (start_effects 1 cpu brk) (managed_in (unbooted []))

process_1_has_the_streams : booted.descs ≡ streams
process_1_has_the_streams = refl

the_next_descriptors_are_3_and_4 : (fd_for_one 1 booted ≡ Ok 3) × (fds_for_two 1 booted ≡ Ok (3, 4))
the_next_descriptors_are_3_and_4 = (refl, refl)

abbrev piped : Managed
piped = managed_after (Forks 1 2 cpu) (managed_after_all (pipe_effects 1 (3, 4) false booted) booted)

a_pipe_goes_with_its_last_end : (piped.pipes ≡ Some [] ∷ [])
    × ((managed_after_all (Closes 1 3 ∷ Closes 1 4 ∷ Closes 2 3 ∷ []) piped).pipes ≡ Some [] ∷ [])
    × ((managed_after_all (Closes 1 3 ∷ Closes 1 4 ∷ Closes 2 3 ∷ Closes 2 4 ∷ []) piped).pipes ≡ None ∷ [])
a_pipe_goes_with_its_last_end = (refl, refl, refl)
