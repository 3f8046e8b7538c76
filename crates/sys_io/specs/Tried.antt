-- What a small machine holds: the bytes `hi` at address 0 of process 1, and a file of four bytes; and what becomes of that by one
-- effect.
use Rattle.std.specs.Prelude.{ℕ, ◌==◌, if◌then◌else◌, Bool, true, false, [], ◌∷◌, replicate}
use Rattle.lego_base.specs.Space.{Space, no_space, with_space}
use Rattle.kernel_objects.specs.declared.descriptor.Object.TheVariants.{Regular}
use Rattle.linux_model.specs.State.{unbooted}
use Rattle.linux_model.specs.Effects.{CopyOut, Opens, Writes, WritesFile}
use Rattle.linux_model.specs.Held.{Held, held_after}
use Rattle.linux_model.specs.Managed.{Managed, managed_in, managed_after, managed_after_all}
use Rattle.manager.specs.Words.{start_effects}

abbrev pub letter : ℕ → ℕ
letter address = if address == 0 then 104 else (if address == 1 then 105 else 0)

abbrev pub page : Space
page = record { areas = record { first = record { 0 = 0 }; pages = 1; perms = record { 0 = 3 } } ∷ []; byte = letter }

abbrev pub tape : Held
tape = record { space = with_space (λ pid. no_space) 1 page; files = record { file = 0; bytes = 104 ∷ 105 ∷ 33 ∷ 63 ∷ [] } ∷ []; names = []; next = 1 }

-- once two bytes were copied to address 8; once two bytes were added to the file
abbrev pub tape_after : Bool → Bool → Held
tape_after false false = tape
tape_after true is_longer = held_after (Writes CopyOut 1 8 (104 ∷ 105 ∷ [])) tape
tape_after false true = held_after (WritesFile 0 4 (104 ∷ 105 ∷ [])) tape

-- process 1 with the standard streams, and descriptor 3 open on file 0
abbrev pub booted : Managed
booted = managed_after_all (start_effects 1 (record { pc = 0; x = replicate 32 0 }) (record { base = 4096; now = 4096 })) (managed_in (unbooted []))

abbrev pub opened_with : ℕ → Managed
opened_with flags = managed_after (Opens 1 3 (Regular (record { 0 = 0 })) flags false) booted
