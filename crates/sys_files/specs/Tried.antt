-- What a small machine holds: the path `f` at address 0 of process 1, and a file of three bytes without a name; and what becomes
-- of that by one effect.
use Rattle.std.specs.Prelude.{ℕ, ◌==◌, if◌then◌else◌, Bool, true, false, [], ◌∷◌, replicate}
use Rattle.lego_base.specs.Space.{Space, no_space, with_space}
use Rattle.kernel_objects.specs.declared.descriptor.Object.TheVariants.{Regular}
use Rattle.linux_model.specs.State.{unbooted}
use Rattle.linux_model.specs.Effects.{CopyOut, CutsFile, FreesFile, MakesFile, Opens, Writes}
use Rattle.linux_model.specs.Held.{Held, held_after}
use Rattle.linux_model.specs.Managed.{Managed, managed_in, managed_after, managed_after_all}
use Rattle.manager.specs.Words.{start_effects}

abbrev pub letter : ℕ → ℕ
letter address = if address == 0 then 102 else 0

abbrev pub page : Space
page = record { areas = record { first = record { 0 = 0 }; pages = 1; perms = record { 0 = 3 } } ∷ []; byte = letter }

abbrev pub cabinet : Held
cabinet = record { space = with_space (λ pid. no_space) 1 page; files = record { file = 0; bytes = 1 ∷ 2 ∷ 3 ∷ [] } ∷ []; names = []; next = 1 }

-- once the file grew, or went; once a file was made; once the numbers 3 and 4 were written
abbrev pub cabinet_after : Bool → Bool → Bool → Bool → Held
cabinet_after false false false false = cabinet
cabinet_after true is_gone has_new is_told = held_after (CutsFile 0 5) cabinet
cabinet_after false true has_new is_told = held_after (FreesFile 0) cabinet
cabinet_after false false true is_told = held_after (MakesFile (102 ∷ [])) cabinet
cabinet_after false false false true = held_after (Writes CopyOut 1 8 (3 ∷ 0 ∷ 0 ∷ 0 ∷ 4 ∷ 0 ∷ 0 ∷ 0 ∷ [])) cabinet

-- process 1 with the standard streams, and descriptor 3 open on file 0
abbrev pub booted : Managed
booted = managed_after_all (start_effects 1 (record { pc = 0; x = replicate 32 0 }) (record { base = 4096; now = 4096 })) (managed_in (unbooted []))

abbrev pub opened_with : ℕ → Managed
opened_with flags = managed_after (Opens 1 3 (Regular (record { 0 = 0 })) flags false) booted
