-- What a small machine holds: in page 0 of process 1 the bytes `hi`, and a file without a name, until it goes.
use Rattle.std.specs.Prelude.{ℕ, ◌==◌, if◌then◌else◌, Bool, true, false, List, [], ◌∷◌, replicate}
use Rattle.lego_base.specs.Files.{File}
use Rattle.lego_base.specs.Space.{Space, no_space, with_space}
use Rattle.kernel_objects.specs.declared.descriptor.Object.TheVariants.{Regular}
use Rattle.linux_model.specs.State.{unbooted}
use Rattle.linux_model.specs.Effects.{Opens}
use Rattle.linux_model.specs.Held.{Held}
use Rattle.linux_model.specs.Managed.{Managed, managed_in, managed_after, managed_after_all}
use Rattle.manager.specs.Words.{start_effects}

abbrev pub letter : ℕ → ℕ
letter address = if address == 0 then 104 else (if address == 1 then 105 else 0)

abbrev pub page : Space
page = record { areas = record { first = record { 0 = 0 }; pages = 1; perms = record { 0 = 3 } } ∷ []; byte = letter }

abbrev pub files_of : Bool → List File
files_of false = record { file = 0; bytes = [] } ∷ []
files_of true = []

abbrev pub shelf : Bool → Held
shelf is_gone = record { space = with_space (λ pid. no_space) 1 page; files = files_of is_gone; names = []; next = 1 }

-- process 1 with the standard streams, and descriptor 3 open on file 0
abbrev pub booted : Managed
booted = managed_after_all (start_effects 1 (record { pc = 0; x = replicate 32 0 }) (record { base = 4096; now = 4096 })) (managed_in (unbooted []))

abbrev pub opened_with : ℕ → Managed
opened_with flags = managed_after (Opens 1 3 (Regular (record { 0 = 0 })) flags false) booted
