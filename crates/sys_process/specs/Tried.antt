-- A process that was started, and what a small machine holds for it: a page, and an empty file without a name.
use Rattle.std.specs.Prelude.{ℕ, Bool, true, false, [], ◌∷◌, replicate}
use Rattle.lego_base.specs.Space.{Space, no_space, with_space}
use Rattle.linux_model.specs.State.{unbooted}
use Rattle.linux_model.specs.Held.{Held}
use Rattle.linux_model.specs.Managed.{Managed, managed_in, managed_after_all}
use Rattle.manager.specs.Words.{start_effects}

abbrev pub page : Space
page = record { areas = record { first = record { 0 = 0 }; pages = 1; perms = record { 0 = 3 } } ∷ []; byte = λ address. 0 }

-- the space of process 1; with that of a child, once there is one; or without it, once it is gone
abbrev pub spaces_of : Bool → Bool → ℕ → Space
spaces_of false false = with_space (λ pid. no_space) 1 page
spaces_of true false = with_space (with_space (λ pid. no_space) 1 page) 2 page
spaces_of has_child true = with_space (with_space (λ pid. no_space) 1 page) 1 no_space

abbrev pub family : Bool → Bool → Held
family has_child is_gone = record { space = spaces_of has_child is_gone; files = record { file = 0; bytes = [] } ∷ []; names = []; next = 1 }

abbrev pub booted : Managed
booted = managed_after_all (start_effects 1 (record { pc = 0; x = replicate 32 0 }) (record { base = 4096; now = 4096 })) (managed_in (unbooted []))
