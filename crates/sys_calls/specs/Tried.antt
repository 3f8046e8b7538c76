-- A process that was started with a number of a call, and what a small machine holds for it: a page, and an empty file without a
-- name.
use Rattle.std.specs.Prelude.{ℕ, [], ◌∷◌, replicate, slice_set}
use Rattle.lego_base.specs.Space.{Space, no_space, with_space}
use Rattle.linux_model.specs.State.{unbooted}
use Rattle.linux_model.specs.Held.{Held}
use Rattle.linux_model.specs.Managed.{Managed, managed_in, managed_after_all}
use Rattle.manager.specs.Words.{start_effects}

abbrev pub page : Space
page = record { areas = record { first = record { 0 = 0 }; pages = 1; perms = record { 0 = 3 } } ∷ []; byte = λ address. 0 }

abbrev pub idle : Held
idle = record { space = with_space (λ pid. no_space) 1 page; files = record { file = 0; bytes = [] } ∷ []; names = []; next = 1 }

abbrev pub calling_with : ℕ → Managed
calling_with number = managed_after_all (start_effects 1 (record { pc = 0; x = slice_set (replicate 32 0) 17 number }) (record { base = 4096; now = 4096 })) (managed_in (unbooted []))
