-- What a small machine holds: spaces, and an empty file without a name.
use Rattle.std.specs.Prelude.{ℕ, [], ◌∷◌}
use Rattle.lego_base.specs.Space.{Space}
use Rattle.linux_model.specs.Held.{Held}

abbrev pub with_one_file : (ℕ → Space) → Held
with_one_file spaces = record { space = spaces; files = record { file = 0; bytes = [] } ∷ []; names = []; next = 1 }
