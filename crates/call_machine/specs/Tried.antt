-- What a small machine holds.
use Rattle.std.specs.Prelude.{Bool, false, true, [], ◌∷◌}
use Rattle.lego_base.specs.Space.{no_space}
use Rattle.linux_model.specs.Held.{Held}

-- nothing
abbrev pub bare : Held
bare = record { space = λ pid. no_space; files = []; names = []; next = 0 }

-- Page 0 of each space, which nobody may touch, and an empty file without a name: then there is something to ask about with
-- each call.
abbrev pub stuffed : Held
stuffed = record {
  space = λ pid. record { areas = record { first = record { 0 = 0 }; pages = 1; perms = record { 0 = 0 } } ∷ []; byte = λ address. 0 };
  files = record { file = 0; bytes = [] } ∷ [];
  names = [];
  next = 1;
}

abbrev pub held_by : Bool → Held
held_by false = bare
held_by true = stuffed
