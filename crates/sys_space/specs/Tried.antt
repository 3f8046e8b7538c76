-- What a small machine holds: the space of process 1, in which no byte was written, and an empty file without a name.
use Rattle.std.specs.Prelude.{List, [], ◌∷◌}
use Rattle.lego_base.specs.declared.records.Area.{Area}
use Rattle.lego_base.specs.Space.{no_space, with_space}
use Rattle.linux_model.specs.Held.{Held}

abbrev pub blank : List Area → Held
blank areas = record { space = with_space (λ pid. no_space) 1 (record { areas = areas; byte = λ address. 0 }); files = record { file = 0; bytes = [] } ∷ []; names = []; next = 1 }
