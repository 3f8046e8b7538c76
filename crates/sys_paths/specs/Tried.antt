-- What a small machine holds: at address 0 of process 1 the path `/f`, and an empty file with the name `f`.
use Rattle.std.specs.Prelude.{ℕ, ◌==◌, if◌then◌else◌, List, [], ◌∷◌}
use Rattle.lego_base.specs.declared.records.Area.{Area}
use Rattle.lego_base.specs.Space.{no_space, with_space}
use Rattle.linux_model.specs.Held.{Held}

-- one page that may be read
abbrev pub one_page : List Area
one_page = record { first = record { 0 = 0 }; pages = 1; perms = record { 0 = 1 } } ∷ []

abbrev pub text_byte : ℕ → ℕ
text_byte address = if address == 0 then 47 else (if address == 1 then 102 else 0)

abbrev pub lettered : Held
lettered = record {
  space = with_space (λ pid. no_space) 1 (record { areas = one_page; byte = text_byte });
  files = record { file = 0; bytes = [] } ∷ [];
  names = record { name = 102 ∷ []; file = record { 0 = 0 } } ∷ [];
  next = 1;
}
