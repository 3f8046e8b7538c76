-- The command line.
use Rattle.std.specs.Prelude.{◌==◌, ℕ, ◌&&◌, Bool, not, nat_lt, nat_le, if◌then◌else◌, List, [], ◌∷◌, length, Option, Some, None, codes}
use Rattle.std.specs.List.{list_any}
use Rattle.std.specs.Str.{bytes_eq}

-- a name of a depot's entry has 1 to 255 bytes, none of them 0
abbrev pub is_depot_name : List ℕ → Bool
is_depot_name name = nat_lt 0 (length name) && nat_le (length name) 255 && not (list_any (λ byte. byte == 0) name)

abbrev pub named_by : List ℕ → List ℕ → Option (List ℕ)
named_by command name = if bytes_eq command (codes "plain") && is_depot_name name then Some name else None

-- the description that the command line `plain DESC` names; any other names none
abbrev pub named : List (List ℕ) → Option (List ℕ)
named [] = None
named (command ∷ []) = None
named (command ∷ name ∷ []) = named_by command name
named (command ∷ name ∷ word ∷ words) = None
