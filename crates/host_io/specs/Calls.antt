-- The calls of an object in memory, numbered from 1: which of them are to fail, how many were made, and
-- the count of faults.
use Rattle.std.specs.Prelude.{ℕ, ◌+◌, ◌-◌, ◌^◌, min, Bool, true, false, ◌==◌, List}
use Rattle.std.specs.List.{list_any}
use Rattle.lego_base.specs.Counts.{risen}

pub record Calls : Type 0 where
  pub fails : List ℕ
  pub made : ℕ
  pub faults : ℕ

-- no call was made
abbrev pub untried : List ℕ → Calls
untried fails = record { fails = fails; made = 0; faults = 0 }

-- the number of the next call, which stays at 2^64 - 1 once it is there
abbrev pub next_call : Calls → ℕ
next_call c = min (c.made + 1) (2 ^ 64 - 1)

-- whether the next call is to fail
abbrev pub is_due : Calls → Bool
is_due c = list_any (λ number. number == next_call c) c.fails

-- after a call, which went well or failed
abbrev pub counted : Bool → Calls → Calls
counted true c = record { fails = c.fails; made = next_call c; faults = c.faults }
counted false c = record { fails = c.fails; made = next_call c; faults = risen c.faults }
