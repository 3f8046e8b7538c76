-- The outside world of a call: what its objects tell, and how often each failed.
use Rattle.std.specs.Prelude.{◌≡◌, Option}
use Rattle.host_io.specs.Sources.{SourceState}
use Rattle.host_io.specs.Sinks.{SinkState}
use Rattle.host_io.specs.Depots.{Files, DepotState}
use Rattle.plain_kernel.specs.Outcomes.{Told, told}

pub record Outside : Type 0 where
  pub input : SourceState
  pub out : SinkState
  pub err : SinkState
  pub depot : DepotState

abbrev pub outside : SourceState → SinkState → SinkState → DepotState → Outside
outside input out err depot = record { input = input; out = out; err = err; depot = depot }

-- what a call may add to: the bytes under each name of the depot, and what standard output and standard error hold
pub record Outlets : Type 0 where
  pub files : Option Files
  pub streams : Told

abbrev pub outlets : Outside → Outlets
outlets world = record { files = world.depot.files; streams = told world.out world.err }

-- nothing was written and nothing was put
abbrev pub Quiet : Outside → Outside → Type 0
Quiet before after = outlets after ≡ outlets before

-- nothing was read
abbrev pub Unread : Outside → Outside → Type 0
Unread before after = after.input.left ≡ before.input.left

-- the outside world with another depot, or with another standard error
abbrev pub with_depot : Outside → DepotState → Outside
with_depot world depot = record world { depot = depot }

abbrev pub with_err : Outside → SinkState → Outside
with_err world err = record world { err = err }
