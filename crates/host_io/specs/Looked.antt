-- What the answers of a look-up say.
use Rattle.std.specs.Prelude.{ℕ, List, Some, None}
use Rattle.lego_base.specs.Counts.{risen, Rose}
use Rattle.host_io.specs.Depots.{DepotState, Has}
use Rattle.host_io.specs.declared.depot.Got.{Got}
use Rattle.host_io.specs.declared.depot.Got.TheVariants.{Found, Missing, Failed, NoMemory}

-- `Found` gives what the told map has under the name, `Missing` says that it has nothing there, and
-- `Failed` has a rise of the count as its cause. Memory may run out at any call.
abbrev pub Looked : DepotState → DepotState → List ℕ → Got → Type 0
Looked before after name (Found bytes) = Has before.files name (Some bytes)
Looked before after name Missing = Has before.files name None
Looked before after name Failed = Rose before.faults after.faults
Looked before after name NoMemory = Unit {0}

-- the count after a look-up that counts its failure, and nothing else
abbrev pub count_after : Got → ℕ → ℕ
count_after (Found bytes) count = count
count_after Missing count = count
count_after Failed count = risen count
count_after NoMemory count = count
