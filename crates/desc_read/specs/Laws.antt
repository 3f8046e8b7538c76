-- What a reader may ask of the plan of a description.
use Rattle.std.specs.Prelude.{◌≡◌, ◌≢◌, ℕ, ◌+◌, ◌<◌, ◌≤◌, List, length, Ok, All, AllPairs}
use Rattle.desc_read.specs.declared.plan.Plan.{Plan}
use Rattle.desc_read.specs.Checks.{bytes_of}
use Rattle.desc_read.specs.Plans.{described}

-- There are at most 512 strings, of at most 65536 bytes with a closing 0 for each.
pub record Strings (args env : List (List ℕ)) : Type 0 where
  pub few : length args + length env ≤ 512
  pub short : bytes_of args + bytes_of env ≤ 65536

-- The arguments and the environment of each plan are so few and so short.
abbrev pub StringsAreFew : Type 0
StringsAreFew = (bytes : List ℕ) (plan : Plan) → described bytes ≡ Ok plan → Strings plan.args plan.env

-- There is a number to choose a turn's process by, instructions and turns are bounded, and the files fit into the root
-- directory: each has a name of its own, of at most 255 bytes.
pub record Bounded (plan : Plan) : Type 0 where
  pub turns : 0 < length plan.turns
  pub quantum : plan.quantum ≤ 100000
  pub max_turns : plan.max_turns ≤ 10000000
  pub files : length plan.files ≤ 1024
  pub apart : AllPairs (λ file other. file.path ≢ other.path) plan.files
  pub short : All (λ file. length file.path ≤ 255) plan.files

-- Each plan is so bounded.
abbrev pub PlansAreBounded : Type 0
PlansAreBounded = (bytes : List ℕ) (plan : Plan) → described bytes ≡ Ok plan → Bounded plan
