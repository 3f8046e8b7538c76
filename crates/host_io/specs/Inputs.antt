-- Why a source wasn't read to its end.
use Rattle.std.specs.Prelude.{◌≡◌, ℕ, ◌<◌, ◌≤◌, List, ◌++◌, length, Result, IfOk, IfErr}
use Rattle.lego_base.specs.Counts.{Rose}
use Rattle.host_io.specs.Sources.{SourceState, Gave, GaveSome, IsDry, IsLonger}
use Rattle.host_io.specs.declared.reading.InputStop.{InputStop}
use Rattle.host_io.specs.declared.reading.InputStop.TheVariants.{Failed, Long, NoMemory}

-- `Failed` has a rise of the count as its cause, and `Long` that more than `most` bytes were left at
-- first. Memory may run out at any read.
abbrev pub Stops : ℕ → SourceState → SourceState → InputStop → Type 0
Stops most before after Failed = Rose before.faults after.faults
Stops most before after Long = IsLonger most before.left
Stops most before after NoMemory = Unit {0}

-- One read of a piece whose bytes are appended to what was taken before: `Ok n` appended n bytes, the
-- first ones left. Where memory runs out, some bytes may be lost.
pub record ReadPiece (before after : SourceState) (room : ℕ) (had has : List ℕ) (result : Result ℕ InputStop) : Type 0 where
  pub later : before.faults ≤ after.faults
  pub within : IfOk result (λ n. n ≤ room)
  pub gave : IfOk result (λ n. (bytes : List ℕ) × (length bytes ≡ n) × (has ≡ had ++ bytes) × Gave before.left after.left bytes)
  pub dry : IfOk result (λ n. 0 < room → n ≡ 0 → IsDry before.left)
  pub some : GaveSome before.left after.left
  pub stops : (most : ℕ) → IfErr result (Stops most before after)
