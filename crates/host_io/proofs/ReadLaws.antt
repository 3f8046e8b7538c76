-- How a source is read to its end, piece by piece.
use Rattle.std.proofs.Common.{ℕ, ◌+◌, ◌≤◌, List, length, Result, Err}
use Rattle.host_io.specs.Sources.{SourceState, Gave, GaveSome}
use Rattle.host_io.specs.Inputs.{Stops, ReadPiece}
use Rattle.host_io.specs.declared.reading.InputStop.{InputStop}
use Rattle.host_io.specs.declared.reading.InputStop.TheVariants.{Failed, Long, NoMemory}
use Rattle.host_io.proofs.CountLaws.{Rose-earlier}
use Rattle.host_io.proofs.SourceLaws.{GaveSome-append, IsLonger-before}

-- A loop of reads has come so far.
pub record ReadSoFar (before after : SourceState) (most : ℕ) (taken : List ℕ) : Type 0 where
  pub later : before.faults ≤ after.faults
  pub gave : Gave before.left after.left taken
  pub within : length taken ≤ most + 1

-- a read failed, or memory ran out
pub read_stopped : (a b c : SourceState) (most room : ℕ) (had has : List ℕ) (stop : InputStop) → ReadSoFar a b most had → ReadPiece b c room had has (Err stop) → Stops most a c stop
read_stopped a b c most room had has Failed so piece = Rose-earlier a.faults b.faults c.faults so.later (piece.stops most)
read_stopped a b c most room had has Long so piece = IsLonger-before most a.left b.left had so.gave (piece.stops most)
read_stopped a b c most room had has NoMemory so piece = tt

-- in any case some first bytes were taken
pub read_some : (a b c : SourceState) (most room : ℕ) (had has : List ℕ) (result : Result ℕ InputStop) → ReadSoFar a b most had → ReadPiece b c room had has result → GaveSome a.left c.left
read_some a b c most room had has result so piece = GaveSome-append a.left b.left c.left had so.gave piece.some
