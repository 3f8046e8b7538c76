-- What two streams took of what was put out. What a stream holds is what its sink tells.
use Rattle.std.specs.Prelude.{◌≡◌, ℕ, ◌<◌, ◌≤◌, List, [], ◌++◌, length, Option}
use Rattle.lego_base.specs.Counts.{Rose}
use Rattle.host_io.specs.Sinks.{SinkState, TookAll}
use Rattle.kernel_objects.specs.declared.descriptor.Stream.{Stream}
use Rattle.kernel_objects.specs.declared.descriptor.Stream.TheVariants.{Out, Err}
use Rattle.plain_kernel.specs.declared.kernel.RunStop.{RunStop}
use Rattle.plain_kernel.specs.declared.kernel.RunStop.TheVariants.{OutFault, ErrFault, NoMemory}
use Rattle.linux_model.specs.State.{Written}

-- what standard output and standard error tell that they hold
pub record Told : Type 0 where
  pub out : Option (List ℕ)
  pub err : Option (List ℕ)

abbrev pub told : SinkState → SinkState → Told
told out err = record { out = out.held; err = err.held }

-- each took what was written to it
pub record Took (old new : Told) (written : Written) : Type 0 where
  pub out : TookAll old.out new.out written.out
  pub err : TookAll old.err new.err written.err

-- what of a piece is for a stream
abbrev pub part_for : Stream → Written → List ℕ
part_for Out piece = piece.out
part_for Err piece = piece.err

-- what the streams have of a piece where one took only these first bytes of its part: standard output comes first
abbrev pub front_of : Stream → Written → List ℕ → Written
front_of Out piece front = record { out = front; err = [] }
front_of Err piece front = record { out = piece.out; err = front }

-- The sink of a stream took a proper prefix of its part.
pub record CutShort (old new : Told) (stream : Stream) (piece : Written) : Type 0 where
  pub front : List ℕ
  pub rest : List ℕ
  pub more : 0 < length rest
  pub whole : front ++ rest ≡ part_for stream piece
  pub took : Took old new (front_of stream piece front)

-- the counts of faults of the two sinks
pub record Faults : Type 0 where
  pub out : ℕ
  pub err : ℕ

abbrev pub faults : SinkState → SinkState → Faults
faults out err = record { out = out.faults; err = err.faults }

-- counts never fall
pub record Later (before now : Faults) : Type 0 where
  pub out : before.out ≤ now.out
  pub err : before.err ≤ now.err

-- why it stopped: for lack of memory, or by a fault of a sink, which only comes where its count rose
abbrev pub Cause : Faults → Faults → RunStop → Type 0
Cause before now NoMemory = Unit {0}
Cause before now OutFault = Rose before.out now.out
Cause before now ErrFault = Rose before.err now.err
