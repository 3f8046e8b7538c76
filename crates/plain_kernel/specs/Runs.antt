-- What a whole run did to its two streams, by the flat run.
use Rattle.std.specs.Prelude.{◌≡◌, ℕ, suc, ◌<◌, ◌≤◌, List, ◌++◌, length, Some, None, IfSome, Result, Ok, Err}
use Rattle.lego_base.specs.declared.report.EndWord.{EndWord}
use Rattle.lego_base.specs.declared.report.Ended.{Ended}
use Rattle.kernel_objects.specs.declared.descriptor.Stream.{Stream}
use Rattle.kernel_objects.specs.declared.descriptor.Stream.TheVariants as streams
use Rattle.plain_kernel.specs.declared.kernel.RunStop.{RunStop}
use Rattle.plain_kernel.specs.declared.kernel.RunStop.TheVariants.{OutFault, ErrFault, NoMemory}
use Rattle.linux_model.specs.State.{Kernel, Written, joined}
use Rattle.linux_model.specs.Fits.{NamesFit}
use Rattle.linux_model.specs.Held.{held_in}
use Rattle.linux_model.specs.Managed.{managed_in}
use Rattle.linux_model.specs.Named.{named_files}
use Rattle.linux_model.specs.Turns.{Schedule, flat, ended, ready, whose}
use Rattle.plain_kernel.specs.declared.kernel.PlainKernel.{PlainKernel}
use Rattle.plain_kernel.specs.declared.left.PlainEnd.{PlainEnd}
use Rattle.plain_kernel.specs.Outcomes.{Told, Took, part_for, front_of}
use Rattle.plain_kernel.specs.Standing.{kernel_in}
use Rattle.plain_kernel.specs.Turns.{CanTurn}

-- The flat run on this kernel went through n turns, and didn't end before.
pub record Through (schedule : Schedule) (boot : Kernel) (turns : ℕ) : Type 0 where
  pub few : turns ≤ schedule.max_turns
  pub before : (m : ℕ) → m < turns → ended schedule m (flat schedule boot m) ≡ None

-- It ends so after this many turns.
pub record EndsAfter (schedule : Schedule) (boot : Kernel) (turns : ℕ) (word : EndWord) : Type 0 where
  pub through : Through schedule boot turns
  pub ends : ended schedule turns (flat schedule boot turns) ≡ Some word

-- It goes into one turn more after n.
pub record GoesInto (schedule : Schedule) (boot : Kernel) (turns : ℕ) : Type 0 where
  pub through : Through schedule boot turns
  pub more : turns < schedule.max_turns
  pub not_ended : ended schedule turns (flat schedule boot turns) ≡ None

-- the flat run ended so, and the streams took what it wrote
pub record Ends (schedule : Schedule) (boot : Kernel) (before after : Told) (end : PlainEnd) : Type 0 where
  pub ends : EndsAfter schedule boot end.ended.turns end.ended.word
  pub took : Took before after (flat schedule boot end.ended.turns).written
  pub exits : end.exits ≡ (flat schedule boot end.ended.turns).exits
  pub files : end.files ≡ named_files (flat schedule boot end.ended.turns)

-- it stopped after n turns: the streams have taken what the flat run wrote in these
pub record Stops (schedule : Schedule) (boot : Kernel) (before after : Told) : Type 0 where
  pub turns : ℕ
  pub through : Through schedule boot turns
  pub took : Took before after (flat schedule boot turns).written

-- it was cut by a fault of one stream, which has taken a proper prefix of its part of what the turn writes besides
pub record Cuts (schedule : Schedule) (boot : Kernel) (stream : Stream) (before after : Told) : Type 0 where
  pub turns : ℕ
  pub into : GoesInto schedule boot turns
  pub piece : Written
  pub writes : (flat schedule boot (suc turns)).written ≡ joined (flat schedule boot turns).written piece
  pub front : List ℕ
  pub rest : List ℕ
  pub missing : 0 < length rest
  pub whole : front ++ rest ≡ part_for stream piece
  pub took : Took before after (joined (flat schedule boot turns).written (front_of stream piece front))

abbrev pub StopsSo : Schedule → Kernel → Told → Told → RunStop → Type 0
StopsSo schedule boot before after NoMemory = Stops schedule boot before after
StopsSo schedule boot before after OutFault = Cuts schedule boot streams.Out before after
StopsSo schedule boot before after ErrFault = Cuts schedule boot streams.Err before after

-- how a run on the kernel that was booted came out
abbrev pub PlainRan : Schedule → Kernel → Told → Told → Result PlainEnd RunStop → Type 0
PlainRan schedule boot before after (Ok end) = Ends schedule boot before after end
PlainRan schedule boot before after (Err stop) = StopsSo schedule boot before after stop

-- ---- for the loop over turns

-- who has a turn of the flat run may have it
abbrev pub TurnsMayCome : Schedule → Kernel → Type 0
TurnsMayCome schedule boot =
    (n : ℕ) → n < schedule.max_turns →
    IfSome (whose schedule (suc n) (flat schedule boot n).procs (ready (flat schedule boot n))) (λ p.
    CanTurn schedule p.pid (managed_in (flat schedule boot n)) (held_in (flat schedule boot n)))

-- the file of each name is there, after every turn
abbrev pub NamesStay : Schedule → Kernel → Type 0
NamesStay schedule boot = (n : ℕ) → NamesFit (flat schedule boot n).files (flat schedule boot n).names

-- n turns were run, and the kernel stands for that of the flat run
pub record RanSoFar (schedule : Schedule) (boot : Kernel) (before after : Told) (now : PlainKernel) (turns : ℕ) : Type 0 where
  pub through : Through schedule boot turns
  pub took : Took before after (flat schedule boot turns).written
  pub stands : kernel_in now (flat schedule boot turns).written ≡ flat schedule boot turns

-- all turns came to an end
pub record CameToEnd (schedule : Schedule) (boot : Kernel) (before after : Told) (now : PlainKernel) (end : Ended) : Type 0 where
  pub ran : RanSoFar schedule boot before after now end.turns
  pub ends : ended schedule end.turns (flat schedule boot end.turns) ≡ Some end.word

abbrev pub Run : Schedule → Kernel → Told → Told → PlainKernel → Result Ended RunStop → Type 0
Run schedule boot before after now (Ok end) = CameToEnd schedule boot before after now end
Run schedule boot before after now (Err stop) = StopsSo schedule boot before after stop
