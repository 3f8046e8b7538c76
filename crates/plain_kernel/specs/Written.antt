-- A turn with what it writes.
use Rattle.std.specs.Prelude.{◌≡◌, ℕ, false, List, IfSome, Result, Ok, Err}
use Rattle.kernel_objects.specs.declared.descriptor.Stream.{Stream}
use Rattle.kernel_objects.specs.declared.descriptor.Stream.TheVariants as streams
use Rattle.plain_kernel.specs.declared.kernel.RunStop.{RunStop}
use Rattle.plain_kernel.specs.declared.kernel.RunStop.TheVariants.{OutFault, ErrFault, NoMemory}
use Rattle.linux_model.specs.State.{Written, joined, nothing}
use Rattle.linux_model.specs.Effects.{Effect, applies}
use Rattle.linux_model.specs.Processes.{process}
use Rattle.linux_model.specs.Turns.{Schedule}
use Rattle.plain_machine.specs.Shown.{Shown}
use Rattle.plain_kernel.specs.declared.kernel.PlainKernel.{PlainKernel}
use Rattle.plain_kernel.specs.Standing.{kernel_in}
use Rattle.plain_kernel.specs.Outcomes.{Told, Took, CutShort}
use Rattle.plain_kernel.specs.Turns.{acts_in}

-- nothing is to be written, unless something was lost
abbrev pub IsEmpty : Shown → Type 0
IsEmpty shown = shown.lost ≡ false → shown.written ≡ nothing

-- what was put out went to the two streams, and is forgotten
pub record Emptied (old new : Told) (shown shown' : Shown) : Type 0 where
  pub kept : shown.lost ≡ false
  pub took : Took old new shown.written
  pub empty : IsEmpty shown'

abbrev pub WroteOut : Told → Told → Shown → Shown → Result (Unit {0}) RunStop → Type 0
WroteOut old new shown shown' (Ok done) = Emptied old new shown shown'
WroteOut old new shown shown' (Err NoMemory) = new ≡ old
WroteOut old new shown shown' (Err OutFault) = (shown.lost ≡ false) × CutShort old new streams.Out shown.written
WroteOut old new shown shown' (Err ErrFault) = (shown.lost ≡ false) × CutShort old new streams.Err shown.written

-- Effects happened, and the streams took what they write: the kernel then is what they make of it, with this piece after what
-- was written before.
pub record Wrote (old_told new_told : Told) (old new : PlainKernel) (written : Written) (es : List Effect) : Type 0 where
  pub piece : Written
  pub took : Took old_told new_told piece
  pub does : applies es (kernel_in old written) ≡ kernel_in new (joined written piece)
  pub empty : IsEmpty new.machine.output

-- One stream failed within what they write.
pub record Cut (old_told new_told : Told) (old : PlainKernel) (written : Written) (es : List Effect) (stream : Stream) : Type 0 where
  pub piece : Written
  pub writes : (applies es (kernel_in old written)).written ≡ joined written piece
  pub cut : CutShort old_told new_told stream piece

-- how a turn of these effects went
abbrev pub Went : Told → Told → PlainKernel → PlainKernel → Written → List Effect → Result (Unit {0}) RunStop → Type 0
Went old_told new_told old new written es (Ok done) = Wrote old_told new_told old new written es
Went old_told new_told old new written es (Err NoMemory) = new_told ≡ old_told
Went old_told new_told old new written es (Err OutFault) = Cut old_told new_told old written es streams.Out
Went old_told new_told old new written es (Err ErrFault) = Cut old_told new_told old written es streams.Err

-- how the turn of the process with this pid went, if it is there
abbrev pub TurnWent : Schedule → ℕ → Told → Told → PlainKernel → PlainKernel → Written → Result (Unit {0}) RunStop → Type 0
TurnWent schedule pid old_told new_told old new written result =
    IfSome (process old.manager.procs pid) (λ p. Went old_told new_told old new written (acts_in schedule p (kernel_in old written)) result)
