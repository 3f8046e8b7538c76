-- What a plain machine holds, and what its relations say.
use Rattle.std.specs.Prelude.{◌≡◌, List, ◌++◌}
use Rattle.std.specs.Borrow.{Lends, MutBor, Fml}
use Rattle.linux_model.specs.Effects.{Effect}
use Rattle.linux_model.specs.Held.{Held}
use Rattle.call_machine.specs.Lawful.{Led}
use Rattle.flat_memory.specs.Spaces.{spaces_of}
use Rattle.flat_memory.specs.contracts.memory.FlatMemory as memory
use Rattle.flat_memory.specs.declared.memory.FlatMemory.{FlatMemory}
use Rattle.plain_machine.specs.Shown.{Shown, Shows}
use Rattle.plain_machine.specs.contracts.machine.PlainMachine.{the_row}
use Rattle.plain_machine.specs.contracts.output.Output as output
use Rattle.plain_machine.specs.declared.machine.PlainMachine.{PlainMachine}

-- what it holds of the plain kernel
abbrev pub held_of : PlainMachine → Held
held_of m = record { space = spaces_of m.memory; files = m.files.files; names = m.files.names; next = m.files.next }

-- Effects happened: what is held is what they make of it, and they were shown.
pub record Did (old new : PlainMachine) (es : List Effect) : Type 0 where
  pub led : Led (held_of old) (held_of new) es
  pub shows : Shows es old.output new.output

-- It stopped: some first ones of the effects were shown.
pub record Stopped (old new : PlainMachine) (es : List Effect) : Type 0 where
  pub first : List Effect
  pub rest : List Effect
  pub whole : first ++ rest ≡ es
  pub shows : Shows first old.output new.output

-- ---- what is lent: the machine ends with what is left there

abbrev pub LendsMemory : MutBor PlainMachine → MutBor FlatMemory → Fml
LendsMemory machine lent = Lends the_row memory.the_row machine lent (λ m. record machine.now { memory = m })

abbrev pub LendsOutput : MutBor PlainMachine → MutBor Shown → Fml
LendsOutput machine lent = Lends the_row output.the_row machine lent (λ o. record machine.now { output = o })
