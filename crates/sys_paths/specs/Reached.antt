-- Where a path leads, for whatever a call does there.
use Rattle.std.specs.Prelude.{◌≡◌, ℕ, List, Result, Ok, Err, IfOk, IfSome}
use Rattle.lego_base.specs.declared.records.NameEntry.{NameEntry}
use Rattle.lego_base.specs.declared.stops.Halt.{Halt}
use Rattle.lego_base.specs.Files.{named}
use Rattle.linux_model.specs.State.{Kernel, Process}
use Rattle.linux_model.specs.Processes.{process}
use Rattle.linux_model.specs.Effects.{Effect}
use Rattle.linux_model.specs.Called.{Called, following, says}
use Rattle.linux_model.specs.Paths.{Found, Root, Named}
use Rattle.linux_model.specs.Held.{Held}
use Rattle.linux_model.specs.Laws.{Still}
use Rattle.linux_model.specs.Managed.{Managed}
use Rattle.call_machine.specs.Lent.{kernel_of}
use Rattle.sys_paths.specs.declared.walk.Found.{Found as Told}
use Rattle.sys_paths.specs.declared.walk.Found.TheVariants.{Root as ToRoot, Named as ToName}

-- what was found, as linux_model has it
abbrev pub found_of : Told → Found
found_of ToRoot = Root
found_of (ToName name file) = Named name file

-- what comes of it: what follows of what was found, or an error
abbrev pub then_of : Result Told ℕ → (Found → Called) → Called
then_of (Ok found) f = f (found_of found)
then_of (Err errno) f = says errno

-- a name has the file that was told
abbrev pub IsNamed : List NameEntry → Told → Type 0
IsNamed names ToRoot = Unit {0}
IsNamed names (ToName name file) = file ≡ named names name

-- The row of a call that first does what comes here is effects, which the machine did between two of its states, with what
-- comes of it after them, whatever the call does then.
pub record Reached {X : Type 0} (does : X → X → List Effect → Type 0) (old new : X) (row : (Found → Called) → Called) (end : Result Told ℕ) : Type 0 where
  pub effects : List Effect
  pub row_is : (f : Found → Called) → row f ≡ following effects (then_of end f)
  pub did : does old new effects
  -- they are questions
  pub still : Still effects

-- a process's path led somewhere, where the machine didn't stop
abbrev pub Leads : {X : Type 0} (held : X → Held) (does : X → X → List Effect → Type 0) → X → X → Managed → ℕ → (Process → Kernel → (Found → Called) → Called) → Result (Result Told ℕ) Halt → Type 0
Leads held does old new man pid row result =
    (k : Kernel) → IfSome (process man.procs pid) (λ p. IfOk result (Reached does old new (row p (kernel_of man (held old) k))))
