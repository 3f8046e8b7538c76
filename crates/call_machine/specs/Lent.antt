-- What a call comes to that is lent a machine and a manager, for a process.
use Rattle.std.specs.Prelude.{◌≡◌, ℕ, true, List, [], ◌∷◌, Result, IfOk, IfSome}
use Rattle.lego_base.specs.declared.stops.Halt.{Halt}
use Rattle.linux_model.specs.State.{Kernel, Process}
use Rattle.linux_model.specs.Processes.{process}
use Rattle.linux_model.specs.Effects.{Effect}
use Rattle.linux_model.specs.Called.{Called, Gives, Becomes, Waits, Death}
use Rattle.linux_model.specs.Fits.{Fits}
use Rattle.linux_model.specs.Held.{Held, with_held, is_apart}
use Rattle.linux_model.specs.Managed.{Managed, managed_after_all, with_managed}
use Rattle.call_machine.specs.declared.end.CallEnd.{CallEnd}
use Rattle.call_machine.specs.declared.end.CallEnd.TheVariants.{Value, Goes, Waits as Waiting, Dies}
use Rattle.call_machine.specs.Laws.{effects_of}

-- the kernel of what a manager and a machine hold, with what was written of another one
abbrev pub kernel_of : Managed → Held → Kernel → Kernel
kernel_of man held k = with_managed man (with_held held k)

-- a row that ends so, with these effects
abbrev pub ended : CallEnd → List Effect → Called
ended (Value value) effects = Gives effects value
ended (Goes cpu) effects = Becomes effects cpu
ended (Waiting w) effects = Waits effects w.moved w.len
ended (Dies status) effects = Death effects status

-- The row of the call is these effects with their end; the machine did them between two of its states, and they make of what
-- was managed what is managed then.
pub record Ran {X : Type 0} (does : X → X → List Effect → Type 0) (old new : X) (man man' : Managed) (row : Called) (end : List Effect → Called) : Type 0 where
  pub effects : List Effect
  pub row_is : row ≡ end effects
  pub did : does old new effects
  pub managed : managed_after_all effects man ≡ man'

-- what a manager and a machine hold fits together
abbrev pub FitTogether : Managed → Held → Type 0
FitTogether man held = (k : Kernel) → Fits (kernel_of man held k)

-- the call of a process ended as its row, where the machine didn't stop
abbrev pub Ends : {X : Type 0} (held : X → Held) (does : X → X → List Effect → Type 0) → X → X → Managed → Managed → ℕ → (Process → Kernel → Called) → Result CallEnd Halt → Type 0
Ends held does old new man man' pid row result =
    (k : Kernel) → IfSome (process man.procs pid) (λ p. IfOk result (λ end. Ran does old new man man' (row p (kernel_of man (held old) k)) (ended end)))

-- a call that always answers did
abbrev pub Answers : {X : Type 0} (held : X → Held) (does : X → X → List Effect → Type 0) → X → X → Managed → Managed → ℕ → (Process → Kernel → Called) → Result ℕ Halt → Type 0
Answers held does old new man man' pid row result =
    (k : Kernel) → IfSome (process man.procs pid) (λ p. IfOk result (λ value. Ran does old new man man' (row p (kernel_of man (held old) k)) (λ effects. Gives effects value)))

-- the machine stopped within the effects of the row, if it did
abbrev pub Stops : {X : Type 0} (held : X → Held) (stops : X → X → List Effect → Type 0) → X → X → Managed → ℕ → (Process → Kernel → Called) → Type 0
Stops held stops old new man pid row =
    (k : Kernel) → IfSome (process man.procs pid) (λ p. stops old new (effects_of (row p (kernel_of man (held old) k))))

-- ---- a call that is lent the manager alone

abbrev pub AllApart : List Effect → Type 0
AllApart [] = Unit {0}
AllApart (e ∷ es) = (is_apart e ≡ true) × AllApart es

-- the row of the call is these effects with this answer, all of them the manager's, and they make of what was managed what is
-- managed then
pub record Manages (man man' : Managed) (row : Called) (value : ℕ) : Type 0 where
  pub effects : List Effect
  pub row_is : row ≡ Gives effects value
  pub apart : AllApart effects
  pub managed : managed_after_all effects man ≡ man'

-- the call of a process answered as its row
abbrev pub AnswersAlone : Managed → Managed → ℕ → (Process → Kernel → Called) → ℕ → Type 0
AnswersAlone man man' pid row value = (k : Kernel) → IfSome (process man.procs pid) (λ p. Manages man man' (row p (with_managed man k)) value)
