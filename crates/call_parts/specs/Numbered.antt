-- What a group of calls comes to by number, where the process dies by one, and where it lives on.
use Rattle.std.specs.Prelude.{◌≡◌, ℕ, Bool, true, List, Option, IfSome, Result, IfOk}
use Rattle.lego_base.specs.declared.stops.Halt.{Halt}
use Rattle.rv64_step.specs.Meaning.{reg}
use Rattle.linux_model.specs.State.{Kernel}
use Rattle.linux_model.specs.Processes.{process}
use Rattle.linux_model.specs.Effects.{Effect}
use Rattle.linux_model.specs.Calls.{call_by, row}
use Rattle.linux_model.specs.Held.{Held}
use Rattle.linux_model.specs.Managed.{Managed}
use Rattle.manager.specs.Words.{is_alive}
use Rattle.call_machine.specs.declared.end.CallEnd.{CallEnd}
use Rattle.call_machine.specs.declared.end.CallEnd.TheVariants.{Dies}
use Rattle.call_machine.specs.Laws.{effects_of}
use Rattle.call_machine.specs.Lent.{FitTogether, Ran, ended, kernel_of}

-- where it was one of them it ended as the row of its number
abbrev pub NumberedEnds : {X : Type 0} (held : X → Held) (does : X → X → List Effect → Type 0) → X → X → Managed → Managed → ℕ → Result (Option CallEnd) Halt → Type 0
NumberedEnds held does old new man man' pid result =
    (k : Kernel) → IfSome (process man.procs pid) (λ p.
    IfOk result (λ end. IfSome end (λ end. Ran does old new man man' (row (call_by p) p (kernel_of man (held old) k)) (ended end))))

-- and it stopped within the row, if it did
abbrev pub NumberedStops : {X : Type 0} (held : X → Held) (stops : X → X → List Effect → Type 0) → (ℕ → Bool) → X → X → Managed → ℕ → Type 0
NumberedStops held stops is_mine old new man pid =
    (k : Kernel) → IfSome (process man.procs pid) (λ p.
    is_mine (reg p.cpu 17) ≡ true → stops old new (effects_of (row (call_by p) p (kernel_of man (held old) k))))

-- what holds where the process dies
abbrev pub IfDies : CallEnd → Type 0 → Type 0
IfDies (Dies status) P = P
IfDies other P = Unit {0}

-- a call after which the process lives
abbrev pub StaysAlive : CallEnd → Type 0
StaysAlive end = IfDies end ⊥

-- who dies lives
pub record CanDie (man : Managed) (held : Held) (pid : ℕ) : Type 0 where
  pub alive : is_alive pid man ≡ true
  pub fit : FitTogether man held
