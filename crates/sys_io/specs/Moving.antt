-- What the parts of a call come to that moves bytes: parts of which each does its effects and leaves the manager as it is.
use Rattle.std.specs.Prelude.{◌≡◌, ℕ, List, [], ◌∷◌, ◌++◌, Option, Some, None, Result, Ok, Err, IfOk}
use Rattle.lego_base.specs.declared.stops.Halt.{Halt}
use Rattle.lego_base.specs.Space.{Space}
use Rattle.kernel_objects.specs.declared.piece.Piece.{Piece}
use Rattle.linux_model.specs.Limits.{EFAULT}
use Rattle.linux_model.specs.State.{Kernel, Process}
use Rattle.linux_model.specs.Effects.{Effect, PutsPipe}
use Rattle.linux_model.specs.Buffers.{bytes_in, copies_in}
use Rattle.linux_model.specs.Called.{Called, Gives}
use Rattle.linux_model.specs.Held.{Held, with_held}
use Rattle.linux_model.specs.Managed.{Managed, managed_after_all}
use Rattle.call_machine.specs.Laws.{effects_of}

-- effects that happened, and change nothing that is managed
pub record Apart {X : Type 0} (does : X → X → List Effect → Type 0) (old new : X) (effects : List Effect) : Type 0 where
  pub did : does old new effects
  pub still : (man : Managed) → managed_after_all effects man ≡ man

-- A row whose last effects are the manager's: these came before them, this is the answer, and what the last ones go by.
pub record Wrote {X : Type 0} (does : X → X → List Effect → Type 0) (old new : X) (row : (ℕ → List Effect) → Called) (n end : ℕ) : Type 0 where
  pub effects : List Effect
  pub row_is : (after : ℕ → List Effect) → row after ≡ Gives (effects ++ after end) n
  pub apart : Apart does old new effects

-- it was refused
pub record Refused {X : Type 0} (does : X → X → List Effect → Type 0) (old new : X) (row : (ℕ → List Effect) → Called) (errno : ℕ) : Type 0 where
  pub effects : List Effect
  pub row_is : (after : ℕ → List Effect) → row after ≡ Gives effects errno
  pub apart : Apart does old new effects

-- so much was moved
abbrev pub Moved : {X : Type 0} (does : X → X → List Effect → Type 0) → X → X → ((ℕ → List Effect) → Called) → ℕ → Type 0
Moved does old new row moved = Wrote does old new row moved moved

-- a buffer wasn't good
abbrev pub Faulted : {X : Type 0} (does : X → X → List Effect → Type 0) → X → X → ((ℕ → List Effect) → Called) → Type 0
Faulted does old new row = Refused does old new row EFAULT

abbrev pub MovedOr : {X : Type 0} (does : X → X → List Effect → Type 0) → X → X → ((ℕ → List Effect) → Called) → Option ℕ → Type 0
MovedOr does old new row None = Faulted does old new row
MovedOr does old new row (Some moved) = Moved does old new row moved

-- for each process with a pid, and each kernel with what the machine holds
abbrev pub Moves : {X : Type 0} (held : X → Held) (does : X → X → List Effect → Type 0) → X → X → ℕ → ((ℕ → List Effect) → Process → Kernel → Called) → Result (Option ℕ) Halt → Type 0
Moves held does old new pid row result =
    (p : Process) (k : Kernel) → p.pid ≡ pid → IfOk result (MovedOr does old new (λ after. row after p (with_held (held old) k)))

abbrev pub MoveStops : {X : Type 0} (held : X → Held) (stops : X → X → List Effect → Type 0) → X → X → ℕ → ((ℕ → List Effect) → Process → Kernel → Called) → Type 0
MoveStops held stops old new pid row =
    (p : Process) (k : Kernel) (after : ℕ → List Effect) → p.pid ≡ pid → stops old new (effects_of (row after p (with_held (held old) k)))

-- ---- writing at a place of a file

abbrev pub WroteOr : {X : Type 0} (does : X → X → List Effect → Type 0) → X → X → ((ℕ → List Effect) → Called) → ℕ → Result ℕ ℕ → Type 0
WroteOr does old new row n (Ok end) = Wrote does old new row n end
WroteOr does old new row n (Err errno) = Refused does old new row errno

abbrev pub Writes : {X : Type 0} (held : X → Held) (does : X → X → List Effect → Type 0) → X → X → ℕ → ℕ → ((ℕ → List Effect) → Process → Kernel → Called) → Result (Result ℕ ℕ) Halt → Type 0
Writes held does old new pid n row result =
    (p : Process) (k : Kernel) → p.pid ≡ pid → IfOk result (WroteOr does old new (λ after. row after p (with_held (held old) k)) n)

-- what puts pieces into a pipe: they are read, then put
abbrev pub puts_part : ℕ → Space → ℕ → List Piece → List Effect
puts_part pid space pipe parts = copies_in pid space parts ++ PutsPipe pipe (bytes_in space parts) ∷ []
