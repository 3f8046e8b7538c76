-- What a system call comes to, and how a row of it is put together: the answers that come first, in order, each with
-- the effects before it, then the effects and the answer of the call.
use Rattle.std.specs.Prelude.{ℕ, Bool, if◌then◌else◌, List, [], ◌∷◌, ◌++◌, Option, Some, None}
use Rattle.rv64_step.specs.declared.cpu.Cpu.{Cpu}
use Rattle.linux_model.specs.Effects.{Effect}

pub data Called : Type 0 where
  -- effects, and the process goes on after the call with an answer
  Gives : List Effect → ℕ → Called
  -- effects, and the process goes on with other registers
  Becomes : List Effect → Cpu → Called
  -- effects, and the call waits; the bytes that it has moved, and is to move in all
  Waits : List Effect → ℕ → ℕ → Called
  -- effects, and the process dies with a wait status
  Death : List Effect → ℕ → Called

-- an answer and nothing else
abbrev pub says : ℕ → Called
says value = Gives [] value

-- effects before what comes
abbrev pub following : List Effect → Called → Called
following before (Gives effects value) = Gives (before ++ effects) value
following before (Becomes effects cpu) = Becomes (before ++ effects) cpu
following before (Waits effects moved len) = Waits (before ++ effects) moved len
following before (Death effects status) = Death (before ++ effects) status

-- the first of the answers whose condition holds, else what is last
abbrev pub first : List (Bool × ℕ) → Called → Called
first [] last = last
first (answer ∷ rest) last = if answer.0 then says answer.1 else first rest last

-- what comes of a thing where it is there, else an answer
abbrev pub given : {X : Type 0} → Option X → ℕ → (X → Called) → Called
given None answer f = says answer
given (Some x) answer f = f x
