-- Instructions of a process, as effects. They need its registers and its space alone.
use Rattle.std.specs.Prelude.{ℕ, zero, suc, List, [], ◌∷◌, ◌++◌, Option, Some, None, if◌then◌else◌}
use Rattle.lego_base.specs.Space.{Space, permits, bytes_at, number_of, bytes_of, with_bytes}
use Rattle.rv64_decode.specs.declared.Instr.{Instr}
use Rattle.rv64_decode.specs.Table.{decoded}
use Rattle.rv64_step.specs.declared.cpu.Cpu.{Cpu}
use Rattle.rv64_step.specs.declared.cpu.StepEnd.{StepEnd}
use Rattle.rv64_step.specs.declared.cpu.StepEnd.TheVariants.{Next, Call, Dead}
use Rattle.rv64_step.specs.Meaning.{Asks, Ends, Loads, Stores, asks}
use Rattle.linux_model.specs.Effects.{Effect, Reads, Writes, Refused, Goes, Fetch, Load, Store}

-- what running instructions did: the effects in order, how the last one ended, and the registers and the
-- space after it
pub record Ran : Type 0 where
  pub effects : List Effect
  pub stop : StepEnd
  pub cpu : Cpu
  pub space : Space

-- an access that isn't permitted kills by signal 11
abbrev pub refused : Effect → Cpu → Space → Ran
refused e cpu space = record { effects = e ∷ []; stop = Dead 11; cpu = cpu; space = space }

-- what an instruction asks for, done
abbrev pub asked : ℕ → Cpu → Space → Asks → Ran
asked pid cpu space (Ends stop after) = record { effects = Goes pid after ∷ []; stop = stop; cpu = after; space = space }
asked pid cpu space (Loads address n after) =
    if permits space 1 address n
    then record { effects = Reads Load pid address (bytes_at space address n) ∷ Goes pid (after (number_of (bytes_at space address n))) ∷ []; stop = Next; cpu = after (number_of (bytes_at space address n)); space = space }
    else refused (Refused Load pid address n) cpu space
asked pid cpu space (Stores address n value after) =
    if permits space 2 address n
    then record { effects = Writes Store pid address (bytes_of n value) ∷ Goes pid after ∷ []; stop = Next; cpu = after; space = with_bytes space address (bytes_of n value) }
    else refused (Refused Store pid address n) cpu space

-- an instruction; a word that is none kills by signal 4
abbrev pub obeyed : ℕ → Cpu → Space → Option Instr → Ran
obeyed pid cpu space None = record { effects = []; stop = Dead 4; cpu = cpu; space = space }
obeyed pid cpu space (Some i) = asked pid cpu space (asks i cpu i.op)

-- effects, then what ran
abbrev pub following : List Effect → Ran → Ran
following effects r = record r { effects = effects ++ r.effects }

-- one instruction: the word at pc is fetched and obeyed
abbrev pub one : ℕ → Cpu → Space → Ran
one pid cpu space =
    if permits space 4 cpu.pc 4
    then following (Reads Fetch pid cpu.pc (bytes_at space cpu.pc 4) ∷ []) (obeyed pid cpu space (decoded (number_of (bytes_at space cpu.pc 4))))
    else refused (Refused Fetch pid cpu.pc 4) cpu space

-- the rest follows only where the instruction before it ended with the next one to come
abbrev pub goes_on : StepEnd → Ran → Ran → Ran
goes_on Next r rest = following r.effects rest
goes_on Call r rest = r
goes_on (Dead signal) r rest = r

-- at most n instructions
abbrev pub many : ℕ → ℕ → Cpu → Space → Ran
many zero pid cpu space = record { effects = []; stop = Next; cpu = cpu; space = space }
many (suc n) pid cpu space = goes_on (one pid cpu space).stop (one pid cpu space) (many n pid (one pid cpu space).cpu (one pid cpu space).space)
