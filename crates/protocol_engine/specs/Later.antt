-- What comes where nothing is owed, complete or crashing.
use Rattle.std.specs.Prelude.{◌≡◌, ◌<◌, List, None, Option, Some, length, true}
use Rattle.lego_base.specs.declared.ids.OpNo.{OpNo}
use Rattle.lego_base.specs.declared.shape.CrashAt.{CrashAt}
use Rattle.lego_msg.specs.Deliveries.{is_waiting}
use Rattle.lego_msg.specs.State.{Mem}
use Rattle.lego_msg.specs.Track.{is_complete}
use Rattle.lego_msg.specs.declared.message.Message.{Message}
use Rattle.lego_msg.specs.declared.healing.Healing.{Healing}
use Rattle.lego_msg.specs.declared.operation.Open.{Open}
use Rattle.lego_msg.specs.declared.operation.Operation.{Operation}
use Rattle.lego_msg.specs.declared.place.Place.{Place}
use Rattle.protocol_engine.specs.declared.step.Step.{Step}
use Rattle.protocol_engine.specs.declared.step.Step.TheVariants.{BeginMove, Deliver, SendUnsent}

-- a move may begin
abbrev pub BetweenMoves : Option Healing → Type 0
BetweenMoves None = ⊥
BetweenMoves (Some h) = (h.current ≡ None) × (0 < length h.moves)

abbrev pub HasUnsent : Option Open → Type 0
HasUnsent None = ⊥
HasUnsent (Some o) = 0 < length o.unsent

-- what comes where nothing is owed, complete or crashing
abbrev pub IsLater : Option Step → Option Healing → Option Open → Type 0
IsLater None h o = (h ≡ None) × (o ≡ None)
IsLater (Some BeginMove) h o = BetweenMoves h
IsLater (Some SendUnsent) h o = (h ≡ None) × HasUnsent o
IsLater (Some Deliver) h o = is_waiting h o ≡ true
IsLater (Some other) h o = ⊥

-- what an open operation was called for as
pub record Called : Type 0 where
  pub number : OpNo
  pub by : Place
  pub operation : Operation

abbrev pub called_by : Option Open → Option Called
called_by None = None
called_by (Some o) = Some (record { number = o.number; by = o.by; operation = o.operation })

-- the operation that is complete, else the one that is open
abbrev pub called_in : Option Open → Option Open → Option Called
called_in None current = called_by current
called_in (Some o) current = called_by (Some o)

-- the next entry of the crash list is there, and of a memory that is there
abbrev pub HasEntry : List Mem → Option CrashAt → Type 0
HasEntry mems None = ⊥
HasEntry mems (Some e) = e.memory.0 < length mems

-- with an operation complete none is open
abbrev pub NotBoth : Option Open → Option Open → Type 0
NotBoth None current = Unit {0}
NotBoth (Some o) current = current ≡ None

-- what is complete was open, and complete with what was pending
abbrev pub Completes : Option Open → Option Open → List Message → Option Open → Type 0
Completes (Some o) new pending current = new ≡ Some o
Completes None None pending current = Unit {0}
Completes None (Some o) pending current = (current ≡ Some o) × (is_complete pending o ≡ true)
