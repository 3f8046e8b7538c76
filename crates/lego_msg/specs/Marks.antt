-- What is still to come in a run, as a list of marks: operations that are called for, and events that are to be
-- shown. One list has the order of all of them.
use Rattle.std.specs.Prelude.{[], ◌∷◌, Bool, List, false, true}
use Rattle.lego_base.specs.declared.records.HomeEntry.{HomeEntry}
use Rattle.lego_msg.specs.declared.event.Event.{Event}
use Rattle.lego_msg.specs.declared.event.Event.TheVariants.{Turn}
use Rattle.lego_msg.specs.declared.operation.Operation.{Operation}
use Rattle.lego_msg.specs.declared.place.Place.{Place}

-- an operation that is called for
pub record Order : Type 0 where
  -- who issues it: the processor of the process, or the manager
  pub by : Place
  pub operation : Operation
  -- regions that get their owners directly before its first message: all new ones of a mapping at the first
  -- SetsHome, all of a child at the first Drains of its fork
  pub owners : List HomeEntry
  -- whether it comes after the end of the last turn, as those for the archive
  pub late : Bool

pub data Mark : Type 0 where
  Call : Order → Mark
  Show : Event → Mark

abbrev pub order : Place → Operation → Order
order by operation = record { by = by; operation = operation; owners = []; late = false }

abbrev pub is_turn : Event → Bool
is_turn (Turn number pid) = true
is_turn other = false

-- whether a turn is over where this is still to come: nothing, the next turn, or what comes after the last
abbrev pub is_turn_end : List Mark → Bool
is_turn_end [] = true
is_turn_end (Call o ∷ due) = o.late
is_turn_end (Show e ∷ due) = is_turn e
