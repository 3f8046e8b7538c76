-- An operation that is opened, with n memories, and one that is sent again.
use Rattle.std.specs.Prelude.{[], ℕ, List, None, Option, Some, drop, map}
use Rattle.lego_base.specs.declared.ids.OpNo.{OpNo}
use Rattle.lego_msg.specs.Operations.{asks_of, messages_of, targets_of}
use Rattle.lego_msg.specs.declared.operation.Open.{Open}
use Rattle.lego_msg.specs.declared.operation.Operation.{Operation}
use Rattle.lego_msg.specs.declared.place.Place.{Place}
use Rattle.op_track.specs.declared.op.Target.{Target}

-- the places of targets
abbrev pub places : List Target → List Place
places targets = map (λ (t : Target). t.place) targets

abbrev pub opened_by : ℕ → OpNo → Place → Operation → Open
opened_by n number by operation = record {
  number = number;
  by = by;
  operation = operation;
  unsent = messages_of by number (asks_of n operation);
  targets = targets_of n operation;
  answers = [];
}

abbrev pub again_with : ℕ → Open → Open
again_with n o = record o { unsent = messages_of o.by o.number (asks_of n o.operation) }

abbrev pub again_in : ℕ → Option Open → Option Open
again_in n None = None
again_in n (Some o) = Some (again_with n o)

-- an operation whose first message is sent
abbrev pub begun_by : ℕ → OpNo → Place → Operation → Option Open
begun_by n number by operation = Some (record (opened_by n number by operation) { unsent = drop 1 (opened_by n number by operation).unsent })
