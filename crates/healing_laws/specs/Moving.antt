-- While a memory is healed: its moves keep the relation.
use Rattle.std.specs.Prelude.{◌≡◌, [], ◌∷◌, ℕ, List, None, Option, Some, false, true}
use Rattle.lego_msg.specs.Completions.{finished, move_finished}
use Rattle.lego_msg.specs.Deliveries.{MayDeliver, comes, taken}
use Rattle.lego_msg.specs.Sends.{IsMove, move_begins}
use Rattle.lego_msg.specs.Track.{Track, is_complete}
use Rattle.lego_msg.specs.declared.healing.Healing.{Healing}
use Rattle.lego_msg.specs.declared.healing.Move.{Move}
use Rattle.lego_msg.specs.declared.message.Message.{Message}
use Rattle.lego_msg.specs.declared.operation.Open.{Open}
use Rattle.lego_rest.specs.Rest.{Middle}

-- EVERY DELIVERY keeps it: also that of a move's message at its component, and of its answer at the manager
abbrev pub DeliveriesKeep : Type 0
DeliveriesKeep = (lost : Option ℕ) (t : Track) (m : Message) → MayDeliver t m → Middle lost t → Middle lost (comes (taken t) m m.to)

-- A MOVE BEGINS, once the one before it is complete, and takes that one's answer
abbrev pub MoveBegins : Type 0
MoveBegins = (lost : Option ℕ) (t : Track) (h : Healing) (m : Message) → t.healing ≡ Some h → h.current ≡ None → t.owed ≡ [] → t.stopped ≡ false → IsMove t m h None h.moves →
    Middle lost t → Middle lost (move_begins t m h h.moves)

-- A MOVE THAT ISN'T THE LAST is complete: it has done its part
abbrev pub MoveEnds : Type 0
MoveEnds = (lost : Option ℕ) (t : Track) (h : Healing) (o : Open) (move : Move) (moves : List Move) → t.healing ≡ Some h → h.current ≡ Some o → h.moves ≡ move ∷ moves →
    t.owed ≡ [] → t.stopped ≡ false → is_complete t.net o ≡ true → Middle lost t → Middle lost (move_finished t h o h.moves)

-- THE LAST MOVE is complete: the healing ends, nothing is lost any more, and the open operation is sent again
abbrev pub HealingEnds : Type 0
HealingEnds = (lost : Option ℕ) (t : Track) (h : Healing) (o : Open) → t.healing ≡ Some h → h.current ≡ Some o → h.moves ≡ [] →
    t.owed ≡ [] → t.stopped ≡ false → is_complete t.net o ≡ true → Middle lost t → Middle None (move_finished t h o h.moves)

-- THE OPEN OPERATION is complete while a memory is healed: then it doesn't ask that memory
abbrev pub OperationEndsBeside : Type 0
OperationEndsBeside = (lost : Option ℕ) (t : Track) (h : Healing) (o : Open) → t.healing ≡ Some h → t.current ≡ Some o →
    t.owed ≡ [] → t.stopped ≡ false → is_complete t.net o ≡ true → Middle lost t → Middle lost (finished t (Some o))
