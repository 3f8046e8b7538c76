-- Who has answered the open operation: the answer was noted, or it is pending.
use Rattle.std.specs.List.{list_any}
use Rattle.std.specs.Prelude.{◌==◌, ◌&&◌, ◌||◌, if◌then◌else◌, ◌++◌, ℕ, Bool, List, None, Option, Some, false, not}
use Rattle.lego_base.specs.declared.records.Patch.{Patch}
use Rattle.lego_msg.specs.Deliveries.{stops}
use Rattle.lego_msg.specs.Operations.{is_write, patch_of}
use Rattle.lego_msg.specs.Places.{is_among, memory, same_place}
use Rattle.lego_msg.specs.Track.{Track, has_answered}
use Rattle.lego_msg.specs.declared.body.Body.{Body}
use Rattle.lego_msg.specs.declared.healing.Healing.{Healing}
use Rattle.lego_msg.specs.declared.message.Message.{Message}
use Rattle.lego_msg.specs.declared.operation.Open.{Open}
use Rattle.lego_msg.specs.declared.place.Place.{Place}
use Rattle.lego_rest.specs.Parts.{Areas, Cell, Home, Page}
use Rattle.lego_msg.specs.declared.body.Body.TheVariants as body
use Rattle.lego_msg.specs.declared.place.Place.TheVariants as place

-- all that is pending or still to be sent by who got the last message
abbrev pub all_pending : Track → List Message
all_pending t = t.net ++ t.owed

-- In a write a full log and a drained one aren't answers; a refusal that stops the run is none either.
abbrev pub answers_to : Option Patch → Body → Bool
answers_to None told = not (stops told)
answers_to (Some patch) body.LogFull = false
answers_to (Some patch) body.Drained = false
answers_to (Some patch) other = not (stops other)

abbrev pub is_answer_from : Open → Place → Message → Bool
is_answer_from o p m = m.op.0 == o.number.0 && same_place m.from p && same_place m.to o.by && answers_to (patch_of o.operation) m.body

abbrev pub gave_answer : Place → List Message → Option Open → Bool
gave_answer p pending None = false
gave_answer p pending (Some o) = has_answered p o.answers || list_any (is_answer_from o p) pending

abbrev pub is_writing : Option Open → Bool
is_writing None = false
is_writing (Some o) = is_write o.operation

-- STORAGE'S ANSWER speaks of its images unless a target of the operation is being healed, or storage is to be asked again:
-- then a message of the operation to it is unsent or on its way.

abbrev pub is_target : ℕ → Option Open → Bool
is_target c None = false
is_target c (Some o) = is_among (memory c) o.targets

abbrev pub heals_target : Option Healing → Option Open → Bool
heals_target None current = false
heals_target (Some h) current = is_target h.memory.0 current

abbrev pub asks_storage_by : ℕ → Message → Bool
asks_storage_by number m = m.op.0 == number && same_place m.to place.Storage

abbrev pub is_storage_asked : List Message → Option Open → Bool
is_storage_asked pending None = false
is_storage_asked pending (Some o) = list_any (asks_storage_by o.number.0) o.unsent || list_any (asks_storage_by o.number.0) pending

abbrev pub is_storage_true : List Message → Option Healing → Option Open → Bool
is_storage_true pending healing current = not (heals_target healing current) && not (is_storage_asked pending current)

-- WHO MUST HOLD THE NEW ONE: a memory all of its cells once it has answered; a secondary the entries and areas once it has
-- answered, and the pages once it has in a write, else once storage has

abbrev pub main_due : Track → ℕ → Cell → Bool
main_due t m c = gave_answer (memory m) (all_pending t) t.current

abbrev pub images_due : Track → ℕ → Bool
images_due t k =
    if is_writing t.current then gave_answer (memory k) (all_pending t) t.current
    else is_storage_true t.net t.healing t.current && gave_answer place.Storage (all_pending t) t.current

abbrev pub second_due : Track → ℕ → Cell → Bool
second_due t k (Home pid region) = gave_answer (memory k) (all_pending t) t.current
second_due t k (Areas pid region) = gave_answer (memory k) (all_pending t) t.current
second_due t k (Page pid vpn) = images_due t k
