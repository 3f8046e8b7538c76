-- What the list of events alone says of an operation, and of the delivery list.
use Rattle.std.specs.List.{list_all}
use Rattle.std.specs.Prelude.{◌==◌, ◌&&◌, ◌||◌, if◌then◌else◌, [], ◌∷◌, ℕ, Bool, List, None, Option, Some, false, length, not}
use Rattle.lego_msg.specs.Deliveries.{stops}
use Rattle.lego_msg.specs.Places.{is_issuer, memory, same_place}
use Rattle.lego_msg.specs.Track.{is_pending, pick_of}
use Rattle.lego_msg.specs.declared.body.Body.{Body}
use Rattle.lego_msg.specs.declared.body.Body.TheVariants.{Drained, LogFull}
use Rattle.lego_msg.specs.declared.event.Event.{Event}
use Rattle.lego_msg.specs.declared.event.Event.TheVariants.{Crash, Deliver}
use Rattle.lego_msg.specs.declared.message.Message.{Message}
use Rattle.lego_msg.specs.declared.place.Place.{Place}

-- the place in the pending list that the delivery list picks for the delivery with a number
abbrev pub place_picked : List ℕ → ℕ → ℕ → Option ℕ
place_picked deliveries number pending = if length deliveries == 0 || pending == 0 then None else Some (pick_of deliveries number pending)

-- in a write, a full log and a drained one aren't answers
abbrev pub is_reaction : Bool → Body → Bool
is_reaction write LogFull = write
is_reaction write Drained = write
is_reaction write other = false

-- whether a message is a place's answer to the operation with a number
abbrev pub is_answer : ℕ → Bool → Place → Message → Bool
is_answer number write place m = m.op.0 == number && is_issuer m.to && same_place place m.from && not (is_reaction write m.body) && not (stops m.body)

-- whether a place has answered after one more event: a crash of the place forgets its answers
abbrev pub answered_after : ℕ → Bool → Place → Bool → Event → Bool
answered_after number write place so_far (Deliver m) = is_answer number write place m || so_far
answered_after number write place so_far (Crash m inc) = not (same_place place (memory m.0)) && so_far
answered_after number write place so_far other = so_far

-- whether a place has answered an operation since its last crash, along some events
abbrev pub answered_along : ℕ → Bool → Place → Bool → List Event → Bool
answered_along number write place so_far [] = so_far
answered_along number write place so_far (e ∷ es) = answered_along number write place (answered_after number write place so_far e) es

abbrev pub has_answered_in : ℕ → Bool → Place → List Event → Bool
has_answered_in number write place es = answered_along number write place false es

abbrev pub all_answered_in : ℕ → Bool → List Place → List Event → Bool
all_answered_in number write targets es = list_all (λ (p : Place). has_answered_in number write p es) targets

-- An operation is complete where each target has answered since its last crash, and no message of it is pending.
abbrev pub is_complete_in : ℕ → Bool → List Place → List Event → List Message → Bool
is_complete_in number write targets es pending = all_answered_in number write targets es && not (is_pending number pending)
