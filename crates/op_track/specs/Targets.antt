-- Targets, and whether they have answered.
use Rattle.std.specs.Prelude.{if◌then◌else◌, Bool, List, false, map}
use Rattle.lego_msg.specs.Places.{same_place}
use Rattle.lego_msg.specs.declared.operation.Answer.{Answer}
use Rattle.lego_msg.specs.declared.place.Place.{Place}
use Rattle.lego_msg.specs.Track.{has_answered as is_answer_of}
use Rattle.op_track.specs.declared.op.Target.{Target}

abbrev pub has_answered : Target → Bool
has_answered target = target.answered

-- a target that hasn't answered
abbrev pub silent : Place → Target
silent place = record { place = place; answered = false }

-- a target with its flag set, where it is this place
abbrev pub set_to : Bool → Place → Target → Target
set_to answered place target = if same_place target.place place then record target { answered = answered } else target

-- the targets as a list of answers has them
abbrev pub by_answers : List Answer → List Place → List Target
by_answers answers targets = map (λ (place : Place). record { place = place; answered = is_answer_of place answers }) targets
