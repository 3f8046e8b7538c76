-- What a reader may ask of the targets of an operation.
use Rattle.std.specs.List.{list_all}
use Rattle.std.specs.Prelude.{◌≡◌, ◌==◌, ◌&&◌, if◌then◌else◌, [], ◌∷◌, ℕ, Bool, List, false, map, not, true}
use Rattle.lego_msg.specs.Deliveries.{stops}
use Rattle.lego_msg.specs.Judged.{all_answered_in, has_answered_in, is_reaction}
use Rattle.lego_msg.specs.Places.{is_issuer, memory}
use Rattle.lego_msg.specs.Track.{all_answered, forget}
use Rattle.lego_msg.specs.declared.event.Event.{Event}
use Rattle.lego_msg.specs.declared.event.Event.TheVariants.{Crash, Deliver}
use Rattle.lego_msg.specs.declared.message.Message.{Message}
use Rattle.lego_msg.specs.declared.operation.Answer.{Answer}
use Rattle.lego_msg.specs.declared.place.Place.{Place}
use Rattle.op_track.specs.Targets.{by_answers, has_answered, set_to, silent}
use Rattle.op_track.specs.declared.op.Target.{Target}

-- The targets and the list of the answers that count say the same: with no answer, after one more, after those of a
-- place are forgotten; and all targets have answered by the one where they have by the other.
pub record SaysTheSame (targets : List Place) (answers : List Answer) : Type 0 where
  pub none : map silent targets ≡ by_answers [] targets
  pub one_more : (a : Answer) → map (set_to true a.place) (by_answers answers targets) ≡ by_answers (a ∷ answers) targets
  pub crash : (place : Place) → map (set_to false place) (by_answers answers targets) ≡ by_answers (forget place answers) targets
  pub all : list_all has_answered (by_answers answers targets) ≡ all_answered targets answers

abbrev pub FlagsFollowTheAnswers : Type 0
FlagsFollowTheAnswers = (targets : List Place) (answers : List Answer) → SaysTheSame targets answers

-- whether a message that an issuer gets is an answer to the operation with a number
abbrev pub counts : ℕ → Bool → Message → Bool
counts number write m = m.op.0 == number && is_issuer m.to && not (is_reaction write m.body) && not (stops m.body)

-- the targets after an event: an answer sets the flag of its sender, and a crash clears that of the memory
abbrev pub noticed : ℕ → Bool → Event → List Target → List Target
noticed number write (Deliver m) targets = if counts number write m then map (set_to true m.from) targets else targets
noticed number write (Crash m inc) targets = map (set_to false (memory m.0)) targets
noticed number write other targets = targets

abbrev pub noticed_along : ℕ → Bool → List Event → List Target → List Target
noticed_along number write [] targets = targets
noticed_along number write (e ∷ events) targets = noticed_along number write events (noticed number write e targets)

-- the targets as a list of events has them
abbrev pub by_events : ℕ → Bool → List Event → List Place → List Target
by_events number write events targets = map (λ (place : Place). record { place = place; answered = has_answered_in number write place events }) targets

pub record FollowsTheEvents (number : ℕ) (write : Bool) (targets : List Place) (events : List Event) : Type 0 where
  pub flags : noticed_along number write events (map silent targets) ≡ by_events number write events targets
  pub all : list_all has_answered (noticed_along number write events (map silent targets)) ≡ all_answered_in number write targets events

abbrev pub FlagsFollowTheEvents : Type 0
FlagsFollowTheEvents = (number : ℕ) (write : Bool) (targets : List Place) (events : List Event) → FollowsTheEvents number write targets events
