-- The beginning of a turn, and its end.
use Rattle.std.specs.Prelude.{◌≡◌, ◌∷◌, Bool, true}
use Rattle.lego_msg.specs.Marks.{Show, is_turn_end}
use Rattle.lego_msg.specs.Track.{Track, is_of_turn, next_crash}
use Rattle.lego_msg.specs.declared.event.Event.{Event}
use Rattle.protocol_engine.specs.Sound.{Sound}
use Rattle.protocol_engine.specs.Tracks.{Beyond, track_of}
use Rattle.protocol_engine.specs.declared.engine.Engine.{Engine}

-- a crash of this turn is still to come
abbrev pub is_left_in : Engine → Bool
is_left_in c = is_of_turn c.clock (next_crash c.shape c.clock)

-- an event is the next that is to be shown
abbrev pub shown_track : Engine → Event → Beyond → Track
shown_track c e g = record (track_of c g) { due = Show e ∷ g.due }

pub record IsSoundShow (c : Engine) (e : Event) : Type 0 where
  pub beyond : Beyond
  pub sound : Sound (shown_track c e beyond)

pub record IsSoundEnd (c : Engine) : Type 0 where
  pub beyond : Beyond
  pub over : is_turn_end beyond.due ≡ true
  pub sound : Sound (track_of c beyond)
