-- The track after one more event, and after a list of events.
use Rattle.std.specs.Prelude.{[], ◌∷◌, List, None, drop}
use Rattle.lego_msg.specs.Completions.{completed}
use Rattle.lego_msg.specs.Crashes.{crashed}
use Rattle.lego_msg.specs.Deliveries.{comes, taken}
use Rattle.lego_msg.specs.Sends.{sent}
use Rattle.lego_msg.specs.ShownEvents.{accessed, filled_with, turned, with_line}
use Rattle.lego_msg.specs.Track.{Track}
use Rattle.lego_msg.specs.declared.event.Event.{Event}
use Rattle.lego_msg.specs.declared.event.Event.TheVariants.{Access, Complete, Crash, Deliver, Drop, Fill, Out, Send, Turn}

abbrev pub after : Track → Event → Track
after t (Turn number pid) = record t { due = drop 1 t.due; clock = turned t.shape number }
after t (Access cpu pid address kind bytes) = record t { due = drop 1 t.due; caches = accessed t.caches cpu.0 pid.0 address kind bytes }
after t (Fill pid address bytes) = record t { due = drop 1 t.due; caches = filled_with t.caches pid.0 address bytes }
after t (Drop cpu pid line) = record t { due = drop 1 t.due; caches = with_line cpu.0 pid.0 line.0 None t.caches }
after t (Send m) = sent t m t.owed t.healing t.current
after t (Deliver m) = comes (taken t) m m.to
after t (Crash number inc) = crashed t number.0
after t (Complete op) = completed t op.0 t.healing
after t (Out stream bytes) = record t { due = drop 1 t.due }

abbrev pub run : Track → List Event → Track
run t [] = t
run t (e ∷ events) = run (after t e) events
