-- Which event may come next, and which lists of events are legal. A list that is cut off is legal too: each of
-- its events is where it may be, and what must follow the last one may be missing.
use Rattle.std.specs.Prelude.{◌≡◌, ◌/◌, [], ◌∷◌, List, false, is_some, true}
use Rattle.lego_msg.specs.Completions.{MayComplete}
use Rattle.lego_msg.specs.Crashes.{MayCrash}
use Rattle.lego_msg.specs.Deliveries.{MayDeliver}
use Rattle.lego_msg.specs.Run.{after}
use Rattle.lego_msg.specs.Sends.{MaySend}
use Rattle.lego_msg.specs.ShownEvents.{InLine, MayShow}
use Rattle.lego_msg.specs.Track.{Track, is_crash_left}
use Rattle.lego_msg.specs.declared.event.Event.{Event}
use Rattle.lego_msg.specs.declared.event.Event.TheVariants.{Access, Complete, Crash, Deliver, Drop, Fill, Out, Send, Turn}

-- this event may come next
abbrev pub May : Track → Event → Type 0
May t (Turn number pid) = MayShow t (Turn number pid) × (is_crash_left t ≡ false)
May t (Access cpu pid address kind bytes) = MayShow t (Access cpu pid address kind bytes) × InLine (t.caches.line cpu.0 pid.0 (address / 64)) address kind bytes
May t (Fill pid address bytes) = MayShow t (Fill pid address bytes)
May t (Drop cpu pid line) = MayShow t (Drop cpu pid line) × (is_some (t.caches.line cpu.0 pid.0 line.0) ≡ true)
May t (Send m) = MaySend t m t.owed t.healing t.current
May t (Deliver m) = MayDeliver t m
May t (Crash number inc) = MayCrash t number.0 inc
May t (Complete op) = MayComplete t op
May t (Out stream bytes) = MayShow t (Out stream bytes)

-- these events may come, one after the other
abbrev pub Legal : Track → List Event → Type 0
Legal t [] = Unit {0}
Legal t (e ∷ events) = May t e × Legal (after t e) events
