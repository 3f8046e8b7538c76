-- What contracts see of a cluster between calls: what its components hold, what is pending, and how far the run is.
use Rattle.std.specs.Prelude.{◌≡◌, ◌&&◌, [], ◌∷◌, ℕ, Bool, List, None, Option, Some, false, true}
use Rattle.lego_base.specs.declared.shape.Shape.{Shape}
use Rattle.lego_base.specs.declared.stops.Halt.{Halt}
use Rattle.lego_base.specs.Keys.{put_all}
use Rattle.lego_base.specs.declared.records.HomeEntry.{HomeEntry}
use Rattle.lego_msg.specs.Maps.{home_key}
use Rattle.lego_msg.specs.Marks.{Call, Show}
use Rattle.lego_msg.specs.Places.{is_issuer}
use Rattle.lego_msg.specs.Sends.{FitsCaches}
use Rattle.lego_msg.specs.State.{Disk, Mem}
use Rattle.lego_msg.specs.Track.{Track, is_of_turn, next_crash}
use Rattle.lego_msg.specs.declared.clock.Clock.{Clock}
use Rattle.lego_msg.specs.declared.event.Event.{Event}
use Rattle.lego_msg.specs.declared.message.Message.{Message}
use Rattle.lego_msg.specs.declared.operation.Operation.{Operation}
use Rattle.lego_msg.specs.declared.place.Place.{Place}
use Rattle.placement.specs.Owners.{Owned}
use Rattle.protocol_engine.specs.Beyond.{Beyond}
use Rattle.protocol_engine.specs.Sound.{Sound}
use Rattle.lego_base.specs.declared.stops.Halt.TheVariants as halt

pub record Whole : Type 0 where
  pub shape : Shape
  pub mems : List Mem
  pub disk : Disk
  pub net : List Message
  pub delivered : ℕ
  pub next : ℕ
  pub clock : Clock
  pub table : Owned
  -- the halt that every further call gives
  pub halt : Option Halt

-- its track: nothing is owed, open or healing between calls
abbrev pub track_at : Whole → Beyond → Track
track_at w g = record {
  shape = w.shape;
  mems = w.mems;
  disk = w.disk;
  net = w.net;
  owed = [];
  delivered = w.delivered;
  next = w.next;
  current = None;
  healing = None;
  clock = w.clock;
  stopped = false;
  owners = w.table.owners;
  plain = g.plain;
  caches = g.caches;
  due = g.due;
}

-- whose turn it is to own a region is the same
pub record SameTurns (old new : Owned) : Type 0 where
  pub memories : new.memories ≡ old.memories
  pub placement : new.placement ≡ old.placement
  pub given : new.given ≡ old.given

-- with an event to be shown next
abbrev pub shown_at : Whole → Event → Beyond → Track
shown_at w e g = record (track_at w g) { due = Show e ∷ g.due }

-- a crash of the turn that runs is still to come
abbrev pub is_left_at : Whole → Bool
is_left_at w = is_of_turn w.clock (next_crash w.shape w.clock)

-- AN OPERATION that is called for: what its caller owes, and the track with it as the next mark. The owners that come with it
-- are in the table already: `before` are those without them.
pub record MayCallAt (w : Whole) (by : Place) (operation : Operation) (g : Beyond) (before owners : List HomeEntry) (late : Bool) : Type 0 where
  pub owned : put_all home_key owners before ≡ w.table.owners
  pub caches : FitsCaches g.caches by operation
  pub late_enough : (late && is_left_at w) ≡ false
  pub issuer : is_issuer by ≡ true

abbrev pub called_at : Whole → Place → Operation → Beyond → List HomeEntry → List HomeEntry → Bool → Track
called_at w by operation g before owners late = record (track_at w g) {
  owners = before;
  due = Call (record { by = by; operation = operation; owners = owners; late = late }) ∷ g.due;
}

pub record SoundCall (w : Whole) (by : Place) (operation : Operation) : Type 0 where
  pub beyond : Beyond
  pub before : List HomeEntry
  pub owners : List HomeEntry
  pub late : Bool
  pub may : MayCallAt w by operation beyond before owners late
  pub sound : Sound (called_at w by operation beyond before owners late)

-- that memory ran out is kept where no halt is
abbrev pub or_out_of_memory : Option Halt → Option Halt
or_out_of_memory None = Some halt.NoMemory
or_out_of_memory (Some h) = Some h
