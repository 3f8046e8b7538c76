-- An operation that is called for, as the engine begins it. The owners that come with it are in its table already: `before`
-- are those without them.
use Rattle.std.specs.Prelude.{◌≡◌, ◌&&◌, ◌∷◌, Bool, List, None, false, true}
use Rattle.lego_base.specs.Keys.{put_all}
use Rattle.lego_base.specs.declared.records.HomeEntry.{HomeEntry}
use Rattle.lego_msg.specs.Maps.{home_key}
use Rattle.lego_msg.specs.Marks.{Call}
use Rattle.lego_msg.specs.Places.{is_issuer}
use Rattle.lego_msg.specs.Sends.{FitsCaches}
use Rattle.lego_msg.specs.Track.{Track, is_of_turn, next_crash}
use Rattle.lego_msg.specs.declared.operation.Operation.{Operation}
use Rattle.lego_msg.specs.declared.place.Place.{Place}
use Rattle.protocol_engine.specs.Sound.{Sound}
use Rattle.protocol_engine.specs.Tracks.{Beyond, track_of}
use Rattle.protocol_engine.specs.declared.engine.Engine.{Engine}

-- what its caller owes
pub record MayCall (c : Engine) (by : Place) (operation : Operation) (g : Beyond) (before owners : List HomeEntry) (late : Bool) : Type 0 where
  pub owned : put_all home_key owners before ≡ c.table.owners
  pub caches : FitsCaches g.caches by operation
  pub late_enough : (late && is_of_turn c.clock (next_crash c.shape c.clock)) ≡ false
  pub issuer : is_issuer by ≡ true

-- it is the next of the marks
abbrev pub called_track : Engine → Place → Operation → Beyond → List HomeEntry → List HomeEntry → Bool → Track
called_track c by operation g before owners late = record (track_of c g) {
  owners = before;
  due = Call (record { by = by; operation = operation; owners = owners; late = late }) ∷ g.due;
}

abbrev pub begun_beyond : Beyond → Beyond
begun_beyond g = record g { caches = record g.caches { filled = None } }

-- it may be called for, and the engine's track is sound then
pub record IsSoundCall (c : Engine) (by : Place) (operation : Operation) : Type 0 where
  pub beyond : Beyond
  pub before : List HomeEntry
  pub owners : List HomeEntry
  pub late : Bool
  pub may : MayCall c by operation beyond before owners late
  pub sound : Sound (called_track c by operation beyond before owners late)
