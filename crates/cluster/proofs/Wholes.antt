-- The engine at rest as what contracts see of a cluster.
use Rattle.std.proofs.Common.{◌≡◌, ◌∷◌, Bool, List, Option, subst, sym}
use Rattle.lego_base.specs.declared.records.HomeEntry.{HomeEntry}
use Rattle.lego_base.specs.declared.stops.Halt.{Halt}
use Rattle.lego_msg.specs.Marks.{Call}
use Rattle.lego_msg.specs.declared.operation.Operation.{Operation}
use Rattle.lego_msg.specs.declared.place.Place.{Place}
use Rattle.protocol_engine.specs.Called.{IsSoundCall, called_track}
use Rattle.protocol_engine.specs.Sound.{Sound}
use Rattle.cluster.specs.InOrder.{whole_of}
use Rattle.protocol_engine.specs.Steps.{Rests}
use Rattle.protocol_engine.specs.Tracks.{Beyond, track_of}
use Rattle.cluster.specs.Whole.{SoundCall, called_at, track_at}
use Rattle.protocol_engine.specs.declared.engine.Engine.{Engine}

pub same_track : (e : Engine) (h : Option Halt) (g : Beyond) → Rests e → track_at (whole_of e h) g ≡ track_of e g
same_track e h g rests = λ i. record (track_of e g) { owed = sym rests.0 i; healing = sym rests.2 i; current = sym rests.3 i }

pub same_called : (e : Engine) (h : Option Halt) (by : Place) (operation : Operation) (g : Beyond) (before owners : List HomeEntry) (late : Bool) → Rests e →
    called_at (whole_of e h) by operation g before owners late ≡ called_track e by operation g before owners late
same_called e h by operation g before owners late rests = λ i. record (same_track e h g rests i) {
  owners = before;
  due = Call (record { by = by; operation = operation; owners = owners; late = late }) ∷ g.due;
}

pub sound_call : (e : Engine) (h : Option Halt) (by : Place) (operation : Operation) → Rests e → SoundCall (whole_of e h) by operation → IsSoundCall e by operation
sound_call e h by operation rests s = record {
  beyond = s.beyond;
  before = s.before;
  owners = s.owners;
  late = s.late;
  may = record { owned = s.may.owned; caches = s.may.caches; late_enough = s.may.late_enough; issuer = s.may.issuer };
  sound = subst Sound (same_called e h by operation s.beyond s.before s.owners s.late rests) s.sound;
}
