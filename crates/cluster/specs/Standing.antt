-- A cluster at rest: the plain map that it stands for, and what the caller of an operation owes there.
use Rattle.std.specs.Prelude.{◌≡◌, [], List}
use Rattle.lego_base.specs.Keys.{put_all}
use Rattle.lego_base.specs.declared.records.HomeEntry.{HomeEntry}
use Rattle.lego_msg.specs.Granted.{Granted}
use Rattle.lego_msg.specs.Maps.{home_key}
use Rattle.lego_msg.specs.Plain.{Plain}
use Rattle.lego_msg.specs.Sends.{FitsCaches}
use Rattle.lego_msg.specs.Track.{Caches}
use Rattle.lego_msg.specs.declared.operation.Operation.{Operation}
use Rattle.lego_msg.specs.declared.place.Place.{Place}
use Rattle.lego_rest.specs.Rest.{AtRest}
use Rattle.protocol_engine.specs.Beyond.{Beyond, nothing_cached}
use Rattle.cluster.specs.Whole.{Whole, track_at}

-- this plain map alone
abbrev pub alone : Plain → Beyond
alone f = record { plain = f; caches = nothing_cached; due = [] }

-- The cluster is at rest and stands for this plain map: each memory holds its share of it, and its secondary with storage
-- holds it once more. Caches and what is due make no difference to it.
abbrev pub StandsFor : Whole → Plain → Type 0
StandsFor w f = AtRest (track_at w (alone f))

abbrev pub IsAtRest : Whole → Type 0
IsAtRest w = (f : Plain) × StandsFor w f

-- and that plain map is as an operation asks
abbrev pub IsAtRestWith : Whole → (Plain → Type 0) → Type 0
IsAtRestWith w P = (f : Plain) × StandsFor w f × P f

-- AN OPERATION is granted there, with the owners of regions that come with it
pub record IsGrantedWith (new : List HomeEntry) (w : Whole) (f : Plain) (by : Place) (operation : Operation) : Type 0 where
  pub stands : StandsFor w f
  pub granted : Granted (track_at w (alone f)) by operation (put_all home_key new w.table.owners)

-- What its caller owes: that it is granted, and that its processor's cache is as it must be.
pub record MayAskWith (new : List HomeEntry) (w : Whole) (by : Place) (operation : Operation) : Type 0 where
  pub plain : Plain
  pub caches : Caches
  pub granted : IsGrantedWith new w plain by operation
  pub fits : FitsCaches caches by operation

-- most bring none
abbrev pub IsGrantedAt : Whole → Plain → Place → Operation → Type 0
IsGrantedAt w f by operation = IsGrantedWith [] w f by operation

abbrev pub MayAsk : Whole → Place → Operation → Type 0
MayAsk w by operation = MayAskWith [] w by operation

-- THE OWNERS that come with an operation are in the table already; `c` is the cluster without them.
pub record Brings (new : List HomeEntry) (c w : Whole) : Type 0 where
  pub same : w ≡ record c { table = w.table }
  pub owned : put_all home_key new c.table.owners ≡ w.table.owners

pub record MayBring (w : Whole) (by : Place) (operation : Operation) : Type 0 where
  pub new : List HomeEntry
  pub before : Whole
  pub brings : Brings new before w
  pub may : MayAskWith new before by operation
