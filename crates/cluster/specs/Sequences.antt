-- What a call of several operations says, one after the other. None but the last of them reads a line.
use Rattle.std.specs.Prelude.{◌≡◌, ◌<◌, ◌&&◌, [], ◌∷◌, ℕ, Bool, Err, IfErr, IfOk, List, None, OnOk, Option, Result, Some, false, true}
use Rattle.lego_base.specs.Keys.{put, put_all}
use Rattle.lego_base.specs.declared.records.HomeEntry.{HomeEntry}
use Rattle.lego_base.specs.declared.stops.Halt.{Halt}
use Rattle.lego_msg.specs.Completions.{owners_after}
use Rattle.lego_msg.specs.Granted.{IsThere, OpFits}
use Rattle.lego_msg.specs.Maps.{home_key, owner_of}
use Rattle.lego_msg.specs.Marks.{Call, Mark}
use Rattle.lego_msg.specs.Places.{is_issuer}
use Rattle.lego_msg.specs.Plain.{Plain, effect}
use Rattle.lego_msg.specs.Replies.{IsReply}
use Rattle.lego_msg.specs.Sends.{FitsCaches}
use Rattle.lego_msg.specs.Track.{Caches, Track, memory_count}
use Rattle.lego_msg.specs.Went.{Halted, Went}
use Rattle.lego_msg.specs.declared.body.Body.{Body}
use Rattle.lego_msg.specs.declared.body.Body.TheVariants.{Done}
use Rattle.lego_msg.specs.declared.event.Event.{Event}
use Rattle.lego_msg.specs.declared.operation.Operation.{Operation}
use Rattle.lego_msg.specs.declared.operation.Operation.TheVariants.{Reads}
use Rattle.lego_msg.specs.declared.place.Place.{Place}
use Rattle.placement.specs.Owners.{Owned}
use Rattle.protocol_engine.specs.Beyond.{Beyond}
use Rattle.cluster.specs.Calls.{caches_after, served}
use Rattle.cluster.specs.Logs.{AreDrained, AreEmpty, drained_after}
use Rattle.cluster.specs.Standing.{Brings, StandsFor}
use Rattle.cluster.specs.Whole.{SameTurns, Whole, is_left_at, track_at}

-- an operation, with the owners of regions that come with it
pub record Asking : Type 0 where
  pub operation : Operation
  pub owners : List HomeEntry

-- most bring none
abbrev pub free : Operation → Asking
free o = record { operation = o; owners = [] }

abbrev pub all_free : List Operation → List Asking
all_free [] = []
all_free (o ∷ operations) = free o ∷ all_free operations

-- the first brings all that come
abbrev pub with_new : List HomeEntry → List Operation → List Asking
with_new new [] = []
with_new new (o ∷ operations) = record { operation = o; owners = new } ∷ all_free operations

-- their marks, and then others
abbrev pub called_for : Place → Bool → List Asking → List Mark → List Mark
called_for by late [] rest = rest
called_for by late (a ∷ asks) rest = Call (record { by = by; operation = a.operation; owners = a.owners; late = late }) ∷ called_for by late asks rest

abbrev pub all_asked_at : Whole → Place → List Asking → Beyond → Bool → Track
all_asked_at w by asks g late = record (track_at w g) { due = called_for by late asks g.due }

-- the plain map, the owners, the empty logs and what is beyond the cluster once they are complete
abbrev pub effects_of : List Asking → Plain → Plain
effects_of [] f = f
effects_of (a ∷ asks) f = effects_of asks (effect a.operation f)

abbrev pub owners_after_all : List Asking → List HomeEntry → List HomeEntry
owners_after_all [] owners = owners
owners_after_all (a ∷ asks) owners = owners_after_all asks (owners_after a.operation (put_all home_key a.owners owners))

abbrev pub drained_after_all : List Asking → List ℕ → List ℕ
drained_after_all [] drained = drained
drained_after_all (a ∷ asks) drained = drained_after_all asks (drained_after a.operation drained)

abbrev pub served_each : Place → List Asking → Beyond → Beyond
served_each by [] g = g
served_each by (a ∷ asks) g = served_each by asks (served by a.operation Done g)

-- where they may be asked for: the caches are as each of them needs
abbrev pub CachesFit : Caches → Place → List Asking → Type 0
CachesFit caches by [] = Unit {0}
CachesFit caches by (a ∷ asks) = FitsCaches caches by a.operation × CachesFit (caches_after by a.operation Done (record caches { filled = None })) by asks

pub record MayComeAll (w : Whole) (by : Place) (asks : List Asking) (g : Beyond) (late : Bool) : Type 0 where
  pub caches : CachesFit g.caches by asks
  pub late_enough : (late && is_left_at w) ≡ false

-- WHAT THEIR CALLER OWES of owners, of the plain map and of logs: each is granted where those before it lead.

-- new owners are of regions that have none, and are memories that are there
abbrev pub Adds : ℕ → List HomeEntry → List HomeEntry → Type 0
Adds n owners [] = Unit {0}
Adds n owners (e ∷ new) = (owner_of owners e.pid.0 e.region.0 ≡ None) × (e.owner.0 < n) × Adds n (put home_key e owners) new

abbrev pub AllFit : ℕ → List HomeEntry → Plain → List ℕ → List Asking → Type 0
AllFit n owners f drained [] = Unit {0}
AllFit n owners f drained (a ∷ asks) =
    Adds n owners a.owners × IsThere n a.operation × OpFits (put_all home_key a.owners owners) f a.operation × AreDrained n drained a.operation
    × AllFit n (owners_after a.operation (put_all home_key a.owners owners)) (effect a.operation f) (drained_after a.operation drained) asks

pub record AllGranted (w : Whole) (f : Plain) (by : Place) (asks : List Asking) : Type 0 where
  pub stands : StandsFor w f
  pub issuer : is_issuer by ≡ true
  -- the logs that are known to be empty
  pub drained : List ℕ
  pub empty : AreEmpty w.mems drained
  pub fit : AllFit (memory_count w.shape) w.table.owners f drained asks

pub record MayAskEach (w : Whole) (by : Place) (asks : List Asking) : Type 0 where
  pub plain : Plain
  pub caches : Caches
  pub granted : AllGranted w plain by asks
  pub fits : CachesFit caches by asks

-- an operation that brings owners, and then others that bring none
abbrev pub brought : List HomeEntry → Operation → List Operation → List Asking
brought new first rest = record { operation = first; owners = new } ∷ all_free rest

pub record MayBringAll (w : Whole) (by : Place) (first : Operation) (rest : List Operation) : Type 0 where
  pub new : List HomeEntry
  pub before : Whole
  pub brings : Brings new before w
  pub may : MayAskEach before by (brought new first rest)

-- ALL OF THEM ARE COMPLETE
pub record ServesEach {W : Type 0} (told : W → Option (List Event)) (faults : W → ℕ) (w w' : W) (c d : Whole) (by : Place) (asks : List Asking) (beyond : Beyond → Beyond) : Type 0 where
  -- the events that were shown lead from where the first is asked for to where the last is complete
  pub went : (g : Beyond) (late : Bool) → MayComeAll c by asks g late → Went told faults w w' (all_asked_at c by asks g late) (track_at d (beyond g))
  -- the cluster is at rest again; their effects on its plain map are all that is new
  pub stands : (f : Plain) → AllGranted c f by asks → StandsFor d (effects_of asks f)
  pub logs : (drained : List ℕ) → AreEmpty c.mems drained → AreEmpty d.mems (drained_after_all asks drained)
  -- the machine is the same, and so are the owners, but for the new ones and for those of spaces that are dropped
  pub shape : d.shape ≡ c.shape
  pub owners : d.table.owners ≡ owners_after_all asks c.table.owners

-- one of them halts, or memory runs out between them
abbrev pub EachHalts : {W : Type 0} → (W → Option (List Event)) → (W → ℕ) → W → W → Whole → Place → List Asking → Halt → Type 0
EachHalts told faults w w' c by asks h = c.halt ≡ None → (g : Beyond) (late : Bool) → MayComeAll c by asks g late →
    Halted told faults w w' h (all_asked_at c by asks g late)

-- HOW A CALL OF SEVERAL OPERATIONS ENDS, where `beyond` is what its value makes of what is beyond the cluster, and `table` the
-- table with all new owners. A halt that is kept is given again, with nothing done; one that comes is kept.
pub record CallsEach (table : Owned) {W X : Type 0} (told : W → Option (List Event)) (faults : W → ℕ) (w w' : W) (c d : Whole) (by : Place) (asks : List Asking) (beyond : X → Beyond → Beyond) (result : Result X Halt) : Type 0 where
  pub serves : IfOk result (λ x. ServesEach told faults w w' c d by asks (beyond x))
  pub turns : OnOk result (SameTurns table d.table)
  pub halted : IfErr result (EachHalts told faults w w' c by asks)
  pub kept : (h : Halt) → c.halt ≡ Some h → (result ≡ Err h) × (d.halt ≡ Some h) × (w' ≡ w)
  pub keeps : IfErr result (λ h. d.halt ≡ Some h)
  pub goes : OnOk result ((c.halt ≡ None) × (d.halt ≡ None))

-- OPERATIONS THAT BRING NO OWNERS
abbrev pub effects : List Operation → Plain → Plain
effects operations f = effects_of (all_free operations) f

abbrev pub all_served : Place → List Operation → Beyond → Beyond
all_served by operations g = served_each by (all_free operations) g

abbrev pub FitEach : Caches → Place → List Operation → Type 0
FitEach caches by operations = CachesFit caches by (all_free operations)

abbrev pub FitAll : ℕ → List HomeEntry → Plain → List ℕ → List Operation → Type 0
FitAll n owners f drained operations = AllFit n owners f drained (all_free operations)

abbrev pub AreGrantedAt : Whole → Plain → Place → List Operation → Type 0
AreGrantedAt w f by operations = AllGranted w f by (all_free operations)

abbrev pub MayAskAll : Whole → Place → List Operation → Type 0
MayAskAll w by operations = MayAskEach w by (all_free operations)

abbrev pub ServesAll : {W : Type 0} → (W → Option (List Event)) → (W → ℕ) → W → W → Whole → Whole → Place → List Operation → (Beyond → Beyond) → Type 0
ServesAll told faults w w' c d by operations beyond = ServesEach told faults w w' c d by (all_free operations) beyond

abbrev pub CallsAll : {W X : Type 0} → (W → Option (List Event)) → (W → ℕ) → W → W → Whole → Whole → Place → List Operation → (X → Beyond → Beyond) → Result X Halt → Type 0
CallsAll told faults w w' c d by operations beyond result = CallsEach c.table told faults w w' c d by (all_free operations) beyond result

-- each answer is true of the plain map that those before it leave
abbrev pub AreReplies : Plain → List Operation → List Body → Type 0
AreReplies f [] [] = Unit {0}
AreReplies f [] (body ∷ bodies) = ⊥
AreReplies f (o ∷ operations) [] = ⊥
AreReplies f (o ∷ operations) (body ∷ bodies) = IsReply f o body × AreReplies (effect o f) operations bodies

-- none of them reads a line
abbrev pub ReadsNoLine : Operation → Type 0
ReadsNoLine (Reads pid line owner) = ⊥
ReadsNoLine other = Unit {0}

abbrev pub ReadNoLine : List Operation → Type 0
ReadNoLine [] = Unit {0}
ReadNoLine (o ∷ operations) = ReadsNoLine o × ReadNoLine operations
