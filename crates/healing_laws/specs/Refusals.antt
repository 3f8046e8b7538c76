-- Why a component refuses so that the run stops, at any moment of a legal list, crashes and healing included: once the open
-- operation is complete there are more pages than the memory that owns them has frames, or more blocks than storage has. A
-- crash alone is no cause.
use Rattle.std.specs.List.{AllByRecursion}
use Rattle.std.specs.Prelude.{◌≡◌, ◌⊎◌, ℕ, List, None, Some, false, slice_get, true}
use Rattle.lego_msg.specs.Deliveries.{stops}
use Rattle.lego_msg.specs.Files.{is_room}
use Rattle.lego_msg.specs.Legal.{Legal, May}
use Rattle.lego_msg.specs.Places.{memory}
use Rattle.lego_msg.specs.Run.{run}
use Rattle.lego_msg.specs.State.{Mem}
use Rattle.lego_msg.specs.Table.{handled, stored}
use Rattle.lego_msg.specs.Track.{Track}
use Rattle.lego_msg.specs.declared.body.Body.TheVariants.{Refused}
use Rattle.lego_msg.specs.declared.event.Event.{Event}
use Rattle.lego_msg.specs.declared.event.Event.TheVariants.{Deliver}
use Rattle.lego_msg.specs.declared.message.Message.{Message}
use Rattle.lego_rest.specs.Parts.{plain_with}
use Rattle.lego_rest.specs.Rest.{AtRest}
use Rattle.rest_laws.specs.Causes.{IsTooMuch}
use Rattle.healing_laws.specs.Running.{GrantedAll}
use Rattle.lego_msg.specs.declared.place.Place.TheVariants as place
use Rattle.lego_msg.specs.declared.place.Why.TheVariants as why

-- What a memory or storage sends for a message, at any moment of a legal list.
abbrev pub MemoryCauses : Track → ℕ → Mem → List Message → Type 0
MemoryCauses now k s out = AllByRecursion (λ (r : Message). stops r.body ≡ true → IsTooMuch now.owners (plain_with now.current now.plain) k s.frames) out

abbrev pub StorageCauses : Track → List Message → Type 0
StorageCauses now out = AllByRecursion (λ (r : Message). stops r.body ≡ true → is_room now.plain.files (plain_with now.current now.plain).files.files ≡ false) out

abbrev pub RefusalsHaveCausesThere : Type 0
RefusalsHaveCausesThere = (t : Track) (events : List Event) (m : Message) → AtRest t → Legal t events → GrantedAll t events → May (run t events) (Deliver m) →
    ((k : ℕ) (s : Mem) → m.to ≡ memory k → slice_get (run t events).mems k ≡ Some s → MemoryCauses (run t events) k s (handled s m).1)
    × (m.to ≡ place.Storage → StorageCauses (run t events) (stored (run t events).disk m).1)

-- A REFUSAL THAT IS ON ITS WAY has its cause as long as it is: it is of a memory that is full, or of storage.
pub record IsMemoryRefusal (now : Track) (x : Message) : Type 0 where
  pub k : ℕ
  pub s : Mem
  pub from : x.from ≡ memory k
  pub told : x.body ≡ Refused why.Full
  pub at : slice_get now.mems k ≡ Some s
  pub full : IsTooMuch now.owners (plain_with now.current now.plain) k s.frames

pub record IsStorageRefusal (now : Track) (x : Message) : Type 0 where
  pub from : x.from ≡ place.Storage
  pub told : x.body ≡ Refused why.StoreFull
  pub full : is_room now.plain.files (plain_with now.current now.plain).files.files ≡ false

abbrev pub HasCauseNow : Track → Message → Type 0
HasCauseNow now x = stops x.body ≡ true → IsMemoryRefusal now x ⊎ IsStorageRefusal now x

abbrev pub PendingRefusalsHaveCauses : Type 0
PendingRefusalsHaveCauses = (t : Track) (events : List Event) → AtRest t → Legal t events → GrantedAll t events →
    AllByRecursion (HasCauseNow (run t events)) (run t events).net

-- A MEMORY'S FRAMES are always as many as the machine gives it.
abbrev pub FramesAreTheMachines : Type 0
FramesAreTheMachines = (t : Track) (events : List Event) → AtRest t → Legal t events → GrantedAll t events →
    (k : ℕ) (s : Mem) → slice_get (run t events).mems k ≡ Some s → slice_get (run t events).shape.frames k ≡ Some s.frames

-- THE PLAIN MAP itself is never too much for a memory's frames, whether or not that memory is being healed.
abbrev pub PlainMapsFit : Type 0
PlainMapsFit = (t : Track) (events : List Event) → AtRest t → Legal t events → GrantedAll t events →
    (k : ℕ) (s : Mem) → slice_get (run t events).mems k ≡ Some s → IsTooMuch (run t events).owners (run t events).plain k s.frames → ⊥

-- So with nothing open nothing refuses so that the run stops, also while a memory is healed.
abbrev pub GoesOn : List Message → Type 0
GoesOn out = AllByRecursion (λ (r : Message). stops r.body ≡ false) out

abbrev pub CrashesAloneRefuseNothing : Type 0
CrashesAloneRefuseNothing = (t : Track) (events : List Event) (m : Message) → AtRest t → Legal t events → GrantedAll t events → May (run t events) (Deliver m) → (run t events).current ≡ None →
    ((k : ℕ) (s : Mem) → m.to ≡ memory k → slice_get (run t events).mems k ≡ Some s → GoesOn (handled s m).1)
    × (m.to ≡ place.Storage → GoesOn (stored (run t events).disk m).1)
