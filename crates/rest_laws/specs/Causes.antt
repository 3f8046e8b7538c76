-- Where nothing is lost, a refusal that stops the run has its cause: a memory would hold more pages than it has frames, or
-- the files would need more blocks than storage has.
use Rattle.std.specs.List.{AllByRecursion}
use Rattle.std.specs.Prelude.{◌≡◌, ◌⊎◌, ◌/◌, ◌<◌, ◌∷◌, ℕ, List, Some, false, length, slice_get, true}
use Rattle.lego_base.specs.Keys.{Rises}
use Rattle.lego_base.specs.declared.records.HomeEntry.{HomeEntry}
use Rattle.lego_base.specs.declared.records.PageImage.{PageImage}
use Rattle.lego_msg.specs.Deliveries.{stops}
use Rattle.lego_msg.specs.Files.{is_room}
use Rattle.lego_msg.specs.Legal.{Legal}
use Rattle.lego_msg.specs.Maps.{page_key}
use Rattle.lego_msg.specs.Marks.{Mark, Order}
use Rattle.lego_msg.specs.Places.{memory}
use Rattle.lego_msg.specs.Plain.{Plain, effect, touched}
use Rattle.lego_msg.specs.Run.{run}
use Rattle.lego_msg.specs.State.{Mem}
use Rattle.lego_msg.specs.Track.{Track}
use Rattle.lego_msg.specs.declared.event.Event.{Event}
use Rattle.lego_msg.specs.declared.event.Event.TheVariants.{Send}
use Rattle.lego_msg.specs.declared.message.Message.{Message}
use Rattle.lego_rest.specs.Parts.{owns}
use Rattle.rest_laws.specs.GoingOn.{IsDue, IsOfMessages, owners_with}
use Rattle.lego_msg.specs.declared.place.Place.TheVariants as place

-- of a plain map: more pages that memory k owns are there than it has frames
pub record IsTooMuch (owners : List HomeEntry) (g : Plain) (k frames : ℕ) : Type 0 where
  pub pages : List PageImage
  pub rise : Rises page_key pages
  pub more : frames < length pages
  pub there : AllByRecursion (λ (p : PageImage). (owns owners k p.pid.0 (p.vpn.0 / 512) ≡ true) × (touched g p.pid.0 p.vpn.0 ≡ true)) pages

-- the memory that refuses, as it was at rest
pub record IsMemoryFull (t : Track) (owners : List HomeEntry) (g : Plain) (x : Message) : Type 0 where
  pub k : ℕ
  pub s : Mem
  pub from : x.from ≡ memory k
  pub at : slice_get t.mems k ≡ Some s
  pub full : IsTooMuch owners g k s.frames

-- the plain map that is meant is the one once the operation is complete
abbrev pub HasCause : Track → Order → Message → Type 0
HasCause t o x = IsMemoryFull t (owners_with o t.owners) (effect o.operation t.plain) x
    ⊎ ((x.from ≡ place.Storage) × (is_room t.disk.files (effect o.operation t.plain).files.files ≡ false))

abbrev pub RefusalsHaveCauses : Type 0
RefusalsHaveCauses = (t : Track) (o : Order) (rest : List Mark) (m : Message) (events : List Event) →
    IsDue t o rest → Legal t (Send m ∷ events) → AllByRecursion IsOfMessages events →
    AllByRecursion (λ (x : Message). stops x.body ≡ true → HasCause t o x) (run t (Send m ∷ events)).net
