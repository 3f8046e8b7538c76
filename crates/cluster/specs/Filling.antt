-- The loader lays bytes into a page: they are shown, and then one operation writes them to the owner of the page's region.
use Rattle.std.specs.Prelude.{◌≡◌, ◌+◌, ◌/◌, ◌%◌, ◌<◌, ◌≤◌, ◌∷◌, ℕ, List, None, Option, Some, length}
use Rattle.lego_base.specs.declared.ids.MemId.{MemId}
use Rattle.lego_base.specs.declared.ids.Pid.{Pid}
use Rattle.lego_base.specs.declared.records.Patch.{Patch}
use Rattle.lego_base.specs.declared.stops.Halt.{Halt}
use Rattle.lego_msg.specs.Maps.{owner_of}
use Rattle.lego_msg.specs.Marks.{Call, Mark, Show, order}
use Rattle.lego_msg.specs.Plain.{IsMapped, Plain, with_patch}
use Rattle.lego_msg.specs.Track.{Track}
use Rattle.lego_msg.specs.Went.{Halted, Went}
use Rattle.lego_msg.specs.declared.event.Event.{Event}
use Rattle.lego_msg.specs.declared.event.Event.TheVariants.{Fill}
use Rattle.lego_msg.specs.declared.operation.Operation.TheVariants.{Writes}
use Rattle.lego_msg.specs.declared.place.Place.{Place}
use Rattle.protocol_engine.specs.Beyond.{Beyond}
use Rattle.cluster.specs.Whole.{Whole, track_at}
use Rattle.lego_msg.specs.declared.operation.Origin.TheVariants as origin

-- at least one byte, all of them in one page that is mapped
pub record FillFits (pid address : ℕ) (bytes : List ℕ) (f : Plain) : Type 0 where
  pub some : 0 < length bytes
  pub within : address % 4096 + length bytes ≤ 4096
  pub mapped : IsMapped f pid (address / 4096)

abbrev pub fill_patch : Pid → ℕ → List ℕ → Patch
fill_patch pid address bytes = record { pid = pid; vpn = record { 0 = address / 4096 }; off = address % 4096; bytes = bytes }

-- the owner is known from the table
abbrev pub owner_at : Whole → Pid → ℕ → Option MemId
owner_at w pid address = owner_of w.table.owners pid.0 (address / 4096 / 512)

-- ITS MARKS, and the track with them as the next ones
abbrev pub patch_written : Place → Patch → Option MemId → List Mark → List Mark
patch_written by patch None rest = rest
patch_written by patch (Some owner) rest = Call (order by (Writes origin.Fill patch owner)) ∷ rest

abbrev pub fill_at : Whole → Place → Pid → ℕ → List ℕ → Beyond → Track
fill_at w by pid address bytes g = record (track_at w g) {
  due = Show (Fill pid address bytes) ∷ patch_written by (fill_patch pid address bytes) (owner_at w pid address) g.due;
}

-- what is beyond the cluster then: the plain map has the bytes, and no fill waits to be written
abbrev pub filled_beyond : Pid → ℕ → List ℕ → Beyond → Beyond
filled_beyond pid address bytes g = record g { plain = with_patch (fill_patch pid address bytes) g.plain; caches = record g.caches { filled = None } }

-- IT IS DONE, or halts. `told` and `faults` are a watch's; w and w' are the watch before and after, c and d the cluster.
abbrev pub FillEnds : {W : Type 0} → (W → Option (List Event)) → (W → ℕ) → W → W → Whole → Whole → Place → Pid → ℕ → List ℕ → Type 0
FillEnds told faults w w' c d by pid address bytes = (g : Beyond) → Went told faults w w' (fill_at c by pid address bytes g) (track_at d (filled_beyond pid address bytes g))

abbrev pub FillHalts : {W : Type 0} → (W → Option (List Event)) → (W → ℕ) → W → W → Whole → Place → Pid → ℕ → List ℕ → Halt → Type 0
FillHalts told faults w w' c by pid address bytes h = c.halt ≡ None → (g : Beyond) → Halted told faults w w' h (fill_at c by pid address bytes g)

-- the bytes of a fill
abbrev pub bytes_in : Event → Option (List ℕ)
bytes_in (Fill pid address bytes) = Some bytes
bytes_in other = None
