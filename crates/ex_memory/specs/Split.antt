-- What contracts see of the processors over a cluster, and the plain map that the cluster stands for, cell by cell.
use Rattle.std.specs.Prelude.{◌/◌, [], ℕ, List, None, Option, Some, slice_get}
use Rattle.lego_base.specs.declared.ids.MemId.{MemId}
use Rattle.lego_msg.specs.Maps.{owner_of}
use Rattle.lego_msg.specs.Places.{home_of}
use Rattle.lego_msg.specs.Plain.{Plain}
use Rattle.lego_msg.specs.State.{Mem}
use Rattle.lego_msg.specs.Track.{memory_count}
use Rattle.lego_msg.specs.declared.place.Place.{Place}
use Rattle.lego_rest.specs.Parts.{Areas, Cell, Held, Home, Page, main_part, nothing_at}
use Rattle.line_cache.specs.Cached.{Cached}
use Rattle.cluster.specs.Whole.{Whole}

pub record Split : Type 0 where
  pub whole : Whole
  -- by number of the processor
  pub caches : List Cached
  -- who issues operations: the processor of the turn's process, or in turn 0 the manager
  pub by : Place

-- what a memory has of a cell for its own sake
abbrev pub cell_in : Option Mem → (c : Cell) → Held c
cell_in None c = nothing_at c
cell_in (Some s) c = main_part s c

-- the owner of a region has its areas and pages
abbrev pub cell_of : Whole → Option MemId → (c : Cell) → Held c
cell_of w None c = nothing_at c
cell_of w (Some owner) c = cell_in (slice_get w.mems owner.0) c

abbrev pub plain_of : Whole → Plain
plain_of w = record {
  homes = λ pid region. cell_in (slice_get w.mems (home_of (memory_count w.shape) pid)) (Home pid region);
  areas = λ pid region. cell_of w (owner_of w.table.owners pid region) (Areas pid region);
  page = λ pid vpn. cell_of w (owner_of w.table.owners pid (vpn / 512)) (Page pid vpn);
  files = w.disk.files;
}
