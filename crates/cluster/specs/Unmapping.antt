-- Pages of a process are unmapped: the regions that they meet are asked for their areas, and then, region by region, where one of
-- the pages is mapped, the log of the owner's secondary is drained and the pages go.
use Rattle.std.specs.List.{AllByRecursion}
use Rattle.std.specs.Prelude.{◌==◌, ◌+◌, ◌-◌, ◌*◌, ◌<◌, if◌then◌else◌, [], ◌∷◌, ◌++◌, ℕ, Bool, List, None, length, max, min, nat_lt}
use Rattle.area_list.specs.Runs.{IsCanonical, above, below, cut_runs}
use Rattle.lego_base.specs.Keys.{is_page_from, key_at}
use Rattle.lego_base.specs.declared.ids.Pid.{Pid}
use Rattle.lego_base.specs.declared.records.Area.{Area}
use Rattle.lego_base.specs.declared.records.HomeEntry.{HomeEntry}
use Rattle.lego_msg.specs.Places.{secondary_of}
use Rattle.lego_msg.specs.Plain.{Plain}
use Rattle.lego_msg.specs.declared.operation.Operation.{Operation}
use Rattle.lego_msg.specs.declared.operation.Operation.TheVariants.{Drains, Unmaps}
use Rattle.placement.specs.Owners.{Owned}
use Rattle.cluster.specs.Askings.{asks_of, met_by}
use Rattle.cluster.specs.Mapping.{entries_in, listed_in}

-- ---- the part of a range of pages in a region, of 512 pages

abbrev pub range_start : ℕ → HomeEntry → ℕ
range_start first e = max first (e.region.0 * 512)

abbrev pub range_end : ℕ → ℕ → HomeEntry → ℕ
range_end first pages e = min (first + pages) ((e.region.0 + 1) * 512)

-- whether areas have one of the pages
abbrev pub has_mapped : ℕ → ℕ → List Area → Bool
has_mapped lo hi areas = nat_lt 0 (length (above lo (below hi areas)))

-- the owned regions that the range meets, of 4096 bytes a page
abbrev pub regions_met : Owned → Pid → ℕ → ℕ → List HomeEntry
regions_met t pid first pages = met_by (first * 4096) (pages * 4096) (entries_in pid t)

-- ---- operations, of a machine with n memories

-- the pages go from a region with these areas, once no log has a patch of them
abbrev pub unmaps_from : ℕ → HomeEntry → ℕ → ℕ → List Area → List Operation
unmaps_from n e lo hi areas =
    Drains (record { 0 = secondary_of n e.owner.0 })
    ∷ Unmaps e.pid e.region (record { 0 = lo }) (hi - lo) (cut_runs lo (hi - lo) areas) e.owner
    ∷ []

abbrev pub unmaps_part : ℕ → HomeEntry → ℕ → ℕ → List Area → List Operation
unmaps_part n e lo hi areas = if has_mapped lo hi areas then unmaps_from n e lo hi areas else []

-- where `areas` says those of each region
abbrev pub unmaps_parts : ℕ → (HomeEntry → List Area) → ℕ → ℕ → List HomeEntry → List Operation
unmaps_parts n areas first pages [] = []
unmaps_parts n areas first pages (e ∷ entries) =
    unmaps_part n e (range_start first e) (range_end first pages e) (areas e) ++ unmaps_parts n areas first pages entries

abbrev pub areas_at : Plain → HomeEntry → List Area
areas_at f e = f.areas e.pid.0 e.region.0

abbrev pub unmaps_of : ℕ → Plain → Owned → Pid → ℕ → ℕ → List Operation
unmaps_of n f t pid first pages = asks_of (regions_met t pid first pages) ++ unmaps_parts n (areas_at f) first pages (regions_met t pid first pages)

-- ---- the plain map after them: the pages aren't mapped, and aren't there
abbrev pub without_range : Pid → ℕ → ℕ → Plain → Plain
without_range pid first pages f = record f {
  areas = λ p region. if pid.0 == p then cut_runs first pages (f.areas p region) else f.areas p region;
  page = λ p vpn. if is_page_from pid.0 first pages (key_at p vpn) then None else f.page p vpn;
}

-- ---- while it goes on: the areas are known, listed region by region

abbrev pub listed_for : List Area → HomeEntry → List Area
listed_for old e = listed_in e.region.0 old

-- the range has pages in a region, and what is listed for that is canonical
abbrev pub IsPart : List Area → ℕ → ℕ → HomeEntry → Type 0
IsPart old first pages e = (range_start first e < range_end first pages e) × IsCanonical (listed_for old e)

abbrev pub AreParts : List Area → ℕ → ℕ → List HomeEntry → Type 0
AreParts old first pages entries = AllByRecursion (IsPart old first pages) entries
