-- Pages of a process are mapped, or get other permissions: each region that they meet and that has no owner gets one, which its
-- home learns, and then each region's list of areas that becomes another is set.
use Rattle.std.specs.Prelude.{◌≡◌, ◌==◌, ◌&&◌, ◌+◌, ◌-◌, ◌*◌, ◌/◌, if◌then◌else◌, [], ◌∷◌, ◌++◌, ℕ, Bool, IsSome, List, max, min, suc, zero}
use Rattle.std.specs.Cmp.Lexicographic.{pointwise}
use Rattle.area_list.specs.Runs.{between, end_of}
use Rattle.lego_base.specs.Keys.{is_of, those}
use Rattle.lego_base.specs.Space.{perms_of}
use Rattle.lego_base.specs.declared.ids.Pid.{Pid}
use Rattle.lego_base.specs.declared.ids.RegionNo.{RegionNo}
use Rattle.lego_base.specs.declared.records.Area.{Area}
use Rattle.lego_base.specs.declared.records.HomeEntry.{HomeEntry}
use Rattle.lego_msg.specs.Maps.{home_key}
use Rattle.lego_msg.specs.Plain.{IsMapped, Plain, with_home_of}
use Rattle.lego_msg.specs.declared.operation.Operation.{Operation}
use Rattle.lego_msg.specs.declared.operation.Operation.TheVariants.{SetsAreas, SetsHome}
use Rattle.lego_msg.specs.declared.place.Place.{Place}
use Rattle.placement.specs.Owners.{Owned, Placing, entries_of, mapped, placed_all}
use Rattle.cluster.specs.Askings.{areas_among, asks_of}
use Rattle.cluster.specs.Sequences.{Asking, MayAskEach, all_free, with_new}
use Rattle.cluster.specs.Whole.{Whole}

-- ---- regions, of 512 pages

-- the part of areas in one
abbrev pub piece_in : ℕ → Area → List Area
piece_in region a = between (max a.first.0 (region * 512)) (min (end_of a) (region * 512 + 512)) a.perms

abbrev pub part_in : ℕ → List Area → List Area
part_in region [] = []
part_in region (a ∷ areas) = piece_in region a ++ part_in region areas

-- those that areas meet, in rising order, but for the ones below `next`
abbrev pub numbers_from : ℕ → ℕ → List RegionNo
numbers_from zero region = []
numbers_from (suc n) region = record { 0 = region } ∷ numbers_from n (region + 1)

abbrev pub first_met : ℕ → Area → ℕ
first_met next a = max next (a.first.0 / 512)

abbrev pub end_met : Area → ℕ
end_met a = (end_of a - 1) / 512 + 1

abbrev pub regions_from : ℕ → List Area → List RegionNo
regions_from next [] = []
regions_from next (a ∷ areas) = numbers_from (end_met a - first_met next a) (first_met next a) ++ regions_from (max (first_met next a) (end_met a)) areas

-- ---- owners

-- the regions without an owner get one by turns, in rising order
abbrev pub placings_of : Owned → Pid → List Area → List Placing
placings_of t pid want = mapped pid (regions_from 0 want) t.owners

abbrev pub new_of : Owned → Pid → List Area → List HomeEntry
new_of t pid want = entries_of t.placement t.given (placings_of t pid want)

abbrev pub table_with : Owned → Pid → List Area → Owned
table_with t pid want = placed_all (placings_of t pid want) t

-- the owners of a process's regions
abbrev pub entries_in : Pid → Owned → List HomeEntry
entries_in pid t = those home_key (is_of pid.0) t.owners

-- ---- operations

abbrev pub sets_home : HomeEntry → Operation
sets_home e = SetsHome e.pid e.region e.owner

abbrev pub homes_of : List HomeEntry → List Operation
homes_of [] = []
homes_of (e ∷ entries) = sets_home e ∷ homes_of entries

abbrev pub same_area : Area → Area → Bool
same_area a b = a.first.0 == b.first.0 && a.pages == b.pages && a.perms.0 == b.perms.0

abbrev pub same_areas : List Area → List Area → Bool
same_areas old new = pointwise same_area old new

-- of areas that are listed region by region, those of one
abbrev pub listed_in : ℕ → List Area → List Area
listed_in region [] = []
listed_in region (a ∷ areas) = if a.first.0 / 512 == region then a ∷ listed_in region areas else listed_in region areas

-- a region's list is set where it becomes another
abbrev pub sets_one : HomeEntry → List Area → List Area → List Operation
sets_one e old new = if same_areas old new then [] else SetsAreas e.pid e.region new e.owner ∷ []

abbrev pub sets_areas : List Area → List Area → List HomeEntry → List Operation
sets_areas old want [] = []
sets_areas old want (e ∷ entries) = sets_one e (listed_in e.region.0 old) (part_in e.region.0 want) ++ sets_areas old want entries

-- once the areas `old` of the process are known
abbrev pub tells_of : Owned → List Area → Pid → List Area → List Asking
tells_of t old pid want =
    with_new (new_of t pid want) (homes_of (new_of t pid want)) ++ all_free (sets_areas old want (entries_in pid (table_with t pid want)))

abbrev pub maps_of : Plain → Owned → Pid → List Area → List Asking
maps_of f t pid want = all_free (asks_of (entries_in pid t)) ++ tells_of t (areas_among f (entries_in pid t)) pid want

-- ---- the plain map after them

abbrev pub with_homes : List HomeEntry → Plain → Plain
with_homes [] f = f
with_homes (e ∷ entries) f = with_homes entries (with_home_of e.pid.0 e.region.0 e.owner f)

abbrev pub with_all_areas_of : Pid → List Area → Plain → Plain
with_all_areas_of pid want f = record f { areas = λ p region. if pid.0 == p then part_in region want else f.areas p region }

-- what is mapped stays mapped
abbrev pub Covers : Pid → List Area → Plain → Type 0
Covers pid want f = (vpn : ℕ) → IsMapped f pid.0 vpn → IsSome (perms_of want vpn)

-- ---- while it goes on: the new owners are in the table, and `c` is the cluster before
pub record IsPlaced (c w : Whole) (pid : Pid) (want : List Area) (new : List HomeEntry) : Type 0 where
  pub same : w ≡ record c { table = table_with c.table pid want }
  pub entries : new ≡ new_of c.table pid want

pub record MayTell (w : Whole) (by : Place) (pid : Pid) (new : List HomeEntry) (old want : List Area) : Type 0 where
  pub before : Whole
  pub placed : IsPlaced before w pid want new
  pub may : MayAskEach before by (tells_of before.table old pid want)
