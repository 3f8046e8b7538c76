-- A space is copied: the child's regions get the owners of the parent's, the log of each owner's secondary is drained, the
-- child's home learns the owners, and then each owner copies its regions.
use Rattle.std.specs.Prelude.{◌≡◌, ◌==◌, ◌||◌, ◌+◌, if◌then◌else◌, [], ◌∷◌, ◌++◌, ℕ, Bool, List, false, map, suc, zero}
use Rattle.lego_base.specs.declared.ids.Pid.{Pid}
use Rattle.lego_base.specs.declared.ids.RegionNo.{RegionNo}
use Rattle.lego_base.specs.declared.records.HomeEntry.{HomeEntry}
use Rattle.lego_msg.specs.Maps.{owned_by}
use Rattle.lego_msg.specs.Places.{secondary_of}
use Rattle.lego_msg.specs.Plain.{Plain}
use Rattle.lego_msg.specs.Track.{memory_count}
use Rattle.lego_msg.specs.declared.operation.Operation.{Operation}
use Rattle.lego_msg.specs.declared.operation.Operation.TheVariants.{Copies, Drains}
use Rattle.lego_msg.specs.declared.place.Place.{Place}
use Rattle.placement.specs.Owners.{Owned, handed_on, inherited}
use Rattle.cluster.specs.Mapping.{entries_in, homes_of}
use Rattle.cluster.specs.Sequences.{Asking, MayAskEach, all_free, brought, with_new}
use Rattle.cluster.specs.Standing.{Brings}
use Rattle.cluster.specs.Whole.{Whole}

-- the memories that own one of these regions, of n starting at one, in rising order
abbrev pub owns_some : ℕ → List HomeEntry → Bool
owns_some k [] = false
owns_some k (e ∷ entries) = e.owner.0 == k || owns_some k entries

abbrev pub owners_from : ℕ → ℕ → List HomeEntry → List ℕ
owners_from zero k entries = []
owners_from (suc n) k entries = if owns_some k entries then k ∷ owners_from n (k + 1) entries else owners_from n (k + 1) entries

abbrev pub drains_for : ℕ → List ℕ → List Operation
drains_for n [] = []
drains_for n (k ∷ owners) = Drains (record { 0 = secondary_of n k }) ∷ drains_for n owners

abbrev pub regions_in : List HomeEntry → List RegionNo
regions_in entries = map (λ (e : HomeEntry). e.region) entries

abbrev pub copies_for : Pid → Pid → List HomeEntry → List ℕ → List Operation
copies_for parent child entries [] = []
copies_for parent child entries (k ∷ owners) = Copies parent child (regions_in (owned_by k entries)) (record { 0 = k }) ∷ copies_for parent child entries owners

-- of a machine with n memories; the owners come with the first drain
abbrev pub copies_of : ℕ → Owned → Pid → Pid → List Asking
copies_of n t parent child =
    with_new (handed_on parent child t.owners) (drains_for n (owners_from n 0 (entries_in parent t)))
    ++ all_free (homes_of (handed_on parent child t.owners) ++ copies_for parent child (entries_in parent t) (owners_from n 0 (entries_in parent t)))

-- the child's areas and pages are those of the parent
abbrev pub with_space_of : Pid → Pid → Plain → Plain
with_space_of parent child f = record f {
  areas = λ p region. if child.0 == p then f.areas parent.0 region else f.areas p region;
  page = λ p vpn. if child.0 == p then f.page parent.0 vpn else f.page p vpn;
}

-- the first drain brings the owners
abbrev pub first_drained : List HomeEntry → ℕ → List ℕ → List Operation → List Asking
first_drained new n [] rest = all_free rest
first_drained new n (k ∷ owners) rest = brought new (Drains (record { 0 = secondary_of n k })) rest

pub record MayDrainFirst (w : Whole) (by : Place) (n : ℕ) (owners : List ℕ) (rest : List Operation) : Type 0 where
  pub new : List HomeEntry
  pub before : Whole
  pub brings : Brings new before w
  pub same : owners ≡ [] → w ≡ before
  pub may : MayAskEach before by (first_drained new n owners rest)

-- ---- while it goes on: the owners are in the table, and `c` is the cluster before
pub record HasInherited (c w : Whole) (parent child : Pid) (listed : List HomeEntry) : Type 0 where
  pub same : w ≡ record c { table = inherited parent child c.table }
  pub entries : listed ≡ entries_in parent c.table

abbrev pub copies_at : Whole → Pid → Pid → List Asking
copies_at c parent child = copies_of (memory_count c.shape) c.table parent child

pub record MayCopy (w : Whole) (by : Place) (parent child : Pid) (entries : List HomeEntry) : Type 0 where
  pub before : Whole
  pub inherits : HasInherited before w parent child entries
  pub may : MayAskEach before by (copies_at before parent child)
