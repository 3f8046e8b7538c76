-- Regions are asked for their areas, one by one.
use Rattle.std.specs.Prelude.{◌≡◌, ◌+◌, ◌*◌, ◌&&◌, if◌then◌else◌, [], ◌∷◌, ◌++◌, ℕ, Bool, List, Some, nat_lt}
use Rattle.lego_base.specs.declared.records.Area.{Area}
use Rattle.lego_base.specs.declared.records.HomeEntry.{HomeEntry}
use Rattle.lego_msg.specs.Maps.{owner_of}
use Rattle.lego_msg.specs.Plain.{Plain}
use Rattle.lego_msg.specs.declared.body.Body.{Body}
use Rattle.lego_msg.specs.declared.body.Body.TheVariants.{AreasAre}
use Rattle.lego_msg.specs.declared.operation.Operation.{Operation}
use Rattle.lego_msg.specs.declared.operation.Operation.TheVariants.{AsksAreas}

-- the owner of each region is asked
abbrev pub asks_of : List HomeEntry → List Operation
asks_of [] = []
asks_of (e ∷ entries) = AsksAreas e.pid e.region e.owner ∷ asks_of entries

-- each of them is the owner
abbrev pub AreOwned : List HomeEntry → List HomeEntry → Type 0
AreOwned owners [] = Unit {0}
AreOwned owners (e ∷ entries) = (owner_of owners e.pid.0 e.region.0 ≡ Some e.owner) × AreOwned owners entries

-- the areas of regions, one after the other
abbrev pub areas_among : Plain → List HomeEntry → List Area
areas_among f [] = []
areas_among f (e ∷ entries) = f.areas e.pid.0 e.region.0 ++ areas_among f entries

-- the regions that bytes meet: none where there is no byte
abbrev pub meets : ℕ → ℕ → HomeEntry → Bool
meets address n e = nat_lt 0 n && nat_lt address ((e.region.0 + 1) * 2097152) && nat_lt (e.region.0 * 2097152) (address + n)

abbrev pub met_by : ℕ → ℕ → List HomeEntry → List HomeEntry
met_by address n [] = []
met_by address n (e ∷ entries) = if meets address n e then e ∷ met_by address n entries else met_by address n entries

-- the areas of answers, one after the other
abbrev pub runs_told : Body → List Area
runs_told (AreasAre areas) = areas
runs_told other = []

abbrev pub all_runs : List Body → List Area
all_runs [] = []
all_runs (body ∷ bodies) = runs_told body ++ all_runs bodies
