-- The rule of owners. Regions get them by turns; a child has its parent's; and they end with the drop of the space.
use Rattle.std.specs.Prelude.{◌+◌, ◌%◌, [], ◌∷◌, ℕ, List, Option, None, Some, length, map, slice_index_or}
use Rattle.lego_base.specs.Keys.{is_of, put, put_all, those, without}
use Rattle.lego_base.specs.declared.ids.MemId.{MemId}
use Rattle.lego_base.specs.declared.ids.Pid.{Pid}
use Rattle.lego_base.specs.declared.ids.RegionNo.{RegionNo}
use Rattle.lego_base.specs.declared.records.HomeEntry.{HomeEntry}
use Rattle.lego_msg.specs.Maps.{home_key, owner_of}

pub record Owned : Type 0 where
  -- how many memory components there are
  pub memories : ℕ
  -- the owners by turns
  pub placement : List MemId
  -- how many assignments there were
  pub given : ℕ
  -- the owners of regions, in rising order of process and region
  pub owners : List HomeEntry

abbrev pub no_owners : ℕ → List MemId → Owned
no_owners memories placement = record { memories = memories; placement = placement; given = 0; owners = [] }

-- whose turn it is at the assignment with a number from 0
abbrev pub in_turn : List MemId → ℕ → MemId
in_turn placement k = slice_index_or placement (k % length placement) (record { 0 = 0 })

abbrev pub next_owner : Owned → MemId
next_owner o = in_turn o.placement o.given

abbrev pub entry : Pid → RegionNo → MemId → HomeEntry
entry pid region owner = record { pid = pid; region = region; owner = owner }

-- a region gets the next owner
abbrev pub assigned : Pid → RegionNo → Owned → Owned
assigned pid region o = record o { given = o.given + 1; owners = put home_key (entry pid region (next_owner o)) o.owners }

abbrev pub for_child : Pid → HomeEntry → HomeEntry
for_child child e = record e { pid = child }

-- the owners of a process's regions, for a child
abbrev pub handed_on : Pid → Pid → List HomeEntry → List HomeEntry
handed_on parent child owners = map (for_child child) (those home_key (is_of parent.0) owners)

-- a child's regions get the owners of its parent's
abbrev pub inherited : Pid → Pid → Owned → Owned
inherited parent child o = record o { owners = put_all home_key (handed_on parent child o.owners) o.owners }

-- a process's owners end
abbrev pub dropped : Pid → Owned → Owned
dropped pid o = record o { owners = without home_key (is_of pid.0) o.owners }

-- the regions of entries
abbrev pub space_in : HomeEntry → Pid × RegionNo
space_in e = (e.pid, e.region)

abbrev pub spaces_in : List HomeEntry → List (Pid × RegionNo)
spaces_in entries = map space_in entries

-- OVER A RUN: what happens to owners, in order

pub data Placing : Type 0 where
  -- a region without an owner is mapped
  Assigns : Pid → RegionNo → Placing
  -- a process is forked
  Inherits : Pid → Pid → Placing
  -- a space is dropped, by exec or death
  Drops : Pid → Placing

abbrev pub placed : Placing → Owned → Owned
placed (Assigns pid region) o = assigned pid region o
placed (Inherits parent child) o = inherited parent child o
placed (Drops pid) o = dropped pid o

-- the owners after all of these
abbrev pub placed_all : List Placing → Owned → Owned
placed_all [] o = o
placed_all (p ∷ placings) o = placed_all placings (placed p o)

-- how many assignments there are among them: the number, from 0, of the one that comes next
abbrev pub assignments : List Placing → ℕ
assignments [] = 0
assignments (Assigns pid region ∷ placings) = 1 + assignments placings
assignments (Inherits parent child ∷ placings) = assignments placings
assignments (Drops pid ∷ placings) = assignments placings

-- WHAT A MAPPING ASSIGNS: the regions that have no owner, in their order, which rises
abbrev pub kept_none : Pid → RegionNo → Option MemId → List Placing → List Placing
kept_none pid region None placings = Assigns pid region ∷ placings
kept_none pid region (Some owner) placings = placings

abbrev pub mapped : Pid → List RegionNo → List HomeEntry → List Placing
mapped pid [] owners = []
mapped pid (region ∷ regions) owners = kept_none pid region (owner_of owners pid.0 region.0) (mapped pid regions owners)

-- the entries of assignments, the first of which has this number from 0
abbrev pub entries_of : List MemId → ℕ → List Placing → List HomeEntry
entries_of placement k [] = []
entries_of placement k (Assigns pid region ∷ placings) = entry pid region (in_turn placement k) ∷ entries_of placement (k + 1) placings
entries_of placement k (Inherits parent child ∷ placings) = entries_of placement k placings
entries_of placement k (Drops pid ∷ placings) = entries_of placement k placings
