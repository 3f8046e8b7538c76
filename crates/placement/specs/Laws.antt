-- What a reader may ask of the rule of owners.
use Rattle.std.specs.Prelude.{◌≡◌, ◌==◌, ◌&&◌, if◌then◌else◌, ℕ, List, Some}
use Rattle.lego_base.specs.Keys.{Rises}
use Rattle.lego_base.specs.declared.ids.MemId.{MemId}
use Rattle.lego_base.specs.declared.ids.Pid.{Pid}
use Rattle.lego_base.specs.declared.ids.RegionNo.{RegionNo}
use Rattle.lego_msg.specs.Maps.{home_key, owned_by, owner_of}
use Rattle.placement.specs.Owners.{Owned, Placing, assigned, assignments, in_turn, next_owner, no_owners, placed_all}

-- The k-th assignment of a run, from 0, gets the owner at k modulo the length of the placement list.
abbrev pub TurnsGoByTheCount : Type 0
TurnsGoByTheCount = (memories : ℕ) (placement : List MemId) (past : List Placing) →
    next_owner (placed_all past (no_owners memories placement)) ≡ in_turn placement (assignments past)

-- An assigned region has the owner whose turn it was, and every other region what it had.
abbrev pub AssignedIsFound : Type 0
AssignedIsFound = (o : Owned) (p : Pid) (r : RegionNo) (pid region : ℕ) →
    owner_of (assigned p r o).owners pid region ≡ (if p.0 == pid && r.0 == region then Some (next_owner o) else owner_of o.owners pid region)

-- The entries rise, and so do those of one memory.
pub record RisesFor (memory : ℕ) (o : Owned) : Type 0 where
  pub all : Rises home_key o.owners
  pub of_one : Rises home_key (owned_by memory o.owners)

abbrev pub OwnersRise : Type 0
OwnersRise = (memories : ℕ) (placement : List MemId) (past : List Placing) (memory : ℕ) → RisesFor memory (placed_all past (no_owners memories placement))
