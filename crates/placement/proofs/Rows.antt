-- Worked runs, by computation.
use Rattle.std.proofs.Common.{◌≡◌, [], ◌∷◌, ℕ, List, refl}
use Rattle.lego_base.specs.declared.ids.MemId.{MemId}
use Rattle.lego_base.specs.declared.ids.Pid.{Pid}
use Rattle.lego_base.specs.declared.ids.RegionNo.{RegionNo}
use Rattle.lego_base.specs.declared.records.HomeEntry.{HomeEntry}
use Rattle.placement.specs.Owners.{Assigns, Drops, Inherits, Placing, mapped, no_owners, placed_all}
use Rattle.placement.specs.Processors.{processor_with}

abbrev pid : ℕ → Pid
pid number = record { 0 = number }

abbrev region : ℕ → RegionNo
region number = record { 0 = number }

abbrev owner : ℕ → ℕ → ℕ → HomeEntry
owner p r m = record { pid = pid p; region = region r; owner = record { 0 = m } }

-- placement [2, 0, 1]: regions 5 and 3 are mapped, process 1 forks process 2, which maps region 4, and process 1 dies;
-- the fork counts for no turn
abbrev fork_and_map : List Placing
fork_and_map = Assigns (pid 1) (region 5) ∷ Assigns (pid 1) (region 3) ∷ Inherits (pid 1) (pid 2) ∷ Assigns (pid 2) (region 4) ∷ []

abbrev three : List MemId
three = record { 0 = 2 } ∷ record { 0 = 0 } ∷ record { 0 = 1 } ∷ []

a_fork_takes_no_turn : (placed_all fork_and_map (no_owners 3 three)).owners ≡ owner 1 3 0 ∷ owner 1 5 2 ∷ owner 2 3 0 ∷ owner 2 4 1 ∷ owner 2 5 2 ∷ []
a_fork_takes_no_turn = refl

a_death_ends_its_own_alone : (placed_all (Drops (pid 1) ∷ []) (placed_all fork_and_map (no_owners 3 three))).owners ≡ owner 2 3 0 ∷ owner 2 4 1 ∷ owner 2 5 2 ∷ []
a_death_ends_its_own_alone = refl

-- only regions without an owner get one
a_mapping_assigns_new_regions : mapped (pid 1) (region 3 ∷ region 4 ∷ region 5 ∷ []) (owner 1 4 0 ∷ []) ≡ Assigns (pid 1) (region 3) ∷ Assigns (pid 1) (region 5) ∷ []
a_mapping_assigns_new_regions = refl

process_3_runs_on_processor_0_of_2 : processor_with 2 3 ≡ 0
process_3_runs_on_processor_0_of_2 = refl
