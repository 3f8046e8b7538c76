-- Worked examples of the lists of operations: a space that is dropped, pages that are mapped, a space that is copied, and pages that
-- are unmapped.
use Rattle.std.proofs.Common.{◌≡◌, [], ◌∷◌, ℕ, refl}
use Rattle.lego_base.specs.declared.ids.MemId.{MemId}
use Rattle.lego_base.specs.declared.ids.Pid.{Pid}
use Rattle.lego_base.specs.declared.ids.RegionNo.{RegionNo}
use Rattle.lego_base.specs.declared.records.Area.{Area}
use Rattle.lego_base.specs.declared.records.HomeEntry.{HomeEntry}
use Rattle.area_list.specs.Runs.{cut_runs}
use Rattle.lego_msg.specs.Files.{no_files}
use Rattle.lego_msg.specs.Plain.{Plain, no_plain, with_region}
use Rattle.lego_msg.specs.declared.operation.Operation.TheVariants.{AsksAreas, Copies, Drains, Drops, SetsAreas, SetsHome, Unmaps}
use Rattle.placement.specs.Owners.{Owned}
use Rattle.cluster.specs.Copying.{copies_of}
use Rattle.cluster.specs.Dropping.{drops_of}
use Rattle.cluster.specs.Mapping.{tells_of}
use Rattle.cluster.specs.Sequences.{free}
use Rattle.cluster.specs.Unmapping.{unmaps_of}

abbrev memory : ℕ → MemId
memory m = record { 0 = m }

abbrev process : ℕ → Pid
process p = record { 0 = p }

abbrev region : ℕ → RegionNo
region r = record { 0 = r }

abbrev owned : ℕ → ℕ → ℕ → HomeEntry
owned p r m = record { pid = process p; region = region r; owner = memory m }

-- pages that may be read
abbrev readable : ℕ → ℕ → Area
readable first pages = record { first = record { 0 = first }; pages = pages; perms = record { 0 = 1 } }

-- of three memories each log is drained before the space of process 5 goes
dropped : drops_of 3 (process 5) ≡ Drains (memory 0) ∷ Drains (memory 1) ∷ Drains (memory 2) ∷ Drops (process 5) ∷ []
dropped = refl

-- Process 7 has 10 pages in region 2, which memory 0 owns. 600 pages are mapped there: they go on into region 3, whose owner is
-- the fourth that is given, and both lists become others.
abbrev before : Owned
before = record { memories = 2; placement = memory 1 ∷ memory 0 ∷ []; given = 3; owners = owned 7 2 0 ∷ [] }

mapped : tells_of before (readable 1024 10 ∷ []) (process 7) (readable 1024 600 ∷ [])
    ≡ record { operation = SetsHome (process 7) (region 3) (memory 0); owners = owned 7 3 0 ∷ [] }
    ∷ free (SetsAreas (process 7) (region 2) (readable 1024 512 ∷ []) (memory 0))
    ∷ free (SetsAreas (process 7) (region 3) (readable 1536 88 ∷ []) (memory 0))
    ∷ []
mapped = refl

-- nothing is called for where the areas stay as they are
stays : tells_of before (readable 1024 10 ∷ []) (process 7) (readable 1024 10 ∷ []) ≡ []
stays = refl

-- Process 1 has regions 0 and 5 at memory 0, and region 4 at memory 1. Its child 2 gets the same owners with the first drain.
abbrev parents : Owned
parents = record { memories = 2; placement = memory 0 ∷ []; given = 3; owners = owned 1 0 0 ∷ owned 1 4 1 ∷ owned 1 5 0 ∷ [] }

copied : copies_of 2 parents (process 1) (process 2)
    ≡ record { operation = Drains (memory 1); owners = owned 2 0 0 ∷ owned 2 4 1 ∷ owned 2 5 0 ∷ [] }
    ∷ free (Drains (memory 0))
    ∷ free (SetsHome (process 2) (region 0) (memory 0))
    ∷ free (SetsHome (process 2) (region 4) (memory 1))
    ∷ free (SetsHome (process 2) (region 5) (memory 0))
    ∷ free (Copies (process 1) (process 2) (region 0 ∷ region 5 ∷ []) (memory 0))
    ∷ free (Copies (process 1) (process 2) (region 4 ∷ []) (memory 1))
    ∷ []
copied = refl

-- Process 7 has 10 pages in region 2, which memory 0 owns, and 88 in region 3, which memory 1 owns. 600 pages are unmapped, starting
-- at the seventh page of the first region: 6 pages are left there and none in the second.
abbrev mapped_in_two : Plain
mapped_in_two = with_region 7 3 (readable 1536 88 ∷ []) (with_region 7 2 (readable 1024 10 ∷ []) (no_plain (no_files 1)))

abbrev two_regions : Owned
two_regions = record { memories = 2; placement = memory 0 ∷ memory 1 ∷ []; given = 2; owners = owned 7 2 0 ∷ owned 7 3 1 ∷ [] }

unmapped : unmaps_of 2 mapped_in_two two_regions (process 7) 1030 600
    ≡ AsksAreas (process 7) (region 2) (memory 0)
    ∷ AsksAreas (process 7) (region 3) (memory 1)
    ∷ Drains (memory 1)
    ∷ Unmaps (process 7) (region 2) (record { 0 = 1030 }) 506 (readable 1024 6 ∷ []) (memory 0)
    ∷ Drains (memory 0)
    ∷ Unmaps (process 7) (region 3) (record { 0 = 1536 }) 94 [] (memory 1)
    ∷ []
unfolding cut_runs
unmapped = refl

-- a region that the range meets is asked, and where none of its pages in the range is mapped nothing follows
asked_only : unmaps_of 2 mapped_in_two two_regions (process 7) 1034 8 ≡ AsksAreas (process 7) (region 2) (memory 0) ∷ []
asked_only = refl

-- a range of no page asks nothing
asks_nothing : unmaps_of 2 mapped_in_two two_regions (process 7) 1030 0 ≡ []
asks_nothing = refl
