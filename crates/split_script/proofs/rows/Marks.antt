-- Worked scripts of single effects, by computation: a machine with two memories and one processor whose cache has one line.
use Rattle.std.specs.Prelude.{◌≡◌, ℕ, ◌^◌, true, false, List, [], ◌∷◌, ◌++◌, replicate, refl}
use Rattle.lego_base.specs.declared.ids.MemId.{MemId}
use Rattle.lego_base.specs.declared.records.Area.{Area}
use Rattle.lego_base.specs.declared.records.HomeEntry.{HomeEntry}
use Rattle.lego_base.specs.declared.shape.Shape.{Shape}
use Rattle.lego_msg.specs.declared.event.Event.TheVariants.{Turn, Access, Fill, Drop, Out as Shown}
use Rattle.lego_msg.specs.declared.event.Kind.TheVariants as shown
use Rattle.lego_msg.specs.declared.event.Kind.{Kind as ShownKind}
use Rattle.lego_msg.specs.declared.operation.Operation.{Operation}
use Rattle.lego_msg.specs.declared.operation.Operation.TheVariants as op
use Rattle.lego_msg.specs.declared.operation.Origin.TheVariants as origin
use Rattle.lego_msg.specs.declared.place.Place.TheVariants.{Processor, Manager}
use Rattle.lego_msg.specs.Marks.{Mark, Call, Show, order}
use Rattle.area_list.specs.Runs.{cut_runs}
use Rattle.kernel_objects.specs.declared.descriptor.Stream.TheVariants.{Out}
use Rattle.linux_model.specs.Effects.{Effect, Begins, Reads, Writes, Refused, AsksSpan, Maps, Protects, Unmaps, Fills, Copies, Drops, MakesFile, ReadsFile, WritesFile, Puts, Fetch, Load, Store, CopyOut}
use Rattle.split_script.specs.Now.{Now, at_start, pid_no, line_no, region_no, mem_no, owners}
use Rattle.split_script.specs.Script.{script, all_passed, archives, file_no}

abbrev pub shape_of : List ℕ → ℕ → ℕ → ℕ → List MemId → Shape
shape_of frames processors sets ways placement = record { frames = frames; log = 256; blocks = 16384; cache_blocks = 64; processors = processors; sets = sets; ways = ways; placement = placement; deliveries = 0 ∷ []; crashes = [] }

-- 64 frames a memory, one processor, one line
abbrev pub small : Shape
small = shape_of (64 ∷ 64 ∷ []) 1 1 1 (mem_no 0 ∷ mem_no 1 ∷ [])

abbrev pub area : ℕ → ℕ → ℕ → Area
area first pages perms = record { first = record { 0 = first }; pages = pages; perms = record { 0 = perms } }

-- two pages to read and write in region 0, from 0x20000
abbrev two_pages : List Area
two_pages = area 0x20 2 3 ∷ []

abbrev after : List Effect → Now
after es = all_passed (at_start small) (Begins 0 0 ∷ Maps 1 two_pages ∷ Begins 1 1 ∷ es)

-- by processor 0
abbrev by_cpu : Operation → Mark
by_cpu operation = Call (order (Processor (record { 0 = 0 })) operation)

abbrev access : ShownKind → ℕ → List ℕ → Mark
access kind at bytes = Show (Access (record { 0 = 0 }) (pid_no 1) at kind bytes)

abbrev drops_line : ℕ → Mark
drops_line line = Show (Drop (record { 0 = 0 }) (pid_no 1) (line_no line))

abbrev finds : ℕ → Mark
finds region = by_cpu (op.Finds (pid_no 1) (region_no region))

abbrev reads : ℕ → ℕ → Mark
reads line owner = by_cpu (op.Reads (pid_no 1) (line_no line) (mem_no owner))

abbrev home : ℕ → ℕ → ℕ → HomeEntry
home pid region owner = record { pid = pid_no pid; region = region_no region; owner = mem_no owner }

abbrev line_bytes : List ℕ → ℕ → List ℕ
line_bytes bytes more = bytes ++ replicate more 0

abbrev writes_line : ℕ → ℕ → List ℕ → Mark
writes_line page off bytes = by_cpu (op.Writes origin.Line (record { pid = pid_no 1; vpn = record { 0 = page }; off = off; bytes = bytes }) (mem_no 0))

-- ---- mapping gives owners, by turns, with the first operation; nothing is asked where nothing was owned

a_mapping_gives_owners : script (at_start small) (Begins 0 0 ∷ Maps 1 (area 0x1ff 2 3 ∷ []) ∷ []) [] ≡ Show (Turn 0 (pid_no 0)) ∷ Call (record { by = Manager; operation = op.SetsHome (pid_no 1) (region_no 0) (mem_no 0); owners = home 1 0 0 ∷ home 1 1 1 ∷ []; late = false }) ∷ Call (order Manager (op.SetsHome (pid_no 1) (region_no 1) (mem_no 1))) ∷ Call (order Manager (op.SetsAreas (pid_no 1) (region_no 0) (area 0x1ff 1 3 ∷ []) (mem_no 0))) ∷ Call (order Manager (op.SetsAreas (pid_no 1) (region_no 1) (area 0x200 1 3 ∷ []) (mem_no 1))) ∷ []
a_mapping_gives_owners = refl

-- a region that has an owner keeps it, and only areas that change are set
a_mapping_keeps_owners : script (after []) (Maps 1 (area 0x20 2 3 ∷ area 0x200 1 3 ∷ []) ∷ []) [] ≡ by_cpu (op.AsksAreas (pid_no 1) (region_no 0) (mem_no 0)) ∷ Call (record { by = Processor (record { 0 = 0 }); operation = op.SetsHome (pid_no 1) (region_no 1) (mem_no 1); owners = home 1 1 1 ∷ []; late = false }) ∷ by_cpu (op.SetsAreas (pid_no 1) (region_no 1) (area 0x200 1 3 ∷ []) (mem_no 1)) ∷ []
a_mapping_keeps_owners = refl

a_fill_is_shown_then_written : script (after []) (Fills 1 0x20010 (1 ∷ 2 ∷ []) ∷ []) [] ≡ Show (Fill (pid_no 1) 0x20010 (1 ∷ 2 ∷ [])) ∷ by_cpu (op.Writes origin.Fill (record { pid = pid_no 1; vpn = record { 0 = 0x20 }; off = 0x10; bytes = 1 ∷ 2 ∷ [] }) (mem_no 0)) ∷ []
a_fill_is_shown_then_written = refl

-- ---- touches

a_miss_then_a_hit : script (after []) (Reads Load 1 0x20000 (0 ∷ []) ∷ Reads Fetch 1 0x20004 (0 ∷ []) ∷ []) [] ≡ finds 0 ∷ reads 0x800 0 ∷ access shown.Load 0x20000 (0 ∷ []) ∷ access shown.Fetch 0x20004 (0 ∷ []) ∷ []
a_miss_then_a_hit = refl

-- both lines are probed before the first is written, and the victim at last is the line that this very store wrote
a_store_over_two_lines : script (after []) (Writes Store 1 0x2003e (1 ∷ 2 ∷ 3 ∷ []) ∷ []) [] ≡
    finds 0 ∷ reads 0x800 0 ∷ access shown.Probe 0x2003e []
    ∷ finds 0 ∷ reads 0x801 0 ∷ drops_line 0x800 ∷ access shown.Probe 0x20040 []
    ∷ finds 0 ∷ reads 0x800 0 ∷ drops_line 0x801 ∷ access shown.Store 0x2003e (1 ∷ 2 ∷ [])
    ∷ finds 0 ∷ reads 0x801 0 ∷ writes_line 0x20 0 (replicate 62 0 ++ 1 ∷ 2 ∷ []) ∷ drops_line 0x800 ∷ access shown.Store 0x20040 (3 ∷ []) ∷ []
a_store_over_two_lines = refl

-- a copy goes line by line, without probes
a_copy_over_two_lines : script (after []) (Writes CopyOut 1 0x2003e (1 ∷ 2 ∷ 3 ∷ []) ∷ []) [] ≡
    finds 0 ∷ reads 0x800 0 ∷ access shown.CopyOut 0x2003e (1 ∷ 2 ∷ [])
    ∷ finds 0 ∷ reads 0x801 0 ∷ writes_line 0x20 0 (replicate 62 0 ++ 1 ∷ 2 ∷ []) ∷ drops_line 0x800 ∷ access shown.CopyOut 0x20040 (3 ∷ []) ∷ []
a_copy_over_two_lines = refl

-- the first part of a load is read, then the probe of the part that isn't permitted ends it: its line is asked for, and
-- where no area has its page nothing leaves
a_load_that_leaves_the_pages : script (after []) (Refused Load 1 0x21ffe 4 ∷ []) [] ≡ finds 0 ∷ reads 0x87f 0 ∷ access shown.Load 0x21ffe (0 ∷ 0 ∷ []) ∷ finds 0 ∷ reads 0x880 0 ∷ access shown.Probe 0x22000 [] ∷ []
a_load_that_leaves_the_pages = refl

what_has_no_area_puts_nothing_out : script (after (Refused Load 1 0x21ffe 4 ∷ [])) (Reads Load 1 0x21ffe (0 ∷ []) ∷ []) [] ≡ access shown.Load 0x21ffe (0 ∷ []) ∷ []
what_has_no_area_puts_nothing_out = refl

a_store_that_leaves_the_pages_is_all_probes : script (after []) (Refused Store 1 0x21ffe 4 ∷ []) [] ≡ finds 0 ∷ reads 0x87f 0 ∷ access shown.Probe 0x21ffe [] ∷ finds 0 ∷ reads 0x880 0 ∷ access shown.Probe 0x22000 [] ∷ []
a_store_that_leaves_the_pages_is_all_probes = refl

-- a page that is there without the permission is touched: its line comes in, and another leaves
a_page_without_the_permission_is_touched : script (after (Reads Load 1 0x20000 (0 ∷ []) ∷ [])) (Refused Fetch 1 0x20040 4 ∷ []) [] ≡ finds 0 ∷ reads 0x801 0 ∷ drops_line 0x800 ∷ access shown.Probe 0x20040 [] ∷ []
a_page_without_the_permission_is_touched = refl

-- no owner is named in a region that has none, and nobody is asked past the end of user addresses
nobody_owns_it : (script (after []) (Refused Load 1 0x900000 1 ∷ []) [] ≡ finds 4 ∷ access shown.Probe 0x900000 [] ∷ []) × (script (after []) (Refused Load 1 (2 ^ 38) 1 ∷ []) [] ≡ access shown.Probe (2 ^ 38) [] ∷ [])
nobody_owns_it = (refl, refl)

-- ---- questions

a_span_asks_the_regions_that_it_meets : (script (after []) (AsksSpan 1 0x20000 1 ∷ []) [] ≡ by_cpu (op.AsksAreas (pid_no 1) (region_no 0) (mem_no 0)) ∷ []) × ((script (after []) (AsksSpan 1 0x20000 0 ∷ []) [] ≡ []) × ((script (after []) (AsksSpan 1 0x200000 1 ∷ []) [] ≡ []) × (script (after []) (AsksSpan 1 0x20000 (2 ^ 38) ∷ []) [] ≡ [])))
a_span_asks_the_regions_that_it_meets = (refl, (refl, (refl, refl)))

-- ---- spaces

-- a line of the range that is dirty: it is dropped as it is
abbrev over_two_regions : Now
over_two_regions = all_passed (at_start small) (Begins 0 0 ∷ Maps 1 (area 0x1fe 4 3 ∷ []) ∷ Begins 1 1 ∷ Writes Store 1 0x1ff000 (7 ∷ []) ∷ [])

an_unmap_over_two_regions : script over_two_regions (Unmaps 1 0x1ff 2 ∷ []) [] ≡
    drops_line 0x7fc0
    ∷ by_cpu (op.AsksAreas (pid_no 1) (region_no 0) (mem_no 0)) ∷ by_cpu (op.AsksAreas (pid_no 1) (region_no 1) (mem_no 1))
    ∷ by_cpu (op.Drains (mem_no 1)) ∷ by_cpu (op.Unmaps (pid_no 1) (region_no 0) (record { 0 = 0x1ff }) 1 (area 0x1fe 1 3 ∷ []) (mem_no 0))
    ∷ by_cpu (op.Drains (mem_no 0)) ∷ by_cpu (op.Unmaps (pid_no 1) (region_no 1) (record { 0 = 0x200 }) 1 (area 0x201 1 3 ∷ []) (mem_no 1)) ∷ []
unfolding cut_runs
an_unmap_over_two_regions = refl

-- the line of the range that is dirty is written back, then dropped; the region's areas are asked for and set
abbrev dirty : Now
dirty = after (Writes Store 1 0x20000 (7 ∷ []) ∷ [])

an_mprotect_writes_back : script dirty (Protects 1 0x20 1 (area 0x20 1 1 ∷ area 0x21 1 3 ∷ []) ∷ []) [] ≡
    writes_line 0x20 0 (line_bytes (7 ∷ []) 63) ∷ drops_line 0x800
    ∷ by_cpu (op.AsksAreas (pid_no 1) (region_no 0) (mem_no 0)) ∷ by_cpu (op.SetsAreas (pid_no 1) (region_no 0) (area 0x20 1 1 ∷ area 0x21 1 3 ∷ []) (mem_no 0)) ∷ []
an_mprotect_writes_back = refl

-- to the same permissions: lines go, and nothing is set
an_mprotect_to_the_same : script dirty (Protects 1 0x20 1 two_pages ∷ []) [] ≡ writes_line 0x20 0 (line_bytes (7 ∷ []) 63) ∷ drops_line 0x800 ∷ by_cpu (op.AsksAreas (pid_no 1) (region_no 0) (mem_no 0)) ∷ []
an_mprotect_to_the_same = refl

-- the parent's dirty lines are written back and stay; the child's owners come with the first drain
a_fork_writes_back_then_copies : script dirty (Copies 1 2 ∷ Reads Load 1 0x20000 (7 ∷ []) ∷ []) [] ≡
    writes_line 0x20 0 (line_bytes (7 ∷ []) 63)
    ∷ Call (record { by = Processor (record { 0 = 0 }); operation = op.Drains (mem_no 1); owners = home 2 0 0 ∷ []; late = false })
    ∷ by_cpu (op.SetsHome (pid_no 2) (region_no 0) (mem_no 0)) ∷ by_cpu (op.Copies (pid_no 1) (pid_no 2) (region_no 0 ∷ []) (mem_no 0))
    ∷ access shown.Load 0x20000 (7 ∷ []) ∷ []
a_fork_writes_back_then_copies = refl

a_line_that_was_written_back_is_clean : script (all_passed dirty (Copies 1 2 ∷ [])) (Reads Load 1 0x20040 (0 ∷ []) ∷ []) [] ≡ finds 0 ∷ reads 0x801 0 ∷ drops_line 0x800 ∷ access shown.Load 0x20040 (0 ∷ []) ∷ []
a_line_that_was_written_back_is_clean = refl

-- at a death lines are dropped as they are, and each log is drained before the space goes
a_death_drops_all : script dirty (Drops 1 ∷ []) [] ≡ drops_line 0x800 ∷ by_cpu (op.Drains (mem_no 0)) ∷ by_cpu (op.Drains (mem_no 1)) ∷ by_cpu (op.Drops (pid_no 1)) ∷ []
a_death_drops_all = refl

-- the regions of the new program get new owners, by the count of assignments
an_exec_assigns_anew : owners (all_passed dirty (Drops 1 ∷ Maps 1 two_pages ∷ [])) ≡ home 1 0 1 ∷ []
an_exec_assigns_anew = refl

a_child_counts_for_no_turn : owners (all_passed dirty (Copies 1 2 ∷ Maps 2 (area 0x20 2 3 ∷ area 0x200 1 3 ∷ []) ∷ [])) ≡ home 1 0 0 ∷ home 2 0 0 ∷ home 2 1 1 ∷ []
a_child_counts_for_no_turn = refl

-- ---- files and output

blocks_of_a_file : script (after []) (ReadsFile 3 4090 10 ∷ WritesFile 3 4095 (1 ∷ 2 ∷ []) ∷ ReadsFile 3 5 0 ∷ Puts Out (9 ∷ []) ∷ []) [] ≡
    by_cpu (op.ReadsFile (file_no 3) 0 4090 6) ∷ by_cpu (op.ReadsFile (file_no 3) 1 0 4)
    ∷ by_cpu (op.WritesFile (file_no 3) 0 4095 (1 ∷ [])) ∷ by_cpu (op.WritesFile (file_no 3) 1 0 (2 ∷ []))
    ∷ Show (Shown 1 (9 ∷ [])) ∷ []
blocks_of_a_file = refl

abbrev late : Operation → Mark
late operation = Call (record { by = Manager; operation = operation; owners = []; late = true })

the_archive_reads_all_names : archives (all_passed (at_start small) (MakesFile (102 ∷ []) ∷ WritesFile 0 0 (1 ∷ 2 ∷ []) ∷ MakesFile (97 ∷ []) ∷ [])) [] ≡ late op.ListsNames ∷ late (op.AsksSize (file_no 1)) ∷ late (op.AsksSize (file_no 0)) ∷ late (op.ReadsFile (file_no 0) 0 0 2) ∷ []
the_archive_reads_all_names = refl
