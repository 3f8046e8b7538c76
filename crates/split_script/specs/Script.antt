-- The script of the split run: for each effect of the plain kernel, which operations are called for and which events are
-- shown, in order.
use Rattle.std.specs.Prelude.{ℕ, ◌/◌, ◌%◌, ◌==◌, ◌++◌, true, if◌then◌else◌, List, [], ◌∷◌, length, Option, Some, None}
use Rattle.lego_base.specs.declared.ids.FileNo.{FileNo}
use Rattle.lego_base.specs.declared.ids.MemId.{MemId}
use Rattle.lego_base.specs.declared.records.NameEntry.{NameEntry}
use Rattle.lego_base.specs.declared.records.Patch.{Patch}
use Rattle.lego_base.specs.Files.{file_bytes}
use Rattle.lego_msg.specs.declared.event.Event.TheVariants.{Turn, Fill, Out as Shown}
use Rattle.lego_msg.specs.declared.operation.Operation.{Operation}
use Rattle.lego_msg.specs.declared.operation.Operation.TheVariants as op
use Rattle.lego_msg.specs.declared.operation.Origin.TheVariants as origin
use Rattle.lego_msg.specs.declared.place.Place.{Place}
use Rattle.lego_msg.specs.declared.place.Place.TheVariants.{Manager}
use Rattle.lego_msg.specs.Marks.{Mark, Call, Show, order}
use Rattle.kernel_objects.specs.declared.descriptor.Stream.{Stream}
use Rattle.kernel_objects.specs.declared.descriptor.Stream.TheVariants.{Out, Err}
use Rattle.placement.specs.Owners.{inherited, dropped}
use Rattle.linux_model.specs.Effects.{Effect, Begins, Reads, Writes, Refused, AsksSpan, AsksSpace, Maps, Protects, Unmaps, Fills, Copies, Drops, LooksUp, MakesFile, Unlinks, FreesFile, AsksSize, ReadsFile, WritesFile, CutsFile, Puts}
use Rattle.linux_model.specs.Held.{held_after}
use Rattle.split_script.specs.Cuts.{BLOCK, PAGE, Span, Chunk, spans, chunks}
use Rattle.split_script.specs.Now.{Now, issuer, pid_no, page_owner, owned_of, with_pasts}
use Rattle.split_script.specs.Touches.{shown_kind, line_parts, write_parts, refused_parts, walk, walked}
use Rattle.split_script.specs.Regions.{does, asks, asked_for, maps, unmaps, copies, drops, with_owners, lines_in_pages, all_lines, drops_lines, puts_out_lines, cleans_lines, past_cleaned, past_removed}

-- ---- files, block by block

abbrev pub file_no : ℕ → FileNo
file_no file = record { 0 = file }

abbrev pub reads_block : ℕ → Span → Operation
reads_block file x = op.ReadsFile (file_no file) (x.at / BLOCK) (x.at % BLOCK) x.size

abbrev pub writes_block : ℕ → Chunk → Operation
writes_block file c = op.WritesFile (file_no file) (c.at / BLOCK) (c.at % BLOCK) c.bytes

abbrev pub reads_blocks : Now → ℕ → List Span → List Mark → List Mark
reads_blocks n file [] rest = rest
reads_blocks n file (x ∷ blocks) rest = does n (reads_block file x) (reads_blocks n file blocks rest)

abbrev pub writes_blocks : Now → ℕ → List Chunk → List Mark → List Mark
writes_blocks n file [] rest = rest
writes_blocks n file (c ∷ blocks) rest = does n (writes_block file c) (writes_blocks n file blocks rest)

-- ---- fills

abbrev pub fill_patch : ℕ → ℕ → List ℕ → Patch
fill_patch pid address bytes = record { pid = pid_no pid; vpn = record { 0 = address / PAGE }; off = address % PAGE; bytes = bytes }

-- the owner is known from the table, so no line is asked for or touched
abbrev pub fill_written : Now → Patch → Option MemId → List Mark → List Mark
fill_written n patch None rest = rest
fill_written n patch (Some owner) rest = does n (op.Writes origin.Fill patch owner) rest

-- ---- output

abbrev pub stream_number : Stream → ℕ
stream_number Out = 1
stream_number Err = 2

-- ---- one clause an effect

abbrev pub marks : Now → Effect → List Mark → List Mark
marks n (Begins number pid) rest = Show (Turn number (pid_no pid)) ∷ rest
marks n (Reads kind pid address bytes) rest = walk n (line_parts (shown_kind kind) pid address bytes) rest
marks n (Writes kind pid address bytes) rest = walk n (write_parts kind pid address bytes) rest
marks n (Refused kind pid address size) rest = walk n (refused_parts kind pid address size (n.held.space pid)) rest
marks n (AsksSpan pid address size) rest = asks n (asked_for n pid address size) rest
marks n (AsksSpace pid) rest = asks n (owned_of n pid) rest
marks n (Maps pid areas) rest = maps n pid areas rest
marks n (Protects pid first pages areas) rest = puts_out_lines n (lines_in_pages n pid first pages) (maps n pid areas rest)
marks n (Unmaps pid first pages) rest = drops_lines n (lines_in_pages n pid first pages) (unmaps n pid first pages rest)
marks n (Fills pid address bytes) rest = Show (Fill (pid_no pid) address bytes) ∷ fill_written n (fill_patch pid address bytes) (page_owner n pid (address / PAGE)) rest
marks n (Copies parent child) rest = cleans_lines n (all_lines n parent) (copies n parent child rest)
marks n (Drops pid) rest = drops_lines n (all_lines n pid) (drops n pid rest)
marks n (LooksUp name) rest = does n (op.GetsName name) rest
marks n (MakesFile name) rest = does n (op.MakesName name) rest
marks n (Unlinks name) rest = does n (op.CutsName name) rest
marks n (FreesFile file) rest = does n (op.FreesFile (file_no file)) rest
marks n (AsksSize file) rest = does n (op.AsksSize (file_no file)) rest
marks n (ReadsFile file off size) rest = reads_blocks n file (spans BLOCK off size) rest
marks n (WritesFile file off bytes) rest = writes_blocks n file (chunks BLOCK off bytes) rest
marks n (CutsFile file size) rest = does n (op.CutsFile (file_no file) size) rest
marks n (Puts stream bytes) rest = Show (Shown (stream_number stream) bytes) ∷ rest
marks n other rest = rest

-- ---- what an effect makes of what the script depends on

-- in turn 0 the manager issues, later the processor of the turn's process
abbrev pub issuer_in : Now → ℕ → ℕ → Place
issuer_in n number pid = if number == 0 then Manager else issuer n pid

-- issuer, caches and owners
abbrev pub beside : Now → Effect → Now
beside n (Begins number pid) = record n { by = issuer_in n number pid }
beside n (Reads kind pid address bytes) = walked n (line_parts (shown_kind kind) pid address bytes)
beside n (Writes kind pid address bytes) = walked n (write_parts kind pid address bytes)
beside n (Refused kind pid address size) = walked n (refused_parts kind pid address size (n.held.space pid))
beside n (Maps pid areas) = with_owners pid areas n
beside n (Protects pid first pages areas) =
    with_owners pid areas (with_pasts pid (past_cleaned n (lines_in_pages n pid first pages) ++ past_removed (lines_in_pages n pid first pages)) n)
beside n (Unmaps pid first pages) = with_pasts pid (past_removed (lines_in_pages n pid first pages)) n
beside n (Copies parent child) = record (with_pasts parent (past_cleaned n (all_lines n parent)) n) { owned = inherited (pid_no parent) (pid_no child) n.owned }
beside n (Drops pid) = record (with_pasts pid (past_removed (all_lines n pid)) n) { owned = dropped (pid_no pid) n.owned }
beside n other = n

-- what is held is that of the plain kernel after the effect
abbrev pub passed : Now → Effect → Now
passed n e = record (beside n e) { held = held_after e n.held }

abbrev pub all_passed : Now → List Effect → Now
all_passed n [] = n
all_passed n (e ∷ es) = all_passed (passed n e) es

-- the marks of effects in order, then others
abbrev pub script : Now → List Effect → List Mark → List Mark
script n [] rest = rest
script n (e ∷ es) rest = marks n e (script (passed n e) es rest)

-- ---- the archive, by the manager, after the last turn

abbrev pub archive_order : Operation → Mark
archive_order operation = Call (record (order Manager operation) { late = true })

abbrev pub archives_blocks : ℕ → List Span → List Mark → List Mark
archives_blocks file [] rest = rest
archives_blocks file (x ∷ blocks) rest = archive_order (reads_block file x) ∷ archives_blocks file blocks rest

abbrev pub archives_names : Now → List NameEntry → List Mark → List Mark
archives_names n [] rest = rest
archives_names n (e ∷ names) rest =
    archive_order (op.AsksSize e.file)
    ∷ archives_blocks e.file.0 (spans BLOCK 0 (length (file_bytes n.held.files e.file.0))) (archives_names n names rest)

abbrev pub archives : Now → List Mark → List Mark
archives n rest = archive_order op.ListsNames ∷ archives_names n n.held.names rest
