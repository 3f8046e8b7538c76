-- The script shows the flat run: whatever is called for, and whichever lines are dropped, what else is shown is the same.
use Rattle.std.proofs.Common.{◌≡◌, ℕ, zero, suc, ◌+◌, ◌*◌, ◌/◌, Bool, true, false, cond, leb, ◌||◌, refl, ◌∙◌, ap, List, [], ◌∷◌, ◌++◌, map, length, Option, Some, None}
use Rattle.lego_base.specs.declared.ids.MemId.{MemId}
use Rattle.lego_base.specs.declared.records.Area.{Area}
use Rattle.lego_base.specs.declared.records.HomeEntry.{HomeEntry}
use Rattle.lego_base.specs.declared.records.Patch.{Patch}
use Rattle.lego_base.specs.declared.shape.Shape.{Shape}
use Rattle.lego_base.specs.declared.sizes.TheConstants.{USER_END}
use Rattle.lego_base.specs.Keys.{Key}
use Rattle.lego_msg.specs.declared.event.Event.{Event}
use Rattle.lego_msg.specs.Laws.{shows}
use Rattle.lego_msg.specs.Marks.{Mark}
use Rattle.placement.specs.Owners.{handed_on}
use Rattle.linux_model.specs.Effects.{Effect, Reads, Writes, Refused, AsksSpan, AsksSpace, Maps, Protects, Unmaps, Fills, Copies, Drops, ReadsFile, WritesFile}
use Rattle.linux_model.specs.Held.{held_after}
use Rattle.split_script.specs.Cuts.{LINE, PAGE, BLOCK, Span, Chunk, spans, chunks}
use Rattle.split_script.specs.Now.{Now, pid_no, line_at, is_there, is_dirty, is_mapped, line_owner, line_patch, page_owner, owned_of, owners}
use Rattle.split_script.specs.Touches.{Part, shown_kind, line_parts, write_parts, refused_parts, writes_back, cleaned, dropped, put_out, victim, reads_from, touches, access_of, part_passed, walk}
use Rattle.split_script.specs.Regions.{asks, asked_for, sets_homes, sets_areas, maps, has_mapped, unmaps_parts, unmaps, range_start, range_end, drains_for, copies_for, copies, drains_from, drops_lines, puts_out_lines, cleans_lines, lines_in_pages, all_lines, same_areas, part_in, new_owners, owners_among, with_owners}
use Rattle.split_script.specs.Script.{marks, passed, script, reads_blocks, writes_blocks, fill_written, fill_patch}
use Rattle.split_script.specs.Seen.{part_seen, seen, all_seen, undropped}
use Rattle.split_script.specs.Laws.{ScriptShowsTheFlatRun}
use Rattle.split_script.proofs.Shapes.{part_keeps, effect_keeps}

-- what marks show, drops of lines aside
abbrev Q : List Mark → List Event
Q due = undropped (shows due)

-- both sides of a choice show the same
choice : (b : Bool) (r s : List Mark) (x : List Event) → Q r ≡ x → Q s ≡ x → Q (cond b r s) ≡ x
choice true r s x e f = e
choice false r s x e f = f

-- ---- touches

back_shows : (n : Now) (owner : Option MemId) (patch : Patch) (rest : List Mark) → Q (writes_back n owner patch rest) ≡ Q rest
back_shows n None patch rest = refl
back_shows n (Some owner) patch rest = refl

cleaned_shows : (n : Now) (x : Key) (rest : List Mark) → Q (cleaned n x rest) ≡ Q rest
cleaned_shows n x rest = choice (is_dirty n x) (writes_back n (line_owner n x) (line_patch n x) rest) rest (Q rest) (back_shows n (line_owner n x) (line_patch n x) rest) refl

out_shows : (n : Now) (x : Option Key) (rest : List Mark) → Q (put_out n x rest) ≡ Q rest
out_shows n None rest = refl
out_shows n (Some x) rest = cleaned_shows n x (dropped n x rest)

reads_show : (n : Now) (x : Key) (owner : Option MemId) (rest : List Mark) → Q (reads_from n x owner rest) ≡ Q rest
reads_show n x None rest = refl
reads_show n x (Some owner) rest = choice (is_mapped n x) (put_out n (victim n x) rest) rest (Q rest) (out_shows n (victim n x) rest) refl

touches_show : (n : Now) (x : Key) (rest : List Mark) → Q (touches n x rest) ≡ Q rest
touches_show n x rest = choice (leb USER_END (x.number * LINE) || is_there n x) rest _ (Q rest) refl (reads_show n x (line_owner n x) rest)

walk_shows : (n : Now) (parts : List Part) (rest : List Mark) → Q (walk n parts rest) ≡ map (part_seen n.shape.processors) parts ++ Q rest
walk_shows n [] rest = refl
walk_shows n (a ∷ parts) rest =
    touches_show n (line_at a.pid a.at) _
    ∙ ap (λ (es : List Event). access_of n a ∷ es) (
    walk_shows (part_passed n a) parts rest
    ∙ ap (λ (s : Shape). map (part_seen s.processors) parts ++ Q rest) (part_keeps n a))

-- ---- lines

drops_show : (n : Now) (lines : List Key) (rest : List Mark) → Q (drops_lines n lines rest) ≡ Q rest
drops_show n [] rest = refl
drops_show n (x ∷ lines) rest = drops_show n lines rest

puts_out_show : (n : Now) (lines : List Key) (rest : List Mark) → Q (puts_out_lines n lines rest) ≡ Q rest
puts_out_show n [] rest = refl
puts_out_show n (x ∷ lines) rest = cleaned_shows n x (dropped n x (puts_out_lines n lines rest)) ∙ puts_out_show n lines rest

cleans_show : (n : Now) (lines : List Key) (rest : List Mark) → Q (cleans_lines n lines rest) ≡ Q rest
cleans_show n [] rest = refl
cleans_show n (x ∷ lines) rest = cleaned_shows n x (cleans_lines n lines rest) ∙ cleans_show n lines rest

-- ---- regions

asks_show : (n : Now) (entries : List HomeEntry) (rest : List Mark) → Q (asks n entries rest) ≡ Q rest
asks_show n [] rest = refl
asks_show n (e ∷ entries) rest = asks_show n entries rest

homes_show : (n : Now) (new entries : List HomeEntry) (rest : List Mark) → Q (sets_homes n new entries rest) ≡ Q rest
homes_show n new [] rest = refl
homes_show n new (e ∷ entries) rest = homes_show n [] entries rest

areas_show : (n : Now) (old new : List Area) (entries : List HomeEntry) (rest : List Mark) → Q (sets_areas n old new entries rest) ≡ Q rest
areas_show n old new [] rest = refl
areas_show n old new (e ∷ entries) rest =
    choice (same_areas (part_in e.region.0 old) (part_in e.region.0 new)) (sets_areas n old new entries rest) _ (Q (sets_areas n old new entries rest)) refl refl
    ∙ areas_show n old new entries rest

maps_show : (n : Now) (pid : ℕ) (areas : List Area) (rest : List Mark) → Q (maps n pid areas rest) ≡ Q rest
maps_show n pid areas rest =
    asks_show n (owned_of n pid) _
    ∙ homes_show n (new_owners n pid areas) (new_owners n pid areas) _
    ∙ areas_show n (n.held.space pid).areas areas (owned_of (with_owners pid areas n) pid) rest

parts_show : (n : Now) (areas : List Area) (first pages : ℕ) (entries : List HomeEntry) (rest : List Mark) → Q (unmaps_parts n areas first pages entries rest) ≡ Q rest
parts_show n areas first pages [] rest = refl
parts_show n areas first pages (e ∷ entries) rest =
    choice (has_mapped (range_start first e) (range_end first pages e) areas) _ (unmaps_parts n areas first pages entries rest) (Q (unmaps_parts n areas first pages entries rest)) refl refl
    ∙ parts_show n areas first pages entries rest

unmaps_show : (n : Now) (pid first pages : ℕ) (rest : List Mark) → Q (unmaps n pid first pages rest) ≡ Q rest
unmaps_show n pid first pages rest =
    asks_show n (asked_for n pid (first * PAGE) (pages * PAGE)) _
    ∙ parts_show n (n.held.space pid).areas first pages (asked_for n pid (first * PAGE) (pages * PAGE)) rest

drains_show : (n : Now) (new : List HomeEntry) (owners : List ℕ) (rest : List Mark) → Q (drains_for n new owners rest) ≡ Q rest
drains_show n new [] rest = refl
drains_show n new (owner ∷ more) rest = drains_show n [] more rest

copied_show : (n : Now) (parent child : ℕ) (entries : List HomeEntry) (owners : List ℕ) (rest : List Mark) → Q (copies_for n parent child entries owners rest) ≡ Q rest
copied_show n parent child entries [] rest = refl
copied_show n parent child entries (owner ∷ more) rest = copied_show n parent child entries more rest

copies_show : (n : Now) (parent child : ℕ) (rest : List Mark) → Q (copies n parent child rest) ≡ Q rest
copies_show n parent child rest =
    drains_show n (handed_on (pid_no parent) (pid_no child) (owners n)) (owners_among (owned_of n parent)) _
    ∙ homes_show n [] (handed_on (pid_no parent) (pid_no child) (owners n)) _
    ∙ copied_show n parent child (owned_of n parent) (owners_among (owned_of n parent)) rest

all_drained_show : (n : Now) (memories number : ℕ) (rest : List Mark) → Q (drains_from n memories number rest) ≡ Q rest
all_drained_show n zero number rest = refl
all_drained_show n (suc memories) number rest = all_drained_show n memories (number + 1) rest

-- ---- files and fills

blocks_read_show : (n : Now) (file : ℕ) (blocks : List Span) (rest : List Mark) → Q (reads_blocks n file blocks rest) ≡ Q rest
blocks_read_show n file [] rest = refl
blocks_read_show n file (x ∷ blocks) rest = blocks_read_show n file blocks rest

blocks_written_show : (n : Now) (file : ℕ) (blocks : List Chunk) (rest : List Mark) → Q (writes_blocks n file blocks rest) ≡ Q rest
blocks_written_show n file [] rest = refl
blocks_written_show n file (c ∷ blocks) rest = blocks_written_show n file blocks rest

fill_shows : (n : Now) (patch : Patch) (owner : Option MemId) (rest : List Mark) → Q (fill_written n patch owner rest) ≡ Q rest
fill_shows n patch None rest = refl
fill_shows n patch (Some owner) rest = refl

-- ---- one effect, and all

effect_shows : (n : Now) (e : Effect) (rest : List Mark) → Q (marks n e rest) ≡ seen n.shape.processors n.held e ++ Q rest
effect_shows n (Reads kind pid address bytes) rest = walk_shows n (line_parts (shown_kind kind) pid address bytes) rest
effect_shows n (Writes kind pid address bytes) rest = walk_shows n (write_parts kind pid address bytes) rest
effect_shows n (Refused kind pid address size) rest = walk_shows n (refused_parts kind pid address size (n.held.space pid)) rest
effect_shows n (AsksSpan pid address size) rest = asks_show n (asked_for n pid address size) rest
effect_shows n (AsksSpace pid) rest = asks_show n (owned_of n pid) rest
effect_shows n (Maps pid areas) rest = maps_show n pid areas rest
effect_shows n (Protects pid first pages areas) rest = puts_out_show n (lines_in_pages n pid first pages) _ ∙ maps_show n pid areas rest
effect_shows n (Unmaps pid first pages) rest = drops_show n (lines_in_pages n pid first pages) _ ∙ unmaps_show n pid first pages rest
effect_shows n (Fills pid address bytes) rest = ap (λ (es : List Event). seen n.shape.processors n.held (Fills pid address bytes) ++ es) (fill_shows n (fill_patch pid address bytes) (page_owner n pid (address / PAGE)) rest)
effect_shows n (Copies parent child) rest = cleans_show n (all_lines n parent) _ ∙ copies_show n parent child rest
effect_shows n (Drops pid) rest = drops_show n (all_lines n pid) _ ∙ all_drained_show n (length n.shape.frames) 0 _
effect_shows n (ReadsFile file off size) rest = blocks_read_show n file (spans BLOCK off size) rest
effect_shows n (WritesFile file off bytes) rest = blocks_written_show n file (chunks BLOCK off bytes) rest
effect_shows n e rest = refl

pub shows_the_run : ScriptShowsTheFlatRun
shows_the_run n [] = refl
shows_the_run n (e ∷ es) =
    effect_shows n e (script (passed n e) es [])
    ∙ ap (λ (xs : List Event). seen n.shape.processors n.held e ++ xs) (
    shows_the_run (passed n e) es
    ∙ ap (λ (s : Shape). all_seen s.processors (held_after e n.held) es) (effect_keeps n e))
