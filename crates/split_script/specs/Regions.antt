-- Changes of spaces, region by region: what they call for, and what they make of caches and owners.
use Rattle.std.specs.Prelude.{ℕ, zero, suc, ◌+◌, ◌-◌, ◌*◌, ◌/◌, ◌==◌, ◌&&◌, ◌||◌, Bool, true, false, if◌then◌else◌, nat_lt, min, max, List, [], ◌∷◌, ◌++◌, length, map, filter}
use Rattle.lego_base.specs.declared.records.Area.{Area}
use Rattle.lego_base.specs.declared.records.HomeEntry.{HomeEntry}
use Rattle.lego_base.specs.declared.sizes.TheConstants.{USER_END}
use Rattle.lego_base.specs.Keys.{Key, key_at, those}
use Rattle.area_list.specs.Runs.{above, below, cut_runs, end_of}
use Rattle.lego_msg.specs.declared.operation.Operation.{Operation}
use Rattle.lego_msg.specs.declared.operation.Operation.TheVariants as op
use Rattle.lego_msg.specs.Maps.{home_key, owned_by}
use Rattle.lego_msg.specs.Marks.{Mark, Call, order}
use Rattle.lego_msg.specs.Places.{secondary_of}
use Rattle.cache_tags.specs.CacheRule.{Past, Removed, Cleaned}
use Rattle.cache_tags.specs.Sets.{SetLines}
use Rattle.cache_tags.specs.Tags.{in_range}
use Rattle.cache_tags.specs.declared.set.Held.{Held as HeldLine}
use Rattle.space_rules.specs.Pages.{with_number, with_numbers}
use Rattle.placement.specs.Owners.{Placing, entries_of, handed_on, mapped, placed_all}
use Rattle.split_script.specs.Cuts.{LINE, PAGE, REGION, REGION_PAGES}
use Rattle.split_script.specs.Now.{Now, pid_no, region_no, line_no, mem_no, lines_for, is_dirty, owners, owned_of}
use Rattle.split_script.specs.Touches.{cleaned, dropped}

-- one operation, by whoever issues
abbrev pub does : Now → Operation → List Mark → List Mark
does n operation rest = Call (order n.by operation) ∷ rest

-- ---- the lines of a process that are there

abbrev pub with_line_if : Bool → ℕ → List ℕ → List ℕ
with_line_if false line lines = lines
with_line_if true line lines = with_number line lines

abbrev pub lines_of_set : ℕ → ℕ → ℕ → List HeldLine → List ℕ → List ℕ
lines_of_set pid lo hi [] found = found
lines_of_set pid lo hi (h ∷ lines) found = with_line_if (in_range (pid_no pid) (line_no lo) (line_no hi) h) h.line.0 (lines_of_set pid lo hi lines found)

abbrev pub lines_of_sets : ℕ → ℕ → ℕ → List SetLines → List ℕ
lines_of_sets pid lo hi [] = []
lines_of_sets pid lo hi (s ∷ sets) = lines_of_set pid lo hi s.lines (lines_of_sets pid lo hi sets)

-- those with numbers from lo to before hi, in rising order
abbrev pub lines_there : Now → ℕ → ℕ → ℕ → List Key
lines_there n pid lo hi = map (key_at pid) (lines_of_sets pid lo hi (lines_for n pid).sets)

abbrev pub lines_in_pages : Now → ℕ → ℕ → ℕ → List Key
lines_in_pages n pid first pages = lines_there n pid (first * 64) ((first + pages) * 64)

abbrev pub all_lines : Now → ℕ → List Key
all_lines n pid = lines_there n pid 0 (USER_END / LINE)

-- they are dropped; written back and dropped; written back, and kept clean
abbrev pub drops_lines : Now → List Key → List Mark → List Mark
drops_lines n [] rest = rest
drops_lines n (x ∷ lines) rest = dropped n x (drops_lines n lines rest)

abbrev pub puts_out_lines : Now → List Key → List Mark → List Mark
puts_out_lines n [] rest = rest
puts_out_lines n (x ∷ lines) rest = cleaned n x (dropped n x (puts_out_lines n lines rest))

abbrev pub cleans_lines : Now → List Key → List Mark → List Mark
cleans_lines n [] rest = rest
cleans_lines n (x ∷ lines) rest = cleaned n x (cleans_lines n lines rest)

-- and what that makes of the cache
abbrev pub past_cleaned : Now → List Key → List Past
past_cleaned n [] = []
past_cleaned n (x ∷ lines) = if is_dirty n x then Cleaned x ∷ past_cleaned n lines else past_cleaned n lines

abbrev pub past_removed : List Key → List Past
past_removed lines = map Removed lines

-- ---- areas

-- the part of areas that lies in a region
abbrev pub part_in : ℕ → List Area → List Area
part_in region areas = above (region * REGION_PAGES) (below ((region + 1) * REGION_PAGES) areas)

abbrev pub same_area : Area → Area → Bool
same_area a b = a.first.0 == b.first.0 && a.pages == b.pages && a.perms.0 == b.perms.0

abbrev pub same_areas : List Area → List Area → Bool
same_areas [] [] = true
same_areas [] (b ∷ bs) = false
same_areas (a ∷ as_) [] = false
same_areas (a ∷ as_) (b ∷ bs) = same_area a b && same_areas as_ bs

-- the regions that areas meet, in rising order
abbrev pub regions_of : List Area → List ℕ
regions_of [] = []
regions_of (a ∷ areas) = with_numbers (a.first.0 / REGION_PAGES) ((end_of a - 1) / REGION_PAGES + 1 - a.first.0 / REGION_PAGES) (regions_of areas)

-- ---- askings

-- the areas of regions are asked for, one by one
abbrev pub asks : Now → List HomeEntry → List Mark → List Mark
asks n [] rest = rest
asks n (e ∷ entries) rest = does n (op.AsksAreas e.pid e.region e.owner) (asks n entries rest)

abbrev pub meets_span : ℕ → ℕ → HomeEntry → Bool
meets_span address n e = nat_lt address ((e.region.0 + 1) * REGION) && nat_lt (e.region.0 * REGION) (address + n)

-- the owned regions that a range meets: a range of no byte, or past the end of user addresses, asks nothing
abbrev pub asked_for : Now → ℕ → ℕ → ℕ → List HomeEntry
asked_for n pid address size =
    if size == 0 || nat_lt USER_END (address + size) then [] else filter (meets_span address size) (owned_of n pid)

-- ---- pages are mapped, or get other permissions

-- the regions without an owner get one, in rising order, as the placement list says
abbrev pub placings : Now → ℕ → List Area → List Placing
placings n pid areas = mapped (pid_no pid) (map region_no (regions_of areas)) (owners n)

abbrev pub with_owners : ℕ → List Area → Now → Now
with_owners pid areas n = record n { owned = placed_all (placings n pid areas) n.owned }

-- the new owners
abbrev pub new_owners : Now → ℕ → List Area → List HomeEntry
new_owners n pid areas = entries_of n.owned.placement n.owned.given (placings n pid areas)

-- all new owners come with the first of their operations
abbrev pub sets_homes : Now → List HomeEntry → List HomeEntry → List Mark → List Mark
sets_homes n new [] rest = rest
sets_homes n new (e ∷ entries) rest = Call (record (order n.by (op.SetsHome e.pid e.region e.owner)) { owners = new }) ∷ sets_homes n [] entries rest

-- the regions whose areas become others
abbrev pub sets_areas_of : Now → HomeEntry → List Area → List Area → List Mark → List Mark
sets_areas_of n e old new rest = if same_areas old new then rest else does n (op.SetsAreas e.pid e.region new e.owner) rest

abbrev pub sets_areas : Now → List Area → List Area → List HomeEntry → List Mark → List Mark
sets_areas n old new [] rest = rest
sets_areas n old new (e ∷ entries) rest = sets_areas_of n e (part_in e.region.0 old) (part_in e.region.0 new) (sets_areas n old new entries rest)

abbrev pub maps : Now → ℕ → List Area → List Mark → List Mark
maps n pid areas rest =
    asks n (owned_of n pid)
    (sets_homes n (new_owners n pid areas) (new_owners n pid areas)
    (sets_areas n (n.held.space pid).areas areas (owned_of (with_owners pid areas n) pid) rest))

-- ---- pages are unmapped

-- the part of a range of pages in a region
abbrev pub range_start : ℕ → HomeEntry → ℕ
range_start first e = max first (e.region.0 * REGION_PAGES)

abbrev pub range_end : ℕ → ℕ → HomeEntry → ℕ
range_end first pages e = min (first + pages) ((e.region.0 + 1) * REGION_PAGES)

abbrev pub has_mapped : ℕ → ℕ → List Area → Bool
has_mapped lo hi areas = nat_lt 0 (length (above lo (below hi areas)))

-- a region is drained and unmapped where it has a mapped page in the range
abbrev pub unmaps_part : Now → List Area → HomeEntry → ℕ → ℕ → List Mark → List Mark
unmaps_part n areas e lo hi rest =
    if has_mapped lo hi areas
    then does n (op.Drains (mem_no (secondary_of (length n.shape.frames) e.owner.0)))
    (does n (op.Unmaps e.pid e.region (record { 0 = lo }) (hi - lo) (cut_runs lo (hi - lo) (part_in e.region.0 areas)) e.owner) rest)
    else rest

abbrev pub unmaps_parts : Now → List Area → ℕ → ℕ → List HomeEntry → List Mark → List Mark
unmaps_parts n areas first pages [] rest = rest
unmaps_parts n areas first pages (e ∷ entries) rest =
    unmaps_part n areas e (range_start first e) (range_end first pages e) (unmaps_parts n areas first pages entries rest)

abbrev pub unmaps : Now → ℕ → ℕ → ℕ → List Mark → List Mark
unmaps n pid first pages rest =
    asks n (asked_for n pid (first * PAGE) (pages * PAGE))
    (unmaps_parts n (n.held.space pid).areas first pages (asked_for n pid (first * PAGE) (pages * PAGE)) rest)

-- ---- a space is copied

-- who owns regions among these, in rising order
abbrev pub owners_among : List HomeEntry → List ℕ
owners_among [] = []
owners_among (e ∷ entries) = with_number e.owner.0 (owners_among entries)

-- the secondary of each owner is drained; the child's owners come with the first of these
abbrev pub drains_for : Now → List HomeEntry → List ℕ → List Mark → List Mark
drains_for n new [] rest = rest
drains_for n new (owner ∷ more) rest =
    Call (record (order n.by (op.Drains (mem_no (secondary_of (length n.shape.frames) owner)))) { owners = new }) ∷ drains_for n [] more rest

abbrev pub copies_for : Now → ℕ → ℕ → List HomeEntry → List ℕ → List Mark → List Mark
copies_for n parent child entries [] rest = rest
copies_for n parent child entries (owner ∷ more) rest =
    does n (op.Copies (pid_no parent) (pid_no child) (map (λ e. e.region) (owned_by owner entries)) (mem_no owner)) (copies_for n parent child entries more rest)

abbrev pub copies : Now → ℕ → ℕ → List Mark → List Mark
copies n parent child rest =
    drains_for n (handed_on (pid_no parent) (pid_no child) (owners n)) (owners_among (owned_of n parent))
    (sets_homes n [] (handed_on (pid_no parent) (pid_no child) (owners n))
    (copies_for n parent child (owned_of n parent) (owners_among (owned_of n parent)) rest))

-- ---- a space is dropped

abbrev pub drains_from : Now → ℕ → ℕ → List Mark → List Mark
drains_from n zero number rest = rest
drains_from n (suc memories) number rest = does n (op.Drains (mem_no number)) (drains_from n memories (number + 1) rest)

abbrev pub drops : Now → ℕ → List Mark → List Mark
drops n pid rest = drains_from n (length n.shape.frames) 0 (does n (op.Drops (pid_no pid)) rest)
