-- The rule of the processors' caches, over the whole past of one processor. Time is the place in the list of
-- what happened. There is no list of lines that is kept and moved; the bounded lists of the code are proved
-- to be this.
use Rattle.std.specs.Prelude.{◌+◌, ◌%◌, ◌==◌, ◌&&◌, ◌||◌, if◌then◌else◌, [], ◌∷◌, ◌++◌, ℕ, Bool, List, None, Option, Some, false, length, nat_le, not, true}
use Rattle.lego_base.specs.Keys.{Key, same_key}

-- what happens to a line, which is named by process and line number
pub data Past : Type 0 where
  -- it is touched, where an area has its page
  Touched : Key → Past
  -- it is removed, by unmapping, a change of permissions, exec or death
  Removed : Key → Past
  -- a store or a copy to the space meets it
  Stored : Key → Past
  -- it is written back and stays
  Cleaned : Key → Past

-- how large a cache is: sets, and lines of a set
pub record Size : Type 0 where
  pub sets : ℕ
  pub ways : ℕ

abbrev pub same_set : Size → Key → Key → Bool
same_set c a b = a.number % c.sets == b.number % c.sets

-- whether a line is in a list of distinct ones
abbrev pub has_line : Key → List Key → Bool
has_line x [] = false
has_line x (y ∷ lines) = same_key y x || has_line x lines

abbrev pub without_line : Key → List Key → List Key
without_line x [] = []
without_line x (y ∷ lines) = if same_key y x then without_line x lines else y ∷ without_line x lines

abbrev pub with_new : Key → List Key → List Key
with_new x lines = if has_line x lines then lines else x ∷ lines

-- the other lines of a line's set that were touched and not removed since, after one more thing happened
abbrev pub crowd_after : Size → Key → Past → List Key → List Key
crowd_after c x (Touched y) lines = if same_set c x y && not (same_key x y) then with_new y lines else lines
crowd_after c x (Removed y) lines = without_line y lines
crowd_after c x (Stored y) lines = lines
crowd_after c x (Cleaned y) lines = lines

-- whether at some moment of a while as many other lines of its set as the set has ways were in the crowd
abbrev pub was_crowded : Size → Key → List Past → List Key → Bool
was_crowded c x [] lines = nat_le c.ways (length lines)
was_crowded c x (e ∷ past) lines = nat_le c.ways (length lines) || was_crowded c x past (crowd_after c x e lines)

-- what came after the last touch of a line, where it was touched and not removed since
abbrev pub since_after : Key → Past → Option (List Past) → Option (List Past)
since_after x (Touched y) None = if same_key x y then Some [] else None
since_after x (Touched y) (Some past) = if same_key x y then Some [] else Some (past ++ Touched y ∷ [])
since_after x (Removed y) None = None
since_after x (Removed y) (Some past) = if same_key x y then None else Some (past ++ Removed y ∷ [])
since_after x (Stored y) None = None
since_after x (Stored y) (Some past) = Some (past ++ Stored y ∷ [])
since_after x (Cleaned y) None = None
since_after x (Cleaned y) (Some past) = Some (past ++ Cleaned y ∷ [])

abbrev pub since_touch : Key → List Past → Option (List Past) → Option (List Past)
since_touch x [] so_far = so_far
since_touch x (e ∷ past) so_far = since_touch x past (since_after x e so_far)

abbrev pub is_uncrowded : Size → Key → Option (List Past) → Bool
is_uncrowded c x None = false
is_uncrowded c x (Some past) = not (was_crowded c x past [])

-- A line is there where it was touched, it wasn't removed since its last touch, and at no moment since that
-- touch were there as many other lines of its set as the set has ways, each touched after it and not removed
-- since.
abbrev pub is_there : Size → List Past → Key → Bool
is_there c past x = is_uncrowded c x (since_touch x past None)

-- a touch of a line that is there is a hit, any other a miss
abbrev pub is_hit : Size → List Past → Key → Bool
is_hit c past x = is_there c past x

-- the lines that were touched, each once
abbrev pub touched_lines : List Past → List Key → List Key
touched_lines [] lines = lines
touched_lines (Touched x ∷ past) lines = touched_lines past (with_new x lines)
touched_lines (Removed x ∷ past) lines = touched_lines past lines
touched_lines (Stored x ∷ past) lines = touched_lines past lines
touched_lines (Cleaned x ∷ past) lines = touched_lines past lines

-- The victim of a touch: the line that stops being there.
abbrev pub leaving : Size → List Past → Key → List Key → Option Key
leaving c past x [] = None
leaving c past x (y ∷ lines) = if is_there c past y && not (is_there c (past ++ Touched x ∷ []) y) then Some y else leaving c past x lines

abbrev pub victim : Size → List Past → Key → Option Key
victim c past x = leaving c past x (touched_lines past [])

-- whether a line is dirty after one more thing happened: a miss brings it in clean
abbrev pub dirty_after : Size → List Past → Key → Past → Bool → Bool
dirty_after c before x (Touched y) dirty = if same_key x y && not (is_there c before x) then false else dirty
dirty_after c before x (Removed y) dirty = dirty
dirty_after c before x (Stored y) dirty = if same_key x y then true else dirty
dirty_after c before x (Cleaned y) dirty = if same_key x y then false else dirty

abbrev pub dirty_along : Size → List Past → Key → List Past → Bool → Bool
dirty_along c before x [] dirty = dirty
dirty_along c before x (e ∷ past) dirty = dirty_along c (before ++ e ∷ []) x past (dirty_after c before x e dirty)

-- A line is dirty where a store or a copy to the space met it since it came in or was last written back.
abbrev pub is_dirty : Size → List Past → Key → Bool
is_dirty c past x = dirty_along c [] x past false

-- COUNTS: hits, misses, evictions, and lines written back as victims, by fork and by a change of permissions
pub record Tally : Type 0 where
  pub hits : ℕ
  pub misses : ℕ
  pub evictions : ℕ
  pub writebacks : ℕ

abbrev pub no_tally : Tally
no_tally = record { hits = 0; misses = 0; evictions = 0; writebacks = 0 }

abbrev pub evicted : Size → List Past → Option Key → Tally → Tally
evicted c past None n = n
evicted c past (Some v) n = record n { evictions = n.evictions + 1; writebacks = if is_dirty c past v then n.writebacks + 1 else n.writebacks }

abbrev pub tally_after : Size → List Past → Past → Tally → Tally
tally_after c past (Touched x) n = if is_hit c past x then record n { hits = n.hits + 1 } else evicted c past (victim c past x) (record n { misses = n.misses + 1 })
tally_after c past (Removed x) n = n
tally_after c past (Stored x) n = n
tally_after c past (Cleaned x) n = record n { writebacks = n.writebacks + 1 }

abbrev pub tally_along : Size → List Past → List Past → Tally → Tally
tally_along c before [] n = n
tally_along c before (e ∷ past) n = tally_along c (before ++ e ∷ []) past (tally_after c before e n)

abbrev pub tally : Size → List Past → Tally
tally c past = tally_along c [] past no_tally
