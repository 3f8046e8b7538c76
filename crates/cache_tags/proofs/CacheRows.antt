-- Worked touches of a cache, by computation.
use Rattle.std.proofs.Common.{◌≡◌, [], ◌∷◌, ℕ, List, None, Some, false, refl, true}
use Rattle.cache_tags.specs.CacheRule.{Cleaned, Past, Removed, Size, Stored, Touched, is_dirty, is_there, tally, victim}
use Rattle.lego_base.specs.Keys.{Key}

abbrev line : ℕ → Key
line number = record { pid = 1; number = number }

abbrev one_line : Size
one_line = record { sets = 1; ways = 1 }

abbrev two_ways : Size
two_ways = record { sets = 2; ways = 2 }

-- Six instructions of one line, and two stores and a load at two lines of the stack between them, with room for one
-- line in all: the instruction's line (1026) and the stack's lines take turns.
abbrev stores_and_a_load : List Past
stores_and_a_load =
    Touched (line 1026) ∷ Touched (line 1026)
    ∷ Touched (line 901) ∷ Stored (line 901)
    ∷ Touched (line 1026) ∷ Touched (line 900) ∷ Stored (line 900)
    ∷ Touched (line 1026) ∷ Touched (line 901)
    ∷ Touched (line 1026) ∷ Touched (line 1026)
    ∷ []

six_instructions : tally one_line stores_and_a_load ≡ record { hits = 2; misses = 7; evictions = 6; writebacks = 2 }
six_instructions = refl

-- a line that was stored to is dirty, and clean again once it came in anew
dirty_once_stored : is_dirty one_line (Touched (line 1) ∷ Stored (line 1) ∷ []) (line 1) ≡ true
dirty_once_stored = refl

clean_once_anew : is_dirty one_line (Touched (line 1) ∷ Stored (line 1) ∷ Touched (line 2) ∷ Touched (line 1) ∷ []) (line 1) ≡ false
clean_once_anew = refl

-- written back once and stored to again: dirty again
dirty_again : is_dirty one_line (Touched (line 1) ∷ Stored (line 1) ∷ Cleaned (line 1) ∷ Stored (line 1) ∷ []) (line 1) ≡ true
dirty_again = refl

-- the line that wasn't touched for longest goes, whatever was brought in first
oldest_touch_goes : victim two_ways (Touched (line 0) ∷ Touched (line 2) ∷ Touched (line 0) ∷ []) (line 4) ≡ Some (line 2)
oldest_touch_goes = refl

-- lines of another set don't count
other_set_stays : is_there two_ways (Touched (line 0) ∷ Touched (line 1) ∷ Touched (line 3) ∷ Touched (line 5) ∷ []) (line 0) ≡ true
other_set_stays = refl

-- a line that left stays away, also once the lines that stood in its place are removed
away_stays_away : is_there one_line (Touched (line 1) ∷ Touched (line 2) ∷ Removed (line 2) ∷ []) (line 1) ≡ false
away_stays_away = refl

-- a removed line makes room
removed_makes_room : victim one_line (Touched (line 1) ∷ Removed (line 1) ∷ []) (line 2) ≡ None
removed_makes_room = refl

-- a removed line crowds no other
removed_crowds_none : is_there (record { sets = 1; ways = 2 }) (Touched (line 0) ∷ Touched (line 2) ∷ Removed (line 2) ∷ Touched (line 4) ∷ []) (line 0) ≡ true
removed_crowds_none = refl
