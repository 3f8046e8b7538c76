-- The lists of a processor's cache: each set lists its lines, newest first, and a line is in the set at its number modulo
-- the count of sets. A line that is touched moves to the front; one that comes in takes a free slot, or that of the oldest.
use Rattle.std.specs.List.{range_with_len, remove}
use Rattle.std.specs.Prelude.{◌==◌, ◌&&◌, if◌then◌else◌, [], ◌∷◌, ℕ, Bool, List, None, Option, Some, slice_index_or}
use Rattle.lego_base.specs.declared.ids.LineNo.{LineNo}
use Rattle.lego_base.specs.declared.ids.Pid.{Pid}
use Rattle.cache_tags.specs.Sets.{SetLines}
use Rattle.cache_tags.specs.declared.set.Held.{Held}

-- whether an entry is of a line of a process
abbrev pub is_line : Pid → LineNo → Held → Bool
is_line pid line h = h.pid.0 == pid.0 && h.line.0 == line.0

abbrev pub held : Pid → LineNo → ℕ → Held
held pid line slot = record { line = line; pid = pid; slot = slot }

-- A SET

abbrev pub free_entry : ℕ → Held
free_entry slot = record { line = record { 0 = 0 }; pid = record { 0 = 0 }; slot = slot }

abbrev pub empty_set : ℕ → ℕ → SetLines
empty_set first ways = record { lines = []; free = range_with_len first ways }

-- the slot of a line, where it is the first of a list
abbrev pub newest_slot : Pid → LineNo → List Held → Option ℕ
newest_slot pid line [] = None
newest_slot pid line (h ∷ lines) = if is_line pid line h then Some h.slot else None

-- the line at a place
abbrev pub line_at : List Held → ℕ → Held
line_at lines place = slice_index_or lines place (free_entry 0)

-- the line at a place moves to the front
abbrev pub brought : ℕ → SetLines → SetLines
brought place s = record s { lines = line_at s.lines place ∷ remove s.lines place }

-- the line at a place goes, and its slot is free
abbrev pub released : ℕ → SetLines → SetLines
released place s = record { lines = remove s.lines place; free = (line_at s.lines place).slot ∷ s.free }

-- a line that comes in: its slot, the line that leaves, and the set then
pub record Coming : Type 0 where
  pub slot : ℕ
  pub leaves : Option Held
  pub set : SetLines

-- the last of a list that begins with a line, and those before it
abbrev pub oldest : Held → List Held → Held
oldest h [] = h
oldest h (x ∷ lines) = oldest x lines

abbrev pub younger : Held → List Held → List Held
younger h [] = []
younger h (x ∷ lines) = h ∷ younger x lines

abbrev pub coming_to : Pid → LineNo → List ℕ → List Held → Coming
coming_to pid line (slot ∷ free) lines = record { slot = slot; leaves = None; set = record { lines = held pid line slot ∷ lines; free = free } }
coming_to pid line [] (h ∷ lines) = record {
  slot = (oldest h lines).slot;
  leaves = Some (oldest h lines);
  set = record { lines = held pid line (oldest h lines).slot ∷ younger h lines; free = [] };
}
coming_to pid line [] [] = record { slot = 0; leaves = None; set = record { lines = []; free = [] } }

abbrev pub coming : Pid → LineNo → SetLines → Coming
coming pid line s = coming_to pid line s.free s.lines
