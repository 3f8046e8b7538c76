-- No wait is for ever.
use Rattle.std.specs.Prelude.{◌≡◌, ◌+◌, ◌<◌, ◌≤◌, ◌==◌, ◌&&◌, ◌||◌, [], ◌∷◌, ℕ, Bool, List, false, is_some, length, not}
use Rattle.lego_base.specs.declared.ids.MemId.{MemId}
use Rattle.lego_base.specs.declared.shape.Shape.{Shape}
use Rattle.lego_msg.specs.Legal.{Legal, May}
use Rattle.lego_msg.specs.Marks.{Mark}
use Rattle.lego_msg.specs.Run.{after, run}
use Rattle.lego_msg.specs.State.{Mem}
use Rattle.lego_msg.specs.Track.{Track, is_calm, start}
use Rattle.lego_msg.specs.declared.event.Event.{Event}
use Rattle.lego_msg.specs.declared.event.Event.TheVariants.{Crash}
use Rattle.lego_waits.specs.Measure.{load}

-- nothing is owed, open, healing or due: only what is called for, or shown, may come
abbrev pub is_busy : Track → Bool
is_busy t = not (length t.owed == 0) || is_some t.current || is_some t.healing

abbrev pub is_still : Track → Bool
is_still t = not (is_busy t) && is_calm t

-- memory k is in place k, and its log has room for a patch at least
abbrev pub AreInPlace : ℕ → List Mem → Type 0
AreInPlace k [] = Unit {0}
AreInPlace k (s ∷ mems) = (s.id ≡ k) × (0 < s.log_room) × AreInPlace (k + 1) mems

-- Each event that may come while something is owed, open, healing or due lowers the load.
abbrev pub EachEventLowers : Type 0
EachEventLowers = (t : Track) (e : Event) → AreInPlace 0 t.mems → is_still t ≡ false → May t e → load (after t e) < load t

-- A crash lowers it at any moment, at the end of a turn too.
abbrev pub CrashesLower : Type 0
CrashesLower = (t : Track) (c : MemId) (inc : ℕ) → May t (Crash c inc) → load (after t (Crash c inc)) < load t

-- Memories stay in place along legal lists; at the beginning they are, where a log has room.
abbrev pub PlacesStay : Type 0
PlacesStay = (t : Track) (es : List Event) → AreInPlace 0 t.mems → Legal t es → AreInPlace 0 (run t es).mems

abbrev pub StartInPlace : Type 0
StartInPlace = (shape : Shape) (due : List Mark) → 0 < shape.log → AreInPlace 0 (start shape due).mems

-- events that come while something is owed, open, healing or due
abbrev pub IsBusyAlong : Track → List Event → Type 0
IsBusyAlong t [] = Unit {0}
IsBusyAlong t (e ∷ es) = (is_still t ≡ false) × IsBusyAlong (after t e) es

-- So a legal list of such events has at most as many as the load says.
abbrev pub NoWaitIsForEver : Type 0
NoWaitIsForEver = (t : Track) (es : List Event) → AreInPlace 0 t.mems → Legal t es → IsBusyAlong t es → length es ≤ load t
