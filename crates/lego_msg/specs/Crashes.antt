-- Crashes. An entry of the crash list happens at its moment: after this many deliveries of its turn, with what they send
-- and complete, or at the turn's end where there are fewer.
use Rattle.std.specs.Prelude.{◌≡◌, ◌+◌, ◌&&◌, ◌||◌, [], ℕ, Bool, List, None, Option, Some, false, not, slice_get, slice_set, true}
use Rattle.lego_base.specs.declared.shape.CrashAt.{CrashAt}
use Rattle.lego_msg.specs.Healing.{moves_of}
use Rattle.lego_msg.specs.Marks.{is_turn_end}
use Rattle.lego_msg.specs.Places.{lose, memory}
use Rattle.lego_msg.specs.State.{Mem, lost}
use Rattle.lego_msg.specs.Track.{Track, forget, is_any_done, is_crash_due, is_crash_left, memory_count, next_crash}
use Rattle.lego_msg.specs.declared.healing.Healing.{Healing}
use Rattle.lego_msg.specs.declared.operation.Open.{Open}
use Rattle.lego_msg.specs.declared.place.Place.{Place}

abbrev pub is_idle : Option Healing → Option Open → Bool
is_idle None None = true
is_idle None (Some o) = false
is_idle (Some h) current = false

abbrev pub is_crash_moment : Track → Bool
is_crash_moment t = is_crash_due t || (is_crash_left t && is_idle t.healing t.current && is_turn_end t.due)

abbrev pub IsEntry : Option CrashAt → ℕ → Type 0
IsEntry None number = ⊥
IsEntry (Some e) number = e.memory.0 ≡ number

abbrev pub IsNextInc : Option Mem → ℕ → Type 0
IsNextInc None inc = ⊥
IsNextInc (Some s) inc = inc ≡ s.inc + 1

pub record MayCrash (t : Track) (number inc : ℕ) : Type 0 where
  pub owed : t.owed ≡ []
  pub goes_on : (not t.stopped && not (is_any_done t)) ≡ true
  pub entry : IsEntry (next_crash t.shape t.clock) number
  pub moment : is_crash_moment t ≡ true
  pub raised : IsNextInc (slice_get t.mems number) inc

abbrev pub forgotten : Place → Option Open → Option Open
forgotten place None = None
forgotten place (Some o) = Some (record o { answers = forget place o.answers })

abbrev pub memory_lost : List Mem → ℕ → Option Mem → List Mem
memory_lost mems number None = mems
memory_lost mems number (Some s) = slice_set mems number (lost s)

-- the memory holds nothing, what is pending to it or from it is lost, its answers are forgotten, and its
-- healing begins
abbrev pub crashed : Track → ℕ → Track
crashed t number = record t {
  mems = memory_lost t.mems number (slice_get t.mems number);
  net = lose (memory number) t.net;
  current = forgotten (memory number) t.current;
  clock = record t.clock { passed = t.clock.passed + 1 };
  healing = Some (record { memory = record { 0 = number }; moves = moves_of (memory_count t.shape) number t.owners; current = None; got = None });
}
