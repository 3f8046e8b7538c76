-- What a watch in memory shows: the events that it holds, and its calls. Calls are numbered from 1, and some of
-- them are to fail.
use Rattle.std.specs.List.{list_any}
use Rattle.std.specs.Prelude.{◌+◌, ◌-◌, ◌^◌, ◌==◌, ◌||◌, [], ◌∷◌, ◌++◌, ℕ, Bool, List, min, nat_lt}
use Rattle.lego_base.specs.Counts.{risen}
use Rattle.lego_msg.specs.declared.event.Event.{Event}

pub record Seen : Type 0 where
  pub held : List Event
  -- the numbers of the calls that are to fail
  pub fails : List ℕ
  -- how many calls were made, up to the type's end
  pub made : ℕ
  pub faults : ℕ

abbrev pub nothing_seen : List ℕ → Seen
nothing_seen fails = record { held = []; fails = fails; made = 0; faults = 0 }

abbrev pub next_call : Seen → ℕ
next_call s = min (s.made + 1) (2 ^ 64 - 1)

-- whether the next call is to fail: its number is listed, or a call failed before
abbrev pub is_to_fail : Seen → Bool
is_to_fail s = list_any (λ number. number == next_call s) s.fails || nat_lt 0 s.faults

-- after a call that added the event, and after one that failed
abbrev pub added : Seen → Event → Seen
added s e = record s { held = s.held ++ e ∷ []; made = next_call s }

abbrev pub failed : Seen → Seen
failed s = record s { made = next_call s; faults = risen s.faults }
