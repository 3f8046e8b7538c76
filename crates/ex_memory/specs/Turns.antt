-- The end of a turn: where nothing is to come but the next turn, or what comes after the last one.
use Rattle.std.specs.Prelude.{◌≡◌, Err, IfErr, List, None, OnOk, Option, Result, Some, true, ℕ}
use Rattle.lego_base.specs.declared.stops.Halt.{Halt}
use Rattle.lego_msg.specs.Marks.{Mark, is_turn_end}
use Rattle.lego_msg.specs.Went.{Halted, Went}
use Rattle.lego_msg.specs.declared.event.Event.{Event}
use Rattle.split_script.specs.Now.{Now}
use Rattle.ex_memory.specs.Did.{Is}
use Rattle.ex_memory.specs.Seen.{world}
use Rattle.ex_memory.specs.Split.{Split}

pub record TurnEnds {W X : Type 0} (told : W → Option (List Event)) (faults : W → ℕ) (w w' : W) (m m' : Split) (result : Result X Halt) : Type 0 where
  pub went : OnOk result ((rest : List Mark) → is_turn_end rest ≡ true → Went told faults w w' (world m rest) (world m' rest))
  -- what the script depends on is the same
  pub is_then : OnOk result ((n : Now) → Is n m → Is n m')
  pub halts : IfErr result (λ halt. m.whole.halt ≡ None → (rest : List Mark) → is_turn_end rest ≡ true → Halted told faults w w' halt (world m rest))
  pub keeps : IfErr result (λ halt. m'.whole.halt ≡ Some halt)
  pub kept : (halt : Halt) → m.whole.halt ≡ Some halt → (result ≡ Err halt) × (m'.whole.halt ≡ Some halt) × (w' ≡ w)
