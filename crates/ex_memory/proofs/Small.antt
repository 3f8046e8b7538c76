-- A small machine may be booted, and no crash is left to come in it.
use Rattle.std.proofs.Common.{◌≡◌, ◌∙◌, ◌<◌, [], List, ap, arith, false, refl}
use Rattle.std.specs.List.{AllByRecursion}
use Rattle.lego_base.specs.declared.ids.MemId.{MemId}
use Rattle.lego_base.specs.declared.shape.Shape.{Shape}
use Rattle.lego_msg.specs.Marks.{Mark}
use Rattle.lego_msg.specs.Track.{Track, is_of_turn, memory_count, next_crash, start}
use Rattle.lego_rest.specs.Fits.{MachineFits}
use Rattle.cluster.specs.Whole.{is_left_at}
use Rattle.ex_memory.specs.Seen.{world}
use Rattle.ex_memory.specs.Split.{Split}
use Rattle.ex_memory.specs.Tried.{small}

pub small_fits : MachineFits small
small_fits = record { two = omega arith; log = omega arith; deliveries = omega arith; there = tt; rise = tt }

pub small_placed : AllByRecursion (λ (o : MemId). o.0 < memory_count small) small.placement
small_placed = (omega arith, (omega arith, tt))

pub not_left : (m : Split) (shape : Shape) → shape ≡ small → ((due : List Mark) → world m due ≡ start shape due) → is_left_at m.whole ≡ false
not_left m shape is starts =
    ap (λ (t : Track). is_of_turn t.clock (next_crash t.shape t.clock)) (starts [])
    ∙ ap (λ (s : Shape). is_of_turn (start s []).clock (next_crash s (start s []).clock)) is
