use Rattle.std.proofs.Common.{◌≡◌, ◌*◌, ◌<◌, ◌≤◌, ◌^◌, arith, length, refl, subst, sym}
use Rattle.std.specs.Int.{IsPowerOfTwo}
use Rattle.std.specs.List.{AllByRecursion}
use Rattle.lego_base.specs.declared.ids.MemId.{MemId}
use Rattle.lego_base.specs.declared.shape.Shape.{Shape}
use Rattle.lego_msg.specs.Track.{memory_count}
use Rattle.lego_rest.specs.Fits.{MachineFits}
use Rattle.ex_memory.proofs.Small.{not_left, small_fits, small_placed}
use Rattle.ex_memory.proofs.tests.a_turn_has_no_file_and_no_areas.Goals as goal

pub boot-requires-clause-few : goal.boot-requires-clause-few
boot-requires-clause-few g c = subst (λ (s : Shape). memory_count s ≤ 8) (sym c.in_ok-shape.ensures) (omega arith)

pub boot-requires-clause-machine : goal.boot-requires-clause-machine
boot-requires-clause-machine g c = subst MachineFits (sym c.in_ok-shape.ensures) small_fits

pub boot-requires-clause-placement : goal.boot-requires-clause-placement
boot-requires-clause-placement g c = subst (λ (s : Shape). 0 < length s.placement) (sym c.in_ok-shape.ensures) (omega arith)

pub boot-requires-clause-placed : goal.boot-requires-clause-placed
boot-requires-clause-placed g c = subst (λ (s : Shape). AllByRecursion (λ (o : MemId). o.0 < memory_count s) s.placement) (sym c.in_ok-shape.ensures) small_placed

pub boot-requires-clause-processors : goal.boot-requires-clause-processors
boot-requires-clause-processors g c = subst (λ (s : Shape). 0 < s.processors) (sym c.in_ok-shape.ensures) (omega arith)

pub boot-requires-clause-power : goal.boot-requires-clause-power
boot-requires-clause-power g c = subst (λ (s : Shape). IsPowerOfTwo s.sets) (sym c.in_ok-shape.ensures) (0, refl)

pub boot-requires-clause-ways : goal.boot-requires-clause-ways
boot-requires-clause-ways g c = subst (λ (s : Shape). 0 < s.ways) (sym c.in_ok-shape.ensures) (omega arith)

pub boot-requires-clause-fits : goal.boot-requires-clause-fits
boot-requires-clause-fits g c = subst (λ (s : Shape). s.sets * s.ways < 2 ^ 32) (sym c.in_ok-shape.ensures) (omega arith)

pub begin_turn-requires : goal.begin_turn-requires
begin_turn-requires g c = record { left = λ none. not_left c.in_ok-memory.memory _ c.in_ok-shape.ensures c.in_ok-memory.ensures.start }
