use Rattle.std.proofs.Common.{◌≡◌, ◌<◌, ◌∙◌, [], None, false, refl, subst, sym, ℕ}
use Rattle.lego_msg.proofs.Going.{came_went, stays, stopped_halted, went-then, went_halted}
use Rattle.lego_msg.proofs.Moments.{calm_done}
use Rattle.lego_msg.specs.Track.{is_any_done, is_crash_due, next_crash}
use Rattle.protocol_engine.specs.Tracks.{track_of}
use Rattle.protocol_engine.proofs.Playing.{has_left, playable_at, left_moment, less_then, nothing_done, same_on, sound_on, went_none}
use Rattle.protocol_engine.proofs.engine.Engine.end_turn.Goals as goal

pub crashes-init : goal.crashes-init
crashes-init g c = record {
  went = λ b over. stays g.W.Watch.told g.W.Watch.faults _ _;
  machine = record { shape = refl; count = refl; placement = refl; given = refl };
  rests = c.requires.rests;
}

pub crash-requires-clause-done : goal.crash-requires-clause-done
crash-requires-clause-done g c = λ b. calm_done false (is_any_done (track_of c.crashes.self b)) (is_crash_due (track_of c.crashes.self b)) (c.crashes.invariant.rests.1 b)

pub crash-requires-clause-entry : goal.crash-requires-clause-entry
crash-requires-clause-entry g c =
    has_left c.crashes.self.clock c.crashes.self.memories.items (next_crash c.crashes.self.shape c.crashes.self.clock) (sym c.crashes-test.ensures)
    (playable_at g.W.Watch.told g.W.Watch.faults _ _ _ _ (c.crashes.invariant.went c.requires.sound.beyond c.requires.sound.over) c.requires.sound.sound).entry

pub crash-requires-clause-some : goal.crash-requires-clause-some
crash-requires-clause-some g c = subst (λ (n : ℕ). 0 < n) (sym (c.crashes.invariant.machine.count ∙ c.requires.count)) (c.requires.sound.sound [] tt).some

pub returns-in-Err-clause-halted : goal.returns-in-Err-clause-halted
returns-in-Err-clause-halted g c = λ b over. went_halted g.W.Watch.told g.W.Watch.faults _ _ _ _ _ _ (c.crashes.invariant.went b over)
    (stopped_halted g.W.Watch.told g.W.Watch.faults _ _ _ (c.crash.ensures.stopped b (left_moment (track_of c.crashes.self b) (sym c.crashes-test.ensures) c.crashes.invariant.rests.2 c.crashes.invariant.rests.3 over)))

pub settle-requires-clause-sound : goal.settle-requires-clause-sound
settle-requires-clause-sound g c =
    let b = c.requires.sound.beyond in
    let over = c.requires.sound.over in
    (b, sound_on g.W.Watch.told g.W.Watch.faults _ _ _ _ (went-then g.W.Watch.told g.W.Watch.faults _ _ _ _ _ _ (c.crashes.invariant.went b over) (came_went g.W.Watch.told g.W.Watch.faults _ _ _ _ (c.in-Ok.ensures.came b (left_moment (track_of c.crashes.self b) (sym c.crashes-test.ensures) c.crashes.invariant.rests.2 c.crashes.invariant.rests.3 over)))) c.requires.sound.sound)

pub returns-in-Err-settle-clause-halted : goal.returns-in-Err-settle-clause-halted
returns-in-Err-settle-clause-halted g c = λ b over. went_halted g.W.Watch.told g.W.Watch.faults _ _ _ _ _ _
    (went-then g.W.Watch.told g.W.Watch.faults _ _ _ _ _ _ (c.crashes.invariant.went b over) (came_went g.W.Watch.told g.W.Watch.faults _ _ _ _ (c.in-Ok.ensures.came b (left_moment (track_of c.crashes.self b) (sym c.crashes-test.ensures) c.crashes.invariant.rests.2 c.crashes.invariant.rests.3 over))))
    (c.in-Err-settle.ensures.halted b)

pub crashes-smaller-in-Ok-settle-2 : goal.crashes-smaller-in-Ok-settle-2
crashes-smaller-in-Ok-settle-2 g c =
    let b = c.requires.sound.beyond in
    less_then _ _ _ (c.in-Ok-settle.ensures.lower b) (c.in-Ok.ensures.lower b (left_moment (track_of c.crashes.self b) (sym c.crashes-test.ensures) c.crashes.invariant.rests.2 c.crashes.invariant.rests.3 c.requires.sound.over))

pub crashes-preserved-in-Ok-settle-2 : goal.crashes-preserved-in-Ok-settle-2
crashes-preserved-in-Ok-settle-2 g c =
    let none : c.in-Ok-settle.field-0 ≡ None = nothing_done c.in-Ok-settle.field-0 c.crashes.self.current (c.in-Ok-settle.ensures.runs ∙ c.in-Ok.ensures.runs) c.crashes.invariant.rests.3 in
    record {
      went = λ b over. went-then g.W.Watch.told g.W.Watch.faults _ _ _ _ _ _
          (went-then g.W.Watch.told g.W.Watch.faults _ _ _ _ _ _ (c.crashes.invariant.went b over) (came_went g.W.Watch.told g.W.Watch.faults _ _ _ _ (c.in-Ok.ensures.came b (left_moment (track_of c.crashes.self b) (sym c.crashes-test.ensures) c.crashes.invariant.rests.2 c.crashes.invariant.rests.3 over))))
          (went_none g.W.Watch.told g.W.Watch.faults _ _ _ c.settle.new.self b c.in-Ok-settle.field-0 none (c.in-Ok-settle.ensures.went b));
      machine = same_on _ _ _ (same_on _ _ _ c.crashes.invariant.machine c.crash.ensures.machine) c.settle.ensures.machine;
      rests = c.in-Ok-settle.ensures.rests;
    }
