use Rattle.std.proofs.Common.{◌∙◌, Option, refl, subst}
use Rattle.lego_msg.proofs.Going.{came_went, stays, went-then, went_halted}
use Rattle.lego_msg.specs.Went.{Went}
use Rattle.lego_msg.specs.declared.operation.Open.{Open}
use Rattle.healing_laws.specs.Playing.{IsPlayable}
use Rattle.protocol_engine.specs.Tracks.{beyond_with, track_of}
use Rattle.protocol_engine.proofs.Playing.{busy_at, came_lowers, playable_at, lower_then, no_more, opened_on, same_on}
use Rattle.protocol_engine.proofs.engine.Engine.settle.Goals as goal

pub events-init : goal.events-init
events-init g c = record {
  went = λ b. stays g.W.Watch.told g.W.Watch.faults _ _;
  machine = record { shape = refl; count = refl; placement = refl; given = refl };
  once = tt;
  runs = refl;
  opened = λ b. tt;
  lower = λ b. no_more _;
}

pub step-requires : goal.step-requires
step-requires g c = (playable_at g.W.Watch.told g.W.Watch.faults _ _ _ _ (c.events.invariant.went c.requires.sound.0) c.requires.sound.1).moves

pub play-requires-clause-playable : goal.play-requires-clause-playable
play-requires-clause-playable g c = (beyond_with c.events.done c.requires.sound.0, playable_at g.W.Watch.told g.W.Watch.faults _ _ _ _ (c.events.invariant.went c.requires.sound.0) c.requires.sound.1)

pub returns-in-Err-clause-halted : goal.returns-in-Err-clause-halted
returns-in-Err-clause-halted g c = λ b. went_halted g.W.Watch.told g.W.Watch.faults _ _ _ c.in-Err.halt _ _ (c.events.invariant.went b) (c.in-Err.ensures.halted b)

pub events-smaller : goal.events-smaller
events-smaller g c =
    let b = c.requires.sound.0 in
    let playable : IsPlayable (track_of c.events.self (beyond_with c.events.done b)) = playable_at g.W.Watch.told g.W.Watch.faults _ _ _ _ (c.events.invariant.went b) c.requires.sound.1 in
    came_lowers g.W.Watch.told g.W.Watch.faults _ _ (track_of c.events.self (beyond_with c.events.done b)) (track_of c.play.new.self (beyond_with c.play.new.done b)) (c.in-Ok.ensures.came b) playable.places
    (busy_at c.in-Some.step c.events.self (beyond_with c.events.done b) c.in-Some.ensures)

pub events-preserved : goal.events-preserved
events-preserved g c =
    let b0 = c.requires.sound.0 in
    let playable : IsPlayable (track_of c.events.self (beyond_with c.events.done b0)) = playable_at g.W.Watch.told g.W.Watch.faults _ _ _ _ (c.events.invariant.went b0) c.requires.sound.1 in
    record {
      went = λ b. went-then g.W.Watch.told g.W.Watch.faults _ _ _ _ _ _ (c.events.invariant.went b) (came_went g.W.Watch.told g.W.Watch.faults _ _ _ _ (c.in-Ok.ensures.came b));
      machine = same_on _ _ _ c.events.invariant.machine c.in-Ok.ensures.machine;
      once = c.in-Ok.ensures.once;
      runs = c.in-Ok.ensures.runs ∙ c.events.invariant.runs;
      opened = λ b. opened_on g.W.Watch.told g.W.Watch.faults c.args.watch.now c.events.watch (track_of c.args.self.now b) (track_of c.events.self b) c.events.done c.play.new.done
          (λ e. subst (λ (d : Option Open). Went g.W.Watch.told g.W.Watch.faults c.args.watch.now c.events.watch (track_of c.args.self.now b) (track_of c.events.self (beyond_with d b))) e (c.events.invariant.went b))
          refl c.in-Ok.ensures.completes (c.events.invariant.opened b);
      lower = λ b. lower_then _ _ _
          (came_lowers g.W.Watch.told g.W.Watch.faults _ _ (track_of c.events.self (beyond_with c.events.done b)) (track_of c.play.new.self (beyond_with c.play.new.done b)) (c.in-Ok.ensures.came b) playable.places
          (busy_at c.in-Some.step c.events.self (beyond_with c.events.done b) c.in-Some.ensures))
          (c.events.invariant.lower b);
    }
