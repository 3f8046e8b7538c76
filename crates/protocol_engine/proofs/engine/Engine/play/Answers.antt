use Rattle.std.proofs.Common.{subst}
use Rattle.lego_msg.proofs.Going.{stopped_halted}
use Rattle.lego_msg.specs.Track.{next_crash}
use Rattle.protocol_engine.specs.Steps.{IsStep}
use Rattle.protocol_engine.specs.Tracks.{beyond_with, track_of}
use Rattle.protocol_engine.specs.declared.step.Step.{Step}
use Rattle.protocol_engine.proofs.Playing.{due_moment, has_entry}
use Rattle.protocol_engine.proofs.engine.Engine.play.Goals as goal

pub returns-in-Err-clause-halted : goal.returns-in-Err-clause-halted
returns-in-Err-clause-halted g c = λ b. stopped_halted g.W.Watch.told g.W.Watch.faults _ _ _ (c.send_owed.ensures.stopped (beyond_with c.args.done.now b))

pub returns-in-Err-complete_move-clause-halted : goal.returns-in-Err-complete_move-clause-halted
returns-in-Err-complete_move-clause-halted g c = λ b. stopped_halted g.W.Watch.told g.W.Watch.faults _ _ _ (c.complete_move.ensures.stopped (beyond_with c.args.done.now b))

pub returns-in-Err-begin_move-clause-halted : goal.returns-in-Err-begin_move-clause-halted
returns-in-Err-begin_move-clause-halted g c = λ b. stopped_halted g.W.Watch.told g.W.Watch.faults _ _ _ (c.begin_move.ensures.stopped (beyond_with c.args.done.now b))

pub returns-in-Err-send_unsent-clause-halted : goal.returns-in-Err-send_unsent-clause-halted
returns-in-Err-send_unsent-clause-halted g c = λ b. stopped_halted g.W.Watch.told g.W.Watch.faults _ _ _ (c.send_unsent.ensures.stopped (beyond_with c.args.done.now b))

pub crash-requires-clause-done : goal.crash-requires-clause-done
crash-requires-clause-done g c =
    let step = subst (λ (s : Step). IsStep s c.args.self.now) c.in-Crash.is c.requires.step in
    λ b. (step.1 b).0

pub crash-requires-clause-entry : goal.crash-requires-clause-entry
crash-requires-clause-entry g c =
    let step = subst (λ (s : Step). IsStep s c.args.self.now) c.in-Crash.is c.requires.step in
    has_entry c.args.self.now.clock c.args.self.now.memories.items (next_crash c.args.self.now.shape c.args.self.now.clock) (step.1 c.requires.playable.0).1 c.requires.playable.1.entry

pub returns-in-Err-crash-clause-halted : goal.returns-in-Err-crash-clause-halted
returns-in-Err-crash-clause-halted g c =
    let step = subst (λ (s : Step). IsStep s c.args.self.now) c.in-Crash.is c.requires.step in
    λ b. stopped_halted g.W.Watch.told g.W.Watch.faults _ _ _ (c.crash.ensures.stopped (beyond_with c.args.done.now b) (due_moment (track_of c.args.self.now (beyond_with c.args.done.now b)) (step.1 (beyond_with c.args.done.now b)).1))

pub returns-in-Ok-crash-clause-came : goal.returns-in-Ok-crash-clause-came
returns-in-Ok-crash-clause-came g c =
    let step = subst (λ (s : Step). IsStep s c.args.self.now) c.in-Crash.is c.requires.step in
    λ b. c.in-Ok-crash.ensures.came (beyond_with c.args.done.now b) (due_moment (track_of c.args.self.now (beyond_with c.args.done.now b)) (step.1 (beyond_with c.args.done.now b)).1)

pub deliver-requires-clause-pending : goal.deliver-requires-clause-pending
deliver-requires-clause-pending g c =
    let step = subst (λ (s : Step). IsStep s c.args.self.now) c.in-Deliver.is c.requires.step in
    c.requires.playable.1.awaits (record { owed = step.0; calm = step.1 c.requires.playable.0; waiting = step.2 })
