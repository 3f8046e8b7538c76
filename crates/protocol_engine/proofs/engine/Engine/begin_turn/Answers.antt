use Rattle.std.proofs.Common.{◌≡◌, ◌∙◌, None, ap}
use Rattle.lego_msg.proofs.Going.{came_went, went-then, went_halted}
use Rattle.lego_msg.specs.Track.{entries_below}
use Rattle.protocol_engine.specs.Tracks.{track_of}
use Rattle.protocol_engine.proofs.Playing.{nothing_done, sound_on, went_none}
use Rattle.protocol_engine.proofs.Turning.{turn_came}
use Rattle.protocol_engine.proofs.engine.Engine.begin_turn.Goals as goal

pub settle-requires-clause-sound : goal.settle-requires-clause-sound
settle-requires-clause-sound g c =
    let below : c.entries_below.result ≡ entries_below c.args.number c.args.self.now.shape.crashes = c.entries_below.ensures ∙ ap (entries_below c.args.number) c.as_slice.ensures in
    let b = c.requires.sound.beyond in
    (b, sound_on g.W.Watch.told g.W.Watch.faults _ _ _ _ (came_went g.W.Watch.told g.W.Watch.faults _ _ _ _ (turn_came g.W.Watch.told g.W.Watch.faults _ _ (track_of c.args.self.now b) c.args.number c.args.pid b.due c.entries_below.result c.show.ensures c.requires.rests.0 c.requires.rests.3 c.requires.rests.2 (c.requires.rests.1 b) c.requires.left below)) c.requires.sound.sound)

pub returns-in-Err-clause-halted : goal.returns-in-Err-clause-halted
returns-in-Err-clause-halted g c =
    let below : c.entries_below.result ≡ entries_below c.args.number c.args.self.now.shape.crashes = c.entries_below.ensures ∙ ap (entries_below c.args.number) c.as_slice.ensures in
    λ b. went_halted g.W.Watch.told g.W.Watch.faults _ _ _ c.in-Err.halt _ _ (came_went g.W.Watch.told g.W.Watch.faults _ _ _ _ (turn_came g.W.Watch.told g.W.Watch.faults _ _ (track_of c.args.self.now b) c.args.number c.args.pid b.due c.entries_below.result c.show.ensures c.requires.rests.0 c.requires.rests.3 c.requires.rests.2 (c.requires.rests.1 b) c.requires.left below)) (c.in-Err.ensures.halted b)

pub returns-in-Ok-clause-went : goal.returns-in-Ok-clause-went
returns-in-Ok-clause-went g c =
    let below : c.entries_below.result ≡ entries_below c.args.number c.args.self.now.shape.crashes = c.entries_below.ensures ∙ ap (entries_below c.args.number) c.as_slice.ensures in
    let none : c.in-Ok.field-0 ≡ None = nothing_done c.in-Ok.field-0 c.args.self.now.current c.in-Ok.ensures.runs c.requires.rests.3 in
    λ b. went-then g.W.Watch.told g.W.Watch.faults _ _ _ _ _ _ (came_went g.W.Watch.told g.W.Watch.faults _ _ _ _ (turn_came g.W.Watch.told g.W.Watch.faults _ _ (track_of c.args.self.now b) c.args.number c.args.pid b.due c.entries_below.result c.show.ensures c.requires.rests.0 c.requires.rests.3 c.requires.rests.2 (c.requires.rests.1 b) c.requires.left below))
    (went_none g.W.Watch.told g.W.Watch.faults _ _ _ c.settle.new.self b c.in-Ok.field-0 none (c.in-Ok.ensures.went b))
