use Rattle.std.proofs.Common.{◌<◌, [], Option, Some, refl, subst, sym, ℕ}
use Rattle.lego_msg.proofs.Going.{came_went, stopped_halted, went-then, went_halted}
use Rattle.lego_msg.specs.Went.{Went}
use Rattle.lego_msg.specs.declared.operation.Open.{Open}
use Rattle.std.specs.Prelude.{IfSome}
use Rattle.protocol_engine.specs.Called.{begun_beyond, called_track}
use Rattle.protocol_engine.specs.Sound.{WasOpen}
use Rattle.protocol_engine.specs.Tracks.{Beyond, beyond_with, track_of}
use Rattle.protocol_engine.proofs.Playing.{opened_after, sound_on}
use Rattle.protocol_engine.proofs.engine.Engine.operate.Goals as goal

pub begin-requires-clause-some : goal.begin-requires-clause-some
begin-requires-clause-some g c = subst (λ (n : ℕ). 0 < n) (sym c.requires.count) (c.requires.sound.sound [] tt).some

pub returns-in-Err-clause-halted : goal.returns-in-Err-clause-halted
returns-in-Err-clause-halted g c = λ b before owners late may. stopped_halted g.W.Watch.told g.W.Watch.faults _ _ _ (c.begin.ensures.stopped b before owners late may)

pub settle-requires-clause-sound : goal.settle-requires-clause-sound
settle-requires-clause-sound g c =
    let s = c.requires.sound in
    (begun_beyond s.beyond, sound_on g.W.Watch.told g.W.Watch.faults _ _ _ _ (came_went g.W.Watch.told g.W.Watch.faults _ _ _ _ (c.in-Ok.ensures.came s.beyond s.before s.owners s.late s.may)) s.sound)

pub returns-in-Err-settle-clause-halted : goal.returns-in-Err-settle-clause-halted
returns-in-Err-settle-clause-halted g c = λ b before owners late may.
    went_halted g.W.Watch.told g.W.Watch.faults _ _ _ c.in-Err-settle.halt _ _ (came_went g.W.Watch.told g.W.Watch.faults _ _ _ _ (c.in-Ok.ensures.came b before owners late may)) (c.in-Err-settle.ensures.halted (begun_beyond b))

pub returns-in-Ok-Some-clause-went : goal.returns-in-Ok-Some-clause-went
returns-in-Ok-Some-clause-went g c =
    let went = subst (λ (d : Option Open). (x : Beyond) → Went g.W.Watch.told g.W.Watch.faults c.begin.new.watch c.settle.new.watch (track_of c.begin.new.self x) (track_of c.settle.new.self (beyond_with d x))) c.in-Ok-Some.field-0-is c.in-Ok-Some.ensures.went in
    λ b before owners late may. went-then g.W.Watch.told g.W.Watch.faults _ _ _ _ _ _ (came_went g.W.Watch.told g.W.Watch.faults _ _ _ _ (c.in-Ok.ensures.came b before owners late may)) (went (begun_beyond b))

pub returns-in-Ok-Some-clause-opened : goal.returns-in-Ok-Some-clause-opened
returns-in-Ok-Some-clause-opened g c =
    let opened = subst (λ (d : Option Open). (x : Beyond) → IfSome d (WasOpen (track_of c.begin.new.self x))) c.in-Ok-Some.field-0-is c.in-Ok-Some.ensures.opened in
    λ b before owners late may. opened_after g.W.Watch.told g.W.Watch.faults _ _ (called_track c.args.self.now c.args.by c.args.operation b before owners late) (track_of c.begin.new.self (begun_beyond b)) (Some c.in-Ok-Some.running)
    (came_went g.W.Watch.told g.W.Watch.faults _ _ _ _ (c.in-Ok.ensures.came b before owners late may)) refl (opened (begun_beyond b))
