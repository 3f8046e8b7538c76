use Rattle.std.proofs.Common.{refl}
use Rattle.protocol_engine.specs.Tracks.{track_of}
use Rattle.protocol_engine.proofs.Coming.{happened, unsent_came}
use Rattle.protocol_engine.proofs.engine.Engine.send_unsent.Goals as goal

pub returns-clause-came : goal.returns-clause-came
returns-clause-came g c = λ b. unsent_came g.W.Watch.told g.W.Watch.faults _ _ (track_of c.args.self.now b) c.take_unsent-message.result c.send.new.net c.take_unsent-message.new.current c.send.ensures.shown c.requires.owed c.requires.healed (c.requires.calm b) c.take_unsent-message.ensures c.in_ok-send.ensures.sent

pub returns-clause-stopped : goal.returns-clause-stopped
returns-clause-stopped g c = λ b. happened g.W.Watch.told g.W.Watch.faults _ _ (track_of c.args.self.now b) _
    (unsent_came g.W.Watch.told g.W.Watch.faults _ _ (track_of c.args.self.now b) c.take_unsent-message.result c.send.new.net c.take_unsent-message.new.current c.send.ensures.shown c.requires.owed c.requires.healed (c.requires.calm b) c.take_unsent-message.ensures c.in_ok-send.ensures.sent)

pub returns-in_err-send-clause-stopped : goal.returns-in_err-send-clause-stopped
returns-in_err-send-clause-stopped g c = λ b. happened g.W.Watch.told g.W.Watch.faults _ _ (track_of c.args.self.now b) _
    (unsent_came g.W.Watch.told g.W.Watch.faults _ _ (track_of c.args.self.now b) c.take_unsent-message.result _ c.take_unsent-message.new.current c.send.ensures.shown c.requires.owed c.requires.healed (c.requires.calm b) c.take_unsent-message.ensures refl)
