use Rattle.std.proofs.Common.{◌≡◌, ◌+◌, rules, subst, sym}
use Rattle.lego_msg.proofs.Senders.{same_some}
use Rattle.lego_msg.specs.Deliveries.{comes}
use Rattle.lego_msg.specs.Track.{pick_of, Track}
use Rattle.lego_msg.specs.declared.message.Message.{Message}
use Rattle.std.specs.Prelude.{length}
use Rattle.protocol_engine.specs.Messages.{IsCause}
use Rattle.healing_laws.specs.Playing.{IsFit}
use Rattle.protocol_engine.specs.Tracks.{track_of}
use Rattle.protocol_engine.proofs.Coming.{nothing_halted}
use Rattle.protocol_engine.proofs.Delivering.{all_at, deliver_came, deliver_halted, is_left, is_picked}
use Rattle.protocol_engine.proofs.engine.Engine.deliver.Goals as goal

pub returns-in_default-clause-halted : goal.returns-in_default-clause-halted
returns-in_default-clause-halted g c = λ b. nothing_halted g.W.Watch.told g.W.Watch.faults _ _

pub returns-in_default-checked_add-clause-halted : goal.returns-in_default-checked_add-clause-halted
returns-in_default-checked_add-clause-halted g c = λ b. nothing_halted g.W.Watch.told g.W.Watch.faults _ _

pub dispatch-requires-clause-fit : goal.dispatch-requires-clause-fit
dispatch-requires-clause-fit g c =
    let same : c.take-message.result ≡ c.message_of.result = same_some _ _ c.message_of.ensures in
    subst (IsFit c.args.self.now.shape c.args.self.now.store) same
    (all_at (IsFit c.args.self.now.shape c.args.self.now.store) c.args.self.now.net (pick_of c.args.self.now.shape.deliveries c.args.self.now.delivered (length c.args.self.now.net)) c.take-message.result c.requires.fit
    (is_picked c.args.self.now.shape.deliveries c.args.self.now.delivered c.choice-choice.result c.args.self.now.net c.take-message.result c.choice-choice.ensures c.take-message.ensures.chosen))

pub returns-in-Err-clause-halted : goal.returns-in-Err-clause-halted
returns-in-Err-clause-halted g c =
    let same : c.take-message.result ≡ c.message_of.result = same_some _ _ c.message_of.ensures in
    λ b. deliver_halted g.W.Watch.told g.W.Watch.faults _ _ (track_of c.args.self.now b) c.take-message.result c.in-Err.halt c.see.ensures c.requires.owed c.requires.waiting (c.requires.calm b)
    (is_picked c.args.self.now.shape.deliveries c.args.self.now.delivered c.choice-choice.result c.args.self.now.net c.take-message.result c.choice-choice.ensures c.take-message.ensures.chosen)
    (subst (IsCause c.args.self.now.shape c.in-Err.halt) (sym same) c.in-Err.ensures.cause)

pub returns-in-Ok-clause-came : goal.returns-in-Ok-clause-came
returns-in-Ok-clause-came g c =
    let same : c.take-message.result ≡ c.message_of.result = same_some _ _ c.message_of.ensures in
    let counts : c.in-Some.delivered ≡ c.args.self.now.delivered + 1 = search rules in
    let more : c.in-Some-checked_add.since ≡ c.args.self.now.clock.since + 1 = search rules in
    λ b. deliver_came g.W.Watch.told g.W.Watch.faults _ _ (track_of c.args.self.now b) (track_of c.dispatch.new.self b) c.take-message.result c.take-message.new.self c.in-Some.delivered c.in-Some-checked_add.since
    c.see.ensures c.requires.owed c.requires.waiting (c.requires.calm b)
    (is_picked c.args.self.now.shape.deliveries c.args.self.now.delivered c.choice-choice.result c.args.self.now.net c.take-message.result c.choice-choice.ensures c.take-message.ensures.chosen)
    (is_left c.args.self.now.shape.deliveries c.args.self.now.delivered c.choice-choice.result c.args.self.now.net c.take-message.new.self c.choice-choice.ensures c.take-message.ensures.rest)
    counts more
    (let T : Track = record (track_of c.args.self.now b) { net = c.take-message.new.self; delivered = c.in-Some.delivered; clock = record c.args.self.now.clock { since = c.in-Some-checked_add.since } } in
    subst (λ (x : Message). comes T x x.to ≡ track_of c.dispatch.new.self b) (sym same) (c.in-Ok.ensures.comes b))
