use Rattle.std.proofs.Common.{◌∙◌, refl, rules}
use Rattle.protocol_engine.specs.Tracks.{track_of}
use Rattle.protocol_engine.proofs.Coming.{happened, next_comes, nothing_came}
use Rattle.protocol_engine.proofs.engine.Engine.begin_move.Goals as goal

pub returns-in_default-clause-stopped : goal.returns-in_default-clause-stopped
returns-in_default-clause-stopped g c = λ b. nothing_came g.W.Watch.told g.W.Watch.faults _ _

pub returns-in_err-message-clause-stopped : goal.returns-in_err-message-clause-stopped
returns-in_err-message-clause-stopped g c = λ b. nothing_came g.W.Watch.told g.W.Watch.faults _ _

pub returns-in_err-send-clause-stopped : goal.returns-in_err-send-clause-stopped
returns-in_err-send-clause-stopped g c = λ b. happened g.W.Watch.told g.W.Watch.faults _ _ (track_of c.args.self.now b) _
    (next_comes g.W.Watch.told g.W.Watch.faults _ _ (track_of c.args.self.now b) c.in_ok-message.message _ c.next_move.new.healing c.memories-memories.result c.in-Some.next c.send.ensures.shown c.requires.owed (c.requires.calm b) c.requires.between
    (c.memories-memories.ensures ∙ c.requires.count) c.in_ok-message.ensures.first c.in_ok-message.ensures.moved refl (search rules))

pub returns-clause-came : goal.returns-clause-came
returns-clause-came g c = λ b.
    next_comes g.W.Watch.told g.W.Watch.faults _ _ (track_of c.args.self.now b) c.in_ok-message.message c.send.new.net c.next_move.new.healing c.memories-memories.result c.in-Some.next c.send.ensures.shown c.requires.owed (c.requires.calm b) c.requires.between
    (c.memories-memories.ensures ∙ c.requires.count) c.in_ok-message.ensures.first c.in_ok-message.ensures.moved c.in_ok-send.ensures.sent (search rules)

pub returns-clause-stopped : goal.returns-clause-stopped
returns-clause-stopped g c = λ b. happened g.W.Watch.told g.W.Watch.faults _ _ (track_of c.args.self.now b) _
    (next_comes g.W.Watch.told g.W.Watch.faults _ _ (track_of c.args.self.now b) c.in_ok-message.message c.send.new.net c.next_move.new.healing c.memories-memories.result c.in-Some.next c.send.ensures.shown c.requires.owed (c.requires.calm b) c.requires.between
    (c.memories-memories.ensures ∙ c.requires.count) c.in_ok-message.ensures.first c.in_ok-message.ensures.moved c.in_ok-send.ensures.sent (search rules))
