use Rattle.std.proofs.Common.{◌∙◌, refl, rules}
use Rattle.protocol_engine.specs.Tracks.{track_of}
use Rattle.protocol_engine.proofs.Coming.{call_came, happened, nothing_came}
use Rattle.protocol_engine.proofs.engine.Engine.begin.Goals as goal

pub returns-in_default-clause-stopped : goal.returns-in_default-clause-stopped
returns-in_default-clause-stopped g c = λ b before owners late may. nothing_came g.W.Watch.told g.W.Watch.faults _ _

pub returns-in_err-message-clause-stopped : goal.returns-in_err-message-clause-stopped
returns-in_err-message-clause-stopped g c = λ b before owners late may. nothing_came g.W.Watch.told g.W.Watch.faults _ _

pub returns-in_err-send-clause-stopped : goal.returns-in_err-send-clause-stopped
returns-in_err-send-clause-stopped g c = λ b before owners late may. happened g.W.Watch.told g.W.Watch.faults _ _ _ _
    (call_came g.W.Watch.told g.W.Watch.faults _ _ (record (track_of c.args.self.now b) { owners = before }) (record { by = c.args.by; operation = c.args.operation; owners = owners; late = late }) b.due
    c.in_ok-message.message _ c.args.self.now.table.owners c.memories-memories.result c.in-Some.next c.open.new.current c.send.ensures.shown
    c.requires.rests.0 c.requires.rests.2 c.requires.rests.3 (c.requires.rests.1 b) (c.memories-memories.ensures ∙ c.requires.count) c.in_ok-message.ensures.first may.caches may.late_enough may.issuer c.in_ok-message.ensures.opens refl (search rules) may.owned)

pub returns-clause-came : goal.returns-clause-came
returns-clause-came g c = λ b before owners late may.
    call_came g.W.Watch.told g.W.Watch.faults _ _ (record (track_of c.args.self.now b) { owners = before }) (record { by = c.args.by; operation = c.args.operation; owners = owners; late = late }) b.due
    c.in_ok-message.message c.send.new.net c.args.self.now.table.owners c.memories-memories.result c.in-Some.next c.open.new.current c.send.ensures.shown
    c.requires.rests.0 c.requires.rests.2 c.requires.rests.3 (c.requires.rests.1 b) (c.memories-memories.ensures ∙ c.requires.count) c.in_ok-message.ensures.first may.caches may.late_enough may.issuer c.in_ok-message.ensures.opens c.in_ok-send.ensures.sent (search rules) may.owned

pub returns-clause-stopped : goal.returns-clause-stopped
returns-clause-stopped g c = λ b before owners late may. happened g.W.Watch.told g.W.Watch.faults _ _ _ _
    (call_came g.W.Watch.told g.W.Watch.faults _ _ (record (track_of c.args.self.now b) { owners = before }) (record { by = c.args.by; operation = c.args.operation; owners = owners; late = late }) b.due
    c.in_ok-message.message c.send.new.net c.args.self.now.table.owners c.memories-memories.result c.in-Some.next c.open.new.current c.send.ensures.shown
    c.requires.rests.0 c.requires.rests.2 c.requires.rests.3 (c.requires.rests.1 b) (c.memories-memories.ensures ∙ c.requires.count) c.in_ok-message.ensures.first may.caches may.late_enough may.issuer c.in_ok-message.ensures.opens c.in_ok-send.ensures.sent (search rules) may.owned)
