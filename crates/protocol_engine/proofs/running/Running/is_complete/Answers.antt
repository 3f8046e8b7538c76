use Rattle.protocol_engine.proofs.Pending.{complete_by}
use Rattle.protocol_engine.proofs.running.Running.is_complete.Goals as goal

pub returns-then-is_answered : goal.returns-then-is_answered
returns-then-is_answered c = complete_by c.args.net.now c.args.self.now c.number.result c.pending_of.result c.is_answered.result c.is_answered.ensures c.if-is_answered.true c.number.ensures c.pending_of.ensures
