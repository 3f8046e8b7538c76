use Rattle.protocol_engine.proofs.Coming.{answer_in}
use Rattle.protocol_engine.proofs.engine.Engine.complete_move.Goals as goal

pub end_move-requires : goal.end_move-requires
end_move-requires g c = answer_in c.args.self.now.net c.args.self.now.healing c.requires.done c.requires.goes
