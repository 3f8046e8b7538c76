use Rattle.std.proofs.Common.{eqb, rules, tests}
use Rattle.std.proofs.lemmas.Iterator.{YieldsList-from_slice}
use Rattle.std.proofs.lemmas.Iterator.Search.{any_from_yields_List}
use Rattle.lego_msg.specs.declared.message.Message.{Message}
use Rattle.lego_watch.proofs.judge.is_pending.Goals as goal

pub returns : goal.returns
returns c = any_from_yields_List (λ (m : Message). eqb m.op.0 c.args.op.0) _ _ c.any.result c.any.ensures.ran (YieldsList-from_slice c.args.pending.now cc) (λ x b q k. search (rules, tests))
