use Rattle.std.proofs.Common.{rules, tests}
use Rattle.std.proofs.lemmas.Iterator.{YieldsList-from_slice}
use Rattle.std.proofs.lemmas.Iterator.Search.{all_from_yields_List}
use Rattle.lego_msg.specs.declared.place.Place.{Place}
use Rattle.lego_msg.specs.Judged.{has_answered_in}
use Rattle.lego_watch.proofs.judge.have_answered.Goals as goal

pub returns : goal.returns
returns c = all_from_yields_List (λ (p : Place). has_answered_in c.args.op.0 c.args.write p c.args.events.now) _ _ c.all.result c.all.ensures.ran (YieldsList-from_slice c.args.targets.now cc) (λ x b q k. search (rules, tests))
