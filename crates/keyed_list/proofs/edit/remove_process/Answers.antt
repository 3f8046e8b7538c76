use Rattle.std.proofs.Common.{◌∙◌, not, rules, subst, sym}
use Rattle.std.proofs.lemmas.Fn.{filter_same}
use Rattle.lego_base.specs.Keys.{Key, Rises, is_of}
use Rattle.keyed_list.proofs.Found.{those_are}
use Rattle.keyed_list.proofs.Listed.{Rises-without}
use Rattle.keyed_list.proofs.edit.remove_process.Goals as goal

pub returns-clause-items : goal.returns-clause-items
returns-clause-items g c =
    filter_same _ (λ x. not (is_of c.args.pid.0 (g.T.Keyed.key x))) _ (λ x b q r. (search rules, search rules)) _ _ c.retain.ensures.filtered
    ∙ those_are g.T.Keyed.key (λ (k : Key). not (is_of c.args.pid.0 k)) c.args.items.now.items

pub returns-clause-rises : goal.returns-clause-rises
returns-clause-rises g c =
    subst (Rises g.T.Keyed.key) (sym (returns-clause-items g c)) (Rises-without g.T.Keyed.key (is_of c.args.pid.0) c.args.items.now.items c.requires)
