use Rattle.std.proofs.Common.{rules, ◌∙◌, ap, not}
use Rattle.std.proofs.lemmas.Fn.{filter_same}
use Rattle.lego_msg.specs.Places.{lose as lost_to}
use Rattle.lego_msg.specs.declared.message.Message.{Message}
use Rattle.net_fabric.specs.Net.{concerns_place}
use Rattle.net_fabric.proofs.Losing.{filter-concerns}
use Rattle.net_fabric.proofs.net.Net.lose.Goals as goal

pub returns : goal.returns
returns c =
    filter_same _ (λ (m : Message). not (concerns_place c.args.place m)) _ (λ x b q k. search rules) _ _ c.retain.ensures.filtered
    ∙ filter-concerns c.args.place c.self.inside.messages.items
    ∙ ap (lost_to c.args.place) c.self.view_is
