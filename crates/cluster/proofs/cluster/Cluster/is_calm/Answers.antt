use Rattle.std.proofs.Common.{◌≡◌, ◌∙◌, ap, subst, true}
use Rattle.lego_msg.specs.Track.{is_calm}
use Rattle.cluster.proofs.Turns.{calm_at}
use Rattle.cluster.specs.Whole.{Whole, track_at}
use Rattle.cluster.proofs.cluster.Cluster.is_calm.Goals as goal

pub returns : goal.returns
returns c = λ none g.
    subst (λ (w : Whole). is_calm (track_at w g) ≡ true) c.self.view_is
    (calm_at c.self.inside.engine c.self.inside.halt (c.self.invariant.rests (ap (λ (w : Whole). w.halt) c.self.view_is ∙ none)) g)
