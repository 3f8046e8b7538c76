use Rattle.std.proofs.Common.{◌≡◌, ◌∙◌, None, ap, subst, sym}
use Rattle.cluster.specs.Whole.{SoundCall, Whole}
use Rattle.cluster.proofs.Wholes.{sound_call}
use Rattle.cluster.proofs.cluster.Cluster.perform.Goals as goal

pub operate-requires-clause-rests : goal.operate-requires-clause-rests
operate-requires-clause-rests g c = c.self.invariant.rests c.in-None.is

pub operate-requires-clause-sound : goal.operate-requires-clause-sound
operate-requires-clause-sound g c =
    let none : c.args.self.now.halt ≡ None = ap (λ (w : Whole). w.halt) (sym c.self.view_is) ∙ c.in-None.is in
    sound_call c.self.inside.engine c.self.inside.halt c.args.by c.args.operation (c.self.invariant.rests c.in-None.is)
    (subst (λ (w : Whole). SoundCall w c.args.by c.args.operation) (sym c.self.view_is) (c.requires.sound none))
