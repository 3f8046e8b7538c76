use Rattle.std.proofs.Common.{◌≡◌, ◌∙◌, None, ap, subst, sym}
use Rattle.cluster.specs.Standing.{IsAtRest, StandsFor}
use Rattle.cluster.specs.Whole.{Whole}
use Rattle.cluster.proofs.Turns.{end_stands, end_table, sound_end}
use Rattle.cluster.proofs.cluster.Cluster.end_turn.Goals as goal

pub end_turn-requires-clause-rests : goal.end_turn-requires-clause-rests
end_turn-requires-clause-rests g c = c.self.invariant.rests c.in-None.is

pub end_turn-requires-clause-sound : goal.end_turn-requires-clause-sound
end_turn-requires-clause-sound g c =
    let none : c.args.self.now.halt ≡ None = ap (λ (w : Whole). w.halt) (sym c.self.view_is) ∙ c.in-None.is in
    sound_end c.self.inside.engine c.self.inside.halt (c.self.invariant.rests c.in-None.is)
    (subst IsAtRest (sym c.self.view_is) (c.requires.rests none))

pub returns-in-Ok-clause-stands : goal.returns-in-Ok-clause-stands
returns-in-Ok-clause-stands g c = λ f stands.
    end_stands g.W.Watch.told g.W.Watch.faults _ _ c.self.inside.engine c.end_turn.new.self c.self.inside.halt c.self.inside.halt (c.self.invariant.rests c.in-None.is) c.in-Ok.ensures.rests c.in-Ok.ensures.went f
    (subst (λ (w : Whole). StandsFor w f) (sym c.self.view_is) stands)

pub returns-in-Ok-clause-table : goal.returns-in-Ok-clause-table
returns-in-Ok-clause-table g c =
    end_table g.W.Watch.told g.W.Watch.faults _ _ c.self.inside.engine c.end_turn.new.self c.self.inside.halt c.self.inside.halt (c.self.invariant.rests c.in-None.is) c.in-Ok.ensures.went c.end_turn.ensures.machine
    ∙ ap (λ (w : Whole). w.table) c.self.view_is
