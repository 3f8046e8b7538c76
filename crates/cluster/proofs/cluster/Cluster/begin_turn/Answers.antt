use Rattle.std.proofs.Common.{◌≡◌, ◌∙◌, None, ap, subst, sym}
use Rattle.lego_msg.specs.declared.event.Event.TheVariants.{Turn}
use Rattle.cluster.specs.Standing.{IsAtRest, StandsFor}
use Rattle.cluster.specs.Whole.{Whole}
use Rattle.cluster.proofs.Turns.{show_stands, show_table, sound_show}
use Rattle.cluster.proofs.cluster.Cluster.begin_turn.Goals as goal

pub begin_turn-requires-clause-rests : goal.begin_turn-requires-clause-rests
begin_turn-requires-clause-rests g c = c.self.invariant.rests c.in-None.is

pub begin_turn-requires-clause-sound : goal.begin_turn-requires-clause-sound
begin_turn-requires-clause-sound g c =
    let none : c.args.self.now.halt ≡ None = ap (λ (w : Whole). w.halt) (sym c.self.view_is) ∙ c.in-None.is in
    sound_show c.self.inside.engine c.self.inside.halt (Turn c.args.number c.args.pid) (c.self.invariant.rests c.in-None.is)
    (subst IsAtRest (sym c.self.view_is) (c.requires.rests none))

pub returns-in-Ok-clause-stands : goal.returns-in-Ok-clause-stands
returns-in-Ok-clause-stands g c = λ f stands.
    show_stands g.W.Watch.told g.W.Watch.faults _ _ c.self.inside.engine c.begin_turn.new.self c.self.inside.halt c.self.inside.halt (Turn c.args.number c.args.pid) (c.self.invariant.rests c.in-None.is) c.in-Ok.ensures.rests c.in-Ok.ensures.went f
    (subst (λ (w : Whole). StandsFor w f) (sym c.self.view_is) stands)

pub returns-in-Ok-clause-table : goal.returns-in-Ok-clause-table
returns-in-Ok-clause-table g c =
    show_table g.W.Watch.told g.W.Watch.faults _ _ c.self.inside.engine c.begin_turn.new.self c.self.inside.halt c.self.inside.halt (Turn c.args.number c.args.pid) (c.self.invariant.rests c.in-None.is) c.in-Ok.ensures.went c.begin_turn.ensures.machine
    ∙ ap (λ (w : Whole). w.table) c.self.view_is
