use Rattle.std.proofs.Common.{◌≡◌, ◌∙◌, ap, map, false, not, sym, rules}
use Rattle.std.proofs.lemmas.Fn.{filter_same}
use Rattle.lego_msg.specs.Places.{same_place}
use Rattle.lego_msg.specs.Track.{forget as without_answers}
use Rattle.lego_msg.specs.declared.operation.Answer.{Answer}
use Rattle.lego_msg.specs.declared.operation.Open.{Open}
use Rattle.op_track.specs.Targets.{by_answers, set_to}
use Rattle.op_track.specs.Tracked.{Tracked}
use Rattle.protocol_engine.specs.Opening.{places}
use Rattle.protocol_engine.proofs.Flags.{crash_told, places-set}
use Rattle.protocol_engine.proofs.Forgetting.{filter-forget}
use Rattle.protocol_engine.proofs.running.Running.forget.Goals as goal

pub invariant_of-self : goal.invariant_of-self
invariant_of-self c =
    let kept : c.retain.new.self.items ≡ without_answers c.args.place c.self.inside.answers.items = filter_same _ (λ (a : Answer). not (same_place a.place c.args.place)) _ (λ x b q k. search rules) _ _ c.retain.ensures.filtered ∙ filter-forget c.args.place c.self.inside.answers.items in
    let targets : c.crashed.new.self.targets ≡ map (set_to false c.args.place) c.self.inside.op.targets = ap (λ (o : Tracked). o.targets) c.crashed.ensures in
    targets
    ∙ crash_told c.self.inside.op.targets c.self.inside.answers.items c.args.place c.self.invariant
    ∙ (λ i. by_answers (sym kept i) (places (sym targets i)))

pub returns : goal.returns
returns c =
    let kept : c.retain.new.self.items ≡ without_answers c.args.place c.self.inside.answers.items = filter_same _ (λ (a : Answer). not (same_place a.place c.args.place)) _ (λ x b q k. search rules) _ _ c.retain.ensures.filtered ∙ filter-forget c.args.place c.self.inside.answers.items in
    let same : places c.crashed.new.self.targets ≡ places c.self.inside.op.targets = ap (λ (o : Tracked). places o.targets) c.crashed.ensures ∙ places-set false c.args.place c.self.inside.op.targets in
    let first : ◌≡◌ {A = Open}
    (record { number = c.crashed.new.self.number; by = c.self.inside.by; operation = c.self.inside.operation; unsent = c.self.inside.unsent.items; targets = places c.crashed.new.self.targets; answers = c.retain.new.self.items })
    (record { number = c.self.inside.op.number; by = c.self.inside.by; operation = c.self.inside.operation; unsent = c.self.inside.unsent.items; targets = places c.self.inside.op.targets; answers = without_answers c.args.place c.self.inside.answers.items }) =
    λ i. record { number = (c.crashed.ensures i).number; by = c.self.inside.by; operation = c.self.inside.operation; unsent = c.self.inside.unsent.items; targets = same i; answers = kept i } in
    first ∙ ap (λ (o : Open). record o { answers = without_answers c.args.place o.answers }) c.self.view_is
