use Rattle.std.proofs.Common.{◌≡◌, ◌∙◌, ap, map, true, sym, ◌∷◌}
use Rattle.lego_msg.specs.declared.operation.Answer.{Answer}
use Rattle.lego_msg.specs.declared.operation.Open.{Open}
use Rattle.op_track.specs.Targets.{by_answers, set_to}
use Rattle.op_track.specs.Tracked.{Tracked}
use Rattle.protocol_engine.specs.Opening.{places}
use Rattle.protocol_engine.proofs.Flags.{one_more_told, places-set}
use Rattle.protocol_engine.proofs.running.Running.note.Goals as goal

pub invariant_of-self-2 : goal.invariant_of-self-2
invariant_of-self-2 c =
    let answer : Answer = record { place = c.args.place; body = c.args.body } in
    let targets : c.answered.new.self.targets ≡ map (set_to true c.args.place) c.self.inside.op.targets = ap (λ (o : Tracked). o.targets) c.answered.ensures in
    targets
    ∙ one_more_told c.self.inside.op.targets c.self.inside.answers.items answer c.self.invariant
    ∙ (λ i. by_answers (sym c.in_ok-insert.ensures.items i) (places (sym targets i)))

pub returns : goal.returns
returns c =
    let answer : Answer = record { place = c.args.place; body = c.args.body } in
    let same : places c.answered.new.self.targets ≡ places c.self.inside.op.targets = ap (λ (o : Tracked). places o.targets) c.answered.ensures ∙ places-set true c.args.place c.self.inside.op.targets in
    let first : ◌≡◌ {A = Open}
    (record { number = c.answered.new.self.number; by = c.self.inside.by; operation = c.self.inside.operation; unsent = c.self.inside.unsent.items; targets = places c.answered.new.self.targets; answers = c.insert.new.self.items })
    (record { number = c.self.inside.op.number; by = c.self.inside.by; operation = c.self.inside.operation; unsent = c.self.inside.unsent.items; targets = places c.self.inside.op.targets; answers = answer ∷ c.self.inside.answers.items }) =
    λ i. record { number = (c.answered.ensures i).number; by = c.self.inside.by; operation = c.self.inside.operation; unsent = c.self.inside.unsent.items; targets = same i; answers = c.in_ok-insert.ensures.items i } in
    first ∙ ap (λ (o : Open). record o { answers = answer ∷ o.answers }) c.self.view_is
