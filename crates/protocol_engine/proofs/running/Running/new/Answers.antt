use Rattle.std.proofs.Common.{◌≡◌, ◌∙◌, ap, sym}
use Rattle.op_track.specs.Targets.{by_answers}
use Rattle.op_track.specs.Tracked.{Tracked}
use Rattle.protocol_engine.specs.Opening.{places}
use Rattle.protocol_engine.proofs.Flags.{none_told, places-silent}
use Rattle.protocol_engine.proofs.running.Running.new.Goals as goal

pub invariant_of-result : goal.invariant_of-result
invariant_of-result c =
    let op : c.in_ok-op.op.targets ≡ _ = ap (λ (o : Tracked). o.targets) c.in_ok-op.ensures in
    op ∙ none_told _ ∙ (λ i. by_answers (sym c.new-2.ensures.items i) (places (sym op i)))

pub returns : goal.returns
returns c =
    let op = c.in_ok-op.ensures in
    let unsent = c.into_vec.ensures ∙ c.in_ok-unsent.ensures in
    let targets : places c.in_ok-op.op.targets ≡ _ = ap (λ (o : Tracked). places o.targets) c.in_ok-op.ensures ∙ places-silent _ ∙ c.as_slice.ensures ∙ c.in_ok-targets.ensures in
    λ i. record {
      number = (op i).number;
      by = c.args.by;
      operation = c.args.operation;
      unsent = unsent i;
      targets = targets i;
      answers = c.new-2.ensures.items i;
    }
