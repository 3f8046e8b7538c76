use Rattle.std.proofs.Common.{◌∙◌, Some, ap}
use Rattle.serde_json.specs.Data.{Data}
use Rattle.guest_gen.proofs.Texts.{few_in, if_made, none_in, text_is}
use Rattle.guest_gen.proofs.text.plan_bytes.Goals as goal

pub returns-clause-text : goal.returns-clause-text
returns-clause-text c =
    if_made c.to_vec.result _ _ (λ b h. h (none_in _ c.args.plan.now c.in_ok-value.ensures) ∙ text_is _ c.args.plan.now c.in_ok-value.ensures) c.to_vec.ensures.text

pub returns-clause-read : goal.returns-clause-read
returns-clause-read c =
    if_made c.to_vec.result _ _ (λ b h. h (few_in _ c.args.plan.now c.in_ok-value.ensures) ∙ ap (λ (d : Data). Some d) c.in_ok-value.ensures) c.to_vec.ensures.reads_back
