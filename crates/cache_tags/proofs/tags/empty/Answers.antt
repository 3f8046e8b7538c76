use Rattle.std.proofs.Common.{◌++◌, [], ◌∷◌, ◌∙◌, sym}
use Rattle.cache_tags.proofs.Made.{sets_more}
use Rattle.cache_tags.proofs.tags.empty.Goals as goal

pub loop-number-preserved : goal.loop-number-preserved
loop-number-preserved c =
    c.in_ok-push.ensures.items
    ∙ (λ i. c.loop-number.invariant i ++ c.in_ok-new.ensures i ∷ [])
    ∙ sym (sets_more c.loop-number.number c.args.ways)
