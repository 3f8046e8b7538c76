use Rattle.std.proofs.Common.{◌+◌, ◌++◌, [], ◌∷◌, ◌∙◌, List, ap, sym}
use Rattle.cache_tags.specs.Lists.{free_entry}
use Rattle.cache_tags.specs.declared.set.Held.{Held}
use Rattle.cache_tags.proofs.Made.{entries_more}
use Rattle.cache_tags.proofs.set.free_entries.Goals as goal

pub loop-way-preserved : goal.loop-way-preserved
loop-way-preserved c =
    c.in_ok-push.ensures.items
    ∙ ap (λ (es : List Held). es ++ free_entry (c.args.first + c.loop-way.way) ∷ []) c.loop-way.invariant
    ∙ sym (entries_more c.args.first c.loop-way.way)
