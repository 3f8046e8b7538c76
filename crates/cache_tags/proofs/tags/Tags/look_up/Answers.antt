use Rattle.std.proofs.Common.{◌∙◌, List, ap}
use Rattle.cache_tags.specs.Sets.{SetLines, Tagged}
use Rattle.cache_tags.specs.Tags.{slot_of_line}
use Rattle.cache_tags.proofs.tags.Tags.look_up.Goals as goal

pub returns-in-None-clause-answer : goal.returns-in-None-clause-answer
returns-in-None-clause-answer c =
    c.look_up_older.ensures.answer c.self.inside.dirty.items
    ∙ ap (λ (sets : List SetLines). slot_of_line c.args.pid c.args.line (record { sets = sets; dirty = c.self.inside.dirty.items })) c.as_mut_slice.ensures.value
    ∙ ap (slot_of_line c.args.pid c.args.line) c.self.view_is
