use Rattle.std.proofs.Common.{◌∙◌}
use Rattle.lego_watch.proofs.Seeing.{watch_added, watch_failed}
use Rattle.lego_watch.proofs.list_watch.ListWatchWatch.see.Goals as goal

pub returns-then-begin-clause-shown : goal.returns-then-begin-clause-shown
returns-then-begin-clause-shown c = watch_failed _ _ _ _ c.begin.ensures.counted c.fail.ensures.risen c.fail.ensures.later

pub returns-in-Ok-clause-shown : goal.returns-in-Ok-clause-shown
returns-in-Ok-clause-shown c = watch_added _ _ _ _ c.begin.ensures.counted c.in-Ok.ensures.ok (c.begin.ensures.first c.if-begin.false)

pub returns-in-Err-clause-shown : goal.returns-in-Err-clause-shown
returns-in-Err-clause-shown c = watch_failed _ _ _ _ (c.in-Err.ensures.err ∙ c.begin.ensures.counted) c.fail-in-Err.ensures.risen c.fail-in-Err.ensures.later
