use Rattle.std.proofs.Common.{◌∙◌}
use Rattle.report_text.proofs.Appended.{report_is}
use Rattle.report_text.proofs.report_lines.report.Goals as goal

pub returns : goal.returns
returns c = c.in_ok-report.ensures ∙ c.as_bytes.ensures.value ∙ report_is c.args.ending.now c.args.exits.now c.args.counts.now _ _ _ _ c.new-text.ensures.bytes c.in_ok-push_ending.ensures c.in_ok-push_exits.ensures c.in_ok-push_counts.ensures
