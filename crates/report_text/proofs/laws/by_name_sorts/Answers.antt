use Rattle.report_text.proofs.ByName.{by_name_is_sorted}
use Rattle.report_text.proofs.laws.by_name_sorts.Goals as goal

pub returns : goal.returns
returns c = by_name_is_sorted
