use Rattle.report_text.proofs.ByName.{archive_free}
use Rattle.report_text.proofs.laws.order_is_free.Goals as goal

pub returns : goal.returns
returns c = archive_free
