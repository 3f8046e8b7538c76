use Rattle.report_text.proofs.Telling.{archive_back}
use Rattle.report_text.proofs.laws.archive_tells_files.Goals as goal

pub returns : goal.returns
returns c = archive_back
