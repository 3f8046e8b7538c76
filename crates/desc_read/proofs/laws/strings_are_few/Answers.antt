use Rattle.desc_read.proofs.Limits.{described_fits}
use Rattle.desc_read.proofs.laws.strings_are_few.Goals as goal

pub returns : goal.returns
returns c = described_fits
