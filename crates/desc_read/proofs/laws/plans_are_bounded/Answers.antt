use Rattle.desc_read.proofs.Limits.{described_bounded}
use Rattle.desc_read.proofs.laws.plans_are_bounded.Goals as goal

pub returns : goal.returns
returns c = described_bounded
