use Rattle.rv64_decode.proofs.Ranges.{immediate_within}
use Rattle.rv64_decode.proofs.immediates_are_in_range.Goals as goal

pub returns : goal.returns
returns c = immediate_within
