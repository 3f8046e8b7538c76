use Rattle.rv64_decode.proofs.Masks.{table_under_masks}
use Rattle.rv64_decode.proofs.matches_lie_under_masks.Goals as goal

pub returns : goal.returns
returns c = table_under_masks
