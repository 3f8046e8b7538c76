use Rattle.rv64_decode.proofs.Masks.{table_by_mask}
use Rattle.rv64_decode.proofs.rows_are_masks.Goals as goal

pub returns : goal.returns
returns c = table_by_mask
