use Rattle.rv64_decode.proofs.Apart.{table_is_apart}
use Rattle.rv64_decode.proofs.rows_are_apart.Goals as goal

pub returns : goal.returns
returns c = table_is_apart
