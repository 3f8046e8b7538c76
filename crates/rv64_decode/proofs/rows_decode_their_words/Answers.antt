use Rattle.rv64_decode.proofs.Apart.{table_decodes, table_leaves_others}
use Rattle.rv64_decode.proofs.rows_decode_their_words.Goals as goal

pub returns-clause-rows : goal.returns-clause-rows
returns-clause-rows c = table_decodes

pub returns-clause-others : goal.returns-clause-others
returns-clause-others c = table_leaves_others
