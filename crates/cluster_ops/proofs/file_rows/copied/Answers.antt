use Rattle.lego_msg.proofs.Clones.{same_body}
use Rattle.cluster_ops.proofs.file_rows.copied.Goals as goal

pub returns : goal.returns
returns c = same_body _ _ c.in_ok-copy.ensures.cases
