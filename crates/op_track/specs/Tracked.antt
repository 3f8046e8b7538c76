-- What contracts see of an operation's targets.
use Rattle.std.specs.Prelude.{List}
use Rattle.lego_base.specs.declared.ids.OpNo.{OpNo}
use Rattle.op_track.specs.declared.op.Target.{Target}

pub record Tracked : Type 0 where
  pub number : OpNo
  pub targets : List Target
