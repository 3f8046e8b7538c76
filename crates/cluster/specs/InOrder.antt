-- The engine as what contracts see of a cluster.
use Rattle.std.specs.Prelude.{◌≡◌, None, Option}
use Rattle.lego_base.specs.declared.stops.Halt.{Halt}
use Rattle.protocol_engine.specs.Steps.{Rests}
use Rattle.protocol_engine.specs.Tracks.{HasCount}
use Rattle.cluster.specs.Whole.{Whole}
use Rattle.protocol_engine.specs.declared.engine.Engine.{Engine}

abbrev pub whole_of : Engine → Option Halt → Whole
whole_of c halt = record {
  shape = c.shape;
  mems = c.memories.items;
  disk = c.store;
  net = c.net;
  delivered = c.delivered;
  next = c.next;
  clock = c.clock;
  table = c.table;
  halt = halt;
}

-- until a halt is kept nothing is owed, open or healing between calls
pub record InOrder (c : Engine) (halt : Option Halt) : Type 0 where
  pub rests : halt ≡ None → Rests c
  pub count : halt ≡ None → HasCount c
