-- A cluster that is taken apart: what its parts hold between calls.
use Rattle.std.specs.Prelude.{◌≡◌, None, true}
use Rattle.lego_msg.specs.Track.{is_calm, memory_count}
use Rattle.protocol_engine.specs.Beyond.{Beyond}
use Rattle.cluster.specs.Whole.{Whole, track_at}
use Rattle.cluster.specs.declared.assembly.ClusterParts.{ClusterParts}

abbrev pub whole_in : ClusterParts → Whole
whole_in p = record {
  shape = p.shape;
  mems = p.memories.items;
  disk = p.store;
  net = p.net;
  delivered = p.pace.delivered;
  next = p.pace.next;
  clock = p.pace.clock;
  table = p.table;
  halt = p.pace.halt;
}

-- Unless a halt is kept no crash is due, and the table of owners counts the memories of the machine.
pub record MayGoOn (w : Whole) : Type 0 where
  pub calm : w.halt ≡ None → (g : Beyond) → is_calm (track_at w g) ≡ true
  pub count : w.halt ≡ None → w.table.memories ≡ memory_count w.shape
