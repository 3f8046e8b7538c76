-- The track that the engine stands for.
use Rattle.std.specs.Prelude.{◌≡◌, [], None, Option, Some, false}
use Rattle.lego_msg.specs.Completions.{brought}
use Rattle.lego_msg.specs.Files.{no_files}
use Rattle.lego_msg.specs.Plain.{effect, no_plain}
use Rattle.lego_msg.specs.Track.{Track, memory_count}
use Rattle.lego_msg.specs.declared.operation.Open.{Open}
pub use Rattle.protocol_engine.specs.Beyond.{Beyond}
use Rattle.protocol_engine.specs.declared.engine.Engine.{Engine}

-- A refusal that stops the run ends the call at once, so the engine is never one that is stopped.
abbrev pub track_of : Engine → Beyond → Track
track_of c g = record {
  shape = c.shape;
  mems = c.memories.items;
  disk = c.store;
  net = c.net;
  owed = c.owed;
  delivered = c.delivered;
  next = c.next;
  current = c.current;
  healing = c.healing;
  clock = c.clock;
  stopped = false;
  owners = c.table.owners;
  plain = g.plain;
  caches = g.caches;
  due = g.due;
}

-- once an operation is complete
abbrev pub finished_beyond : Open → Beyond → Beyond
finished_beyond o g = record g { plain = effect o.operation g.plain; caches = brought o o.operation g.caches }

abbrev pub beyond_with : Option Open → Beyond → Beyond
beyond_with None g = g
beyond_with (Some o) g = finished_beyond o g

-- the table of owners counts the memories of the machine
abbrev pub HasCount : Engine → Type 0
HasCount c = c.table.memories ≡ memory_count c.shape

-- the machine is the same
pub record SameMachine (old new : Engine) : Type 0 where
  pub shape : new.shape ≡ old.shape
  pub count : new.table.memories ≡ old.table.memories
  -- and so is whose turn it is to own a region
  pub placement : new.table.placement ≡ old.table.placement
  pub given : new.table.given ≡ old.table.given

-- with nothing beyond
abbrev pub bare : Engine → Track
bare c = track_of c (record { plain = no_plain (no_files 0); caches = record { line = λ cpu pid line. None; filled = None }; due = [] })
