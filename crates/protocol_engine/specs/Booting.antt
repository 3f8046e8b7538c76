-- The engine before the first event.
use Rattle.std.specs.Prelude.{◌≡◌, List}
use Rattle.lego_base.specs.declared.shape.Shape.{Shape}
use Rattle.lego_msg.specs.Marks.{Mark}
use Rattle.lego_msg.specs.Track.{memory_count, start}
use Rattle.placement.specs.Owners.{no_owners}
use Rattle.protocol_engine.specs.Steps.{Rests}
use Rattle.protocol_engine.specs.Tracks.{HasCount, track_of}
use Rattle.protocol_engine.specs.Beyond.{beginning}
use Rattle.protocol_engine.specs.declared.engine.Engine.{Engine}

-- it stands at the start of the run, whatever is due, and nothing is open
pub record IsBooted (shape : Shape) (e : Engine) : Type 0 where
  pub starts : (due : List Mark) → track_of e (beginning shape.blocks due) ≡ start shape due
  pub table : e.table ≡ no_owners (memory_count shape) shape.placement
  pub rests : Rests e
  pub count : HasCount e
