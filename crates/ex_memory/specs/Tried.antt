-- A small machine: two memories, and one processor with a cache of one line.
use Rattle.std.specs.Prelude.{[], ◌∷◌}
use Rattle.lego_base.specs.declared.shape.Shape.{Shape}

abbrev pub small : Shape
small = record {
  frames = 16 ∷ 16 ∷ [];
  log = 1;
  blocks = 8;
  cache_blocks = 1;
  processors = 1;
  sets = 1;
  ways = 1;
  placement = record { 0 = 0 } ∷ record { 0 = 1 } ∷ [];
  deliveries = 0 ∷ [];
  crashes = [];
}
