-- A generated program: what is drawn for it, in order, and what is made of that.
use Rattle.std.specs.Prelude.{ℕ, ◌+◌, ◌++◌, List, [], ◌∷◌, map, codes}
use Rattle.lego_base.specs.declared.shape.Shape.{Shape}
use Rattle.desc_read.specs.declared.plan.Plan.{Plan}
use Rattle.desc_read.specs.Plans.{memory}
use Rattle.guest_gen.specs.declared.guest.Generated.{Generated}
use Rattle.guest_gen.specs.Draws.{drawn, draws, next, after}
use Rattle.guest_gen.specs.Jobs.{drawn_jobs, after_jobs, program}
use Rattle.guest_gen.specs.Assembly.{bytes_of_steps}
use Rattle.guest_gen.specs.Image.{image_of}

-- the machine and the order of a run; what isn't drawn is what a description has that doesn't name it
abbrev pub shape_for : List ℕ → List ℕ → Shape
shape_for placement deliveries = record {
  frames = 4096 ∷ 4096 ∷ 4096 ∷ [];
  log = 256;
  blocks = 16384;
  cache_blocks = 64;
  processors = 2;
  sets = 64;
  ways = 4;
  placement = map memory placement;
  deliveries = deliveries;
  crashes = [];
}

abbrev pub plan_with : List ℕ → Shape → List ℕ → Plan
plan_with prefix shape turns = record {
  shape = shape;
  turns = turns;
  quantum = 1000;
  max_turns = 1000000;
  init = prefix ++ codes ".elf";
  args = (prefix ++ codes ".elf") ∷ [];
  env = [];
  files = [];
  report = prefix ++ codes ".report";
  archive = prefix ++ codes ".archive";
}

-- eight places of memories of three, 16 turns, and 16 deliveries
abbrev pub plan_drawn : List ℕ → ℕ → Plan
plan_drawn prefix state = plan_with prefix (shape_for (draws 8 3 state) (draws 16 64 (after 16 (after 8 state)))) (draws 16 64 (after 8 state))

-- a pattern of 2048 bytes and 64 to 127 jobs, and then the plan
abbrev pub guest_of : List ℕ → List ℕ → ℕ → ℕ → Generated
guest_of prefix pattern jobs state = record {
  image = image_of (bytes_of_steps (program (drawn_jobs jobs state))) pattern;
  plan = plan_drawn prefix (after_jobs jobs state);
}

abbrev pub guest_from : List ℕ → List ℕ → ℕ → Generated
guest_from prefix pattern state = guest_of prefix pattern (64 + drawn 64 state) (next state)

unfoldable pub guest : ℕ → List ℕ → Generated
guest seed prefix = guest_from prefix (draws 2048 256 seed) (after 2048 seed)
