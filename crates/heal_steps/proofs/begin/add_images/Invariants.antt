use Rattle.std.proofs.Common.{◌≡◌, ◌++◌, drop}
use Rattle.lego_msg.specs.Healing.{images_back}
use Rattle.heal_steps.specs.Steps.{entries_of}
use Rattle.heal_steps.proofs.begin.add_images.Given as goal

-- what is there with the moves of the regions that are left is the whole
abbrev pub invariant-loop-pid : goal.invariant-loop-pid
invariant-loop-pid l = l.moves.items ++ images_back l.memory.0 (entries_of l.memory (drop l.pid-index l.regions)) ≡ l.initial.moves.items ++ images_back l.memory.0 (entries_of l.memory l.regions)
