-- Calls on files, and memory that runs out before a call did anything.
use Rattle.std.specs.Prelude.{◌≡◌, ◌⊎◌, None, Some}
use Rattle.lego_base.specs.declared.stops.Halt.{Halt}
use Rattle.lego_base.specs.declared.stops.Halt.TheVariants as halt
use Rattle.lego_msg.specs.Files.{Files}
use Rattle.linux_model.specs.Held.{Held}
use Rattle.ex_memory.specs.Split.{Split}

-- what is held, with these files
abbrev pub filed : Files → Held → Held
filed f h = record h { files = f.files; names = f.names; next = f.next }

-- Nothing was done: a halt was kept before, or memory ran out and that is kept.
pub record Lacks (m m' : Split) (h : Halt) : Type 0 where
  pub same : m' ≡ record m { whole = record m.whole { halt = Some h } }
  pub why : (m.whole.halt ≡ Some h) ⊎ ((m.whole.halt ≡ None) × (h ≡ halt.NoMemory))
