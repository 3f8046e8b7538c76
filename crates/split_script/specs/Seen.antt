-- What the plain kernel's run shows, with no cache, owner or message in it: turns, accesses cut at lines, fills, output.
use Rattle.std.specs.Prelude.{ℕ, ◌++◌, if◌then◌else◌, Bool, true, false, List, [], ◌∷◌, map}
use Rattle.lego_msg.specs.declared.event.Event.{Event}
use Rattle.lego_msg.specs.declared.event.Event.TheVariants.{Turn, Access, Fill, Drop, Out}
use Rattle.placement.specs.Processors.{processor_with}
use Rattle.linux_model.specs.Effects.{Effect, Begins, Reads, Writes, Refused, Fills, Puts}
use Rattle.linux_model.specs.Held.{Held, held_after}
use Rattle.split_script.specs.Now.{pid_no}
use Rattle.split_script.specs.Touches.{Part, shown_kind, line_parts, write_parts, refused_parts}
use Rattle.split_script.specs.Script.{stream_number}

-- with this many processors
abbrev pub part_seen : ℕ → Part → Event
part_seen processors a = Access (record { 0 = processor_with processors a.pid }) (pid_no a.pid) a.at a.kind a.bytes

abbrev pub seen : ℕ → Held → Effect → List Event
seen processors h (Begins number pid) = Turn number (pid_no pid) ∷ []
seen processors h (Reads kind pid address bytes) = map (part_seen processors) (line_parts (shown_kind kind) pid address bytes)
seen processors h (Writes kind pid address bytes) = map (part_seen processors) (write_parts kind pid address bytes)
seen processors h (Refused kind pid address size) = map (part_seen processors) (refused_parts kind pid address size (h.space pid))
seen processors h (Fills pid address bytes) = Fill (pid_no pid) address bytes ∷ []
seen processors h (Puts stream bytes) = Out (stream_number stream) bytes ∷ []
seen processors h other = []

abbrev pub all_seen : ℕ → Held → List Effect → List Event
all_seen processors h [] = []
all_seen processors h (e ∷ es) = seen processors h e ++ all_seen processors (held_after e h) es

-- drops of lines aside
abbrev pub is_drop : Event → Bool
is_drop (Drop cpu pid line) = true
is_drop other = false

abbrev pub undropped : List Event → List Event
undropped [] = []
undropped (e ∷ es) = if is_drop e then undropped es else e ∷ undropped es
