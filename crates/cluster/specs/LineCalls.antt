-- A line is read from the owner of its region, who is asked for first.
use Rattle.std.specs.Prelude.{◌≡◌, ◌/◌, [], ◌∷◌, Err, List, None, Ok, Option, Result, Some}
use Rattle.lego_base.specs.declared.ids.LineNo.{LineNo}
use Rattle.lego_base.specs.declared.ids.MemId.{MemId}
use Rattle.lego_base.specs.declared.ids.Pid.{Pid}
use Rattle.lego_base.specs.declared.records.HomeEntry.{HomeEntry}
use Rattle.lego_base.specs.declared.stops.Halt.{Halt}
use Rattle.lego_base.specs.declared.stops.MemStop.{MemStop}
use Rattle.lego_base.specs.declared.stops.MemStop.TheVariants.{Halt as Halts, Segv}
use Rattle.lego_msg.specs.Maps.{owner_of}
use Rattle.lego_msg.specs.Plain.{Plain}
use Rattle.lego_msg.specs.declared.body.Body.TheVariants.{Done}
use Rattle.lego_msg.specs.declared.operation.Operation.{Operation}
use Rattle.lego_msg.specs.declared.operation.Operation.TheVariants.{Finds, Reads}
use Rattle.lego_msg.specs.declared.place.Place.{Place}
use Rattle.protocol_engine.specs.Beyond.{Beyond}
use Rattle.cluster.specs.Answers.{line_body}
use Rattle.cluster.specs.Calls.{served}
use Rattle.cluster.specs.declared.reads.LineIn.{LineIn}
use Rattle.cluster.specs.declared.reads.LineRead.{LineRead}

abbrev pub finds_line : Pid → LineNo → Operation
finds_line pid line = Finds pid (record { 0 = line.0 / 32768 })

-- where nobody owns the region, nobody is read from
abbrev pub line_asked : Pid → LineNo → Option MemId → List Operation
line_asked pid line None = finds_line pid line ∷ []
line_asked pid line (Some owner) = finds_line pid line ∷ Reads pid line owner ∷ []

-- the home of the process knows the owner of the line's region
abbrev pub OwnerKnown : List HomeEntry → Pid → LineNo → Plain → Type 0
OwnerKnown owners pid line f = f.homes pid.0 (line.0 / 32768) ≡ owner_of owners pid.0 (line.0 / 32768)

abbrev pub read_in : Option LineIn → Option LineRead
read_in None = None
read_in (Some line) = Some (record { perms = line.perms; bytes = line.bytes })

-- a line that was read is in the cache of its processor
abbrev pub line_beyond : Place → Pid → LineNo → Option LineIn → Beyond → Beyond
line_beyond by pid line None g = served by (finds_line pid line) Done g
line_beyond by pid line (Some got) g = served by (Reads pid line got.owner) (line_body (read_in (Some got))) (served by (finds_line pid line) Done g)

-- that no area has the page is an answer
abbrev pub found_in : Result LineIn MemStop → Result (Option LineIn) Halt
found_in (Ok line) = Ok (Some line)
found_in (Err Segv) = Ok None
found_in (Err (Halts h)) = Err h
