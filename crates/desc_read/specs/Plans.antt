-- What a description asks for: its fields in their order, each with its kind, its range and its default (`None`: it is
-- required).
use Rattle.std.specs.Prelude.{ℕ, zero, suc, ◌+◌, ◌-◌, Bool, not, if◌then◌else◌, List, [], ◌∷◌, ◌++◌, map, length, Option, Some, None, Result, Ok, codes, bytes_eq}
use Rattle.std.specs.List.{list_any}
use Rattle.std.specs.Str.{is_utf8}
use Rattle.std.specs.Int.{is_power_of_two}
use Rattle.lego_base.specs.declared.ids.MemId.{MemId}
use Rattle.lego_base.specs.declared.shape.CrashAt.{CrashAt}
use Rattle.lego_base.specs.declared.shape.Shape.{Shape}
use Rattle.serde_json.specs.Data.{Data}
use Rattle.serde_json.specs.Read.{read}
use Rattle.desc_read.specs.declared.fault.DescKind.TheVariants.{Syntax}
use Rattle.desc_read.specs.declared.place.EntryList.TheVariants.{Crashes, Files}
use Rattle.desc_read.specs.declared.place.Entry.{Entry}
use Rattle.desc_read.specs.declared.texts.TextRule.TheVariants.{Argument, DepotName, FileName}
use Rattle.desc_read.specs.declared.plan.Plan.{Plan}
use Rattle.desc_read.specs.declared.plan.FileFrom.{FileFrom}
use Rattle.desc_read.specs.declared.machine_fields.MachineFields.{MachineFields}
use Rattle.desc_read.specs.declared.schedule_fields.ScheduleFields.{ScheduleFields}
use Rattle.desc_read.specs.declared.program_fields.ProgramFields.{ProgramFields}
use Rattle.desc_read.specs.Faults.{Refusal, refused}
use Rattle.desc_read.specs.Checks.{number, text, list_of, list_up_to, fit}
use Rattle.desc_read.specs.Objects.{◌>>=◌, field, in_range, object, entries, entry_after}

-- ---- the names of fields

abbrev pub plan_fields : List (List ℕ)
plan_fields = codes "version" ∷ codes "frames" ∷ codes "log" ∷ codes "blocks" ∷ codes "cache_blocks" ∷ codes "processors" ∷ codes "sets" ∷ codes "ways" ∷ codes "placement" ∷ codes "turns" ∷ codes "quantum" ∷ codes "max_turns" ∷ codes "deliveries" ∷ codes "crashes" ∷ codes "init" ∷ codes "args" ∷ codes "env" ∷ codes "files" ∷ codes "report" ∷ codes "archive" ∷ []

abbrev pub crash_fields : List (List ℕ)
crash_fields = codes "turn" ∷ codes "after" ∷ codes "memory" ∷ []

abbrev pub file_fields : List (List ℕ)
file_fields = codes "path" ∷ codes "from" ∷ []

-- ---- the machine

abbrev pub memory : ℕ → MemId
memory n = record { 0 = n }

-- the numbers below n in their order
abbrev pub numbers_below : ℕ → List ℕ
numbers_below zero = []
numbers_below (suc n) = numbers_below n ++ n ∷ []

-- the fields from version to placement, whose default is every memory by turns
unfoldable pub machine_of : Option Entry → Data → Result MachineFields Refusal
machine_of at d = do
  version ← field at d (codes "version") (number 1 1) None
  frames ← field at d (codes "frames") (list_of 2 8 (number 16 16384)) (Some (4096 ∷ 4096 ∷ 4096 ∷ []))
  log ← field at d (codes "log") (number 1 1024) (Some 256)
  blocks ← field at d (codes "blocks") (number 1 131072) (Some 16384)
  cache_blocks ← field at d (codes "cache_blocks") (number 1 1024) (Some 64)
  processors ← field at d (codes "processors") (number 1 8) (Some 2)
  sets ← field at d (codes "sets") (number 1 1024) (Some 64)
  power ← in_range at (codes "sets") (is_power_of_two sets)
  ways ← field at d (codes "ways") (number 1 16) (Some 4)
  placement ← field at d (codes "placement") (list_of 1 1024 (number 0 (length frames - 1))) (Some (numbers_below (length frames)))
  Ok (record { frames = frames; log = log; blocks = blocks; cache_blocks = cache_blocks; processors = processors; sets = sets; ways = ways; placement = map memory placement })

-- ---- turns, deliveries and crashes

-- the first turn after these crashes, whose turns rise
abbrev pub turn_after : List CrashAt → ℕ
turn_after [] = 0
turn_after (crash ∷ []) = crash.turn + 1
turn_after (first ∷ second ∷ rest) = turn_after (second ∷ rest)

-- an entry of crashes, at this turn or later
unfoldable pub crash_of : Option Entry → Data → ℕ → ℕ → ℕ → Result CrashAt Refusal
crash_of at d least_turn max_turns last_memory = do
  known ← object at crash_fields d
  turn ← field at d (codes "turn") (number least_turn max_turns) None
  after ← field at d (codes "after") (number 0 4294967295) None
  lost ← field at d (codes "memory") (number 0 last_memory) None
  Ok (record { turn = turn; after = after; memory = memory lost })

-- each at a turn above that of the one before it
unfoldable pub crashes_of : Option Entry → Data → ℕ → ℕ → Result (List CrashAt) Refusal
crashes_of at d max_turns last_memory = do
  listed ← field at d (codes "crashes") (list_up_to 65536) (Some [])
  entries (λ before e. crash_of (entry_after Crashes before) e (turn_after before) max_turns last_memory) [] listed

-- the fields from turns to crashes
unfoldable pub schedule_of : Option Entry → Data → ℕ → Result ScheduleFields Refusal
schedule_of at d last_memory = do
  turns ← field at d (codes "turns") (list_of 1 65536 (number 0 4294967295)) (Some (0 ∷ []))
  quantum ← field at d (codes "quantum") (number 1 100000) (Some 1000)
  max_turns ← field at d (codes "max_turns") (number 1 10000000) (Some 1000000)
  deliveries ← field at d (codes "deliveries") (list_of 1 65536 (number 0 4294967295)) (Some (0 ∷ []))
  crashes ← crashes_of at d max_turns last_memory
  Ok (record { turns = turns; quantum = quantum; max_turns = max_turns; deliveries = deliveries; crashes = crashes })

-- ---- the program, its files, and where its results go

-- whether one of these files has the path
abbrev pub has_path : List FileFrom → List ℕ → Bool
has_path files path = list_any (λ file. bytes_eq file.path path) files

-- an entry of files, after these
unfoldable pub file_of : Option Entry → Data → List FileFrom → Result FileFrom Refusal
file_of at d before = do
  known ← object at file_fields d
  path ← field at d (codes "path") (text FileName) None
  fresh ← in_range at (codes "path") (not (has_path before path))
  from ← field at d (codes "from") (text DepotName) None
  Ok (record { path = path; from = from })

unfoldable pub files_of : Option Entry → Data → Result (List FileFrom) Refusal
files_of at d = do
  listed ← field at d (codes "files") (list_up_to 1024) (Some [])
  entries (λ before e. file_of (entry_after Files before) e before) [] listed

-- the fields from init to archive
unfoldable pub program_of : Option Entry → Data → Result ProgramFields Refusal
program_of at d = do
  init ← field at d (codes "init") (text DepotName) None
  args ← field at d (codes "args") (list_of 1 512 (text Argument)) (Some (init ∷ []))
  args_fit ← in_range at (codes "args") (fit args [])
  env ← field at d (codes "env") (list_of 0 (512 - length args) (text Argument)) (Some [])
  all_fit ← in_range at (codes "env") (fit args env)
  files ← files_of at d
  report ← field at d (codes "report") (text DepotName) None
  archive ← field at d (codes "archive") (text DepotName) None
  apart ← in_range at (codes "archive") (not (bytes_eq archive report))
  Ok (record { init = init; args = args; env = env; files = files; report = report; archive = archive })

-- ---- the whole

abbrev pub shape_from : MachineFields → List ℕ → List CrashAt → Shape
shape_from machine deliveries crashes = record {
  frames = machine.frames;
  log = machine.log;
  blocks = machine.blocks;
  cache_blocks = machine.cache_blocks;
  processors = machine.processors;
  sets = machine.sets;
  ways = machine.ways;
  placement = machine.placement;
  deliveries = deliveries;
  crashes = crashes;
}

abbrev pub plan_from : MachineFields → ScheduleFields → ProgramFields → Plan
plan_from m s p = record {
  shape = shape_from m s.deliveries s.crashes;
  turns = s.turns;
  quantum = s.quantum;
  max_turns = s.max_turns;
  init = p.init;
  args = p.args;
  env = p.env;
  files = p.files;
  report = p.report;
  archive = p.archive;
}

-- the plan of the value of a JSON text, or its first fault
unfoldable pub plan_of : Data → Result Plan Refusal
plan_of d = do
  known ← object None plan_fields d
  machine ← machine_of None d
  schedule ← schedule_of None d (length machine.frames - 1)
  program ← program_of None d
  Ok (plan_from machine schedule program)

abbrev pub plan_read : Option Data → Result Plan Refusal
plan_read None = refused Syntax (codes ".")
plan_read (Some d) = plan_of d

-- the plan of a description's bytes, which are UTF-8 and a JSON text, or its first fault
unfoldable pub described : List ℕ → Result Plan Refusal
described bytes = if is_utf8 bytes then plan_read (read bytes) else refused Syntax (codes ".")
