-- The arguments and the environment of a description are few and short, and its plan is bounded.
use Rattle.std.proofs.Common.{◌≡◌, ℕ, ◌+◌, ◌-◌, ◌<◌, ◌≤◌, Bool, true, false, cond, not, refl, subst, List, [], ◌∷◌, ◌++◌, length, Option, Some, None, Result, Ok, arith}
use Rattle.std.specs.Prelude.{codes, bytes_eq}
use Rattle.std.specs.Str.{is_utf8}
use Rattle.std.proofs.lemmas.Bool.{leb-true, not-true}
use Rattle.serde_json.specs.Data.{Data}
use Rattle.serde_json.specs.Read.{read}
use Rattle.desc_read.specs.declared.fault.DescKind.TheVariants.{Syntax}
use Rattle.desc_read.specs.declared.texts.TextRule.TheVariants.{Argument, DepotName, FileName}
use Rattle.desc_read.specs.declared.place.Entry.{Entry}
use Rattle.desc_read.specs.declared.place.EntryList.TheVariants.{Files}
use Rattle.desc_read.specs.declared.plan.FileFrom.{FileFrom}
use Rattle.desc_read.specs.declared.plan.Plan.{Plan}
use Rattle.desc_read.specs.declared.program_fields.ProgramFields.{ProgramFields}
use Rattle.desc_read.specs.declared.schedule_fields.ScheduleFields.{ScheduleFields}
use Rattle.desc_read.specs.Faults.{Refusal, refused}
use Rattle.desc_read.specs.Checks.{number, text, bytes_of, list_of, list_up_to, fit}
use Rattle.desc_read.specs.Objects.{object, field, in_range, entry_after}
use Rattle.desc_read.specs.Plans.{plan_fields, file_fields, machine_of, crashes_of, schedule_of, has_path, file_of, files_of, program_of, plan_from, plan_of, plan_read, described}
use Rattle.desc_read.specs.Laws.{Strings, Bounded}
use Rattle.desc_read.proofs.Fields.{field_few}
use Rattle.desc_read.proofs.Bounds.{Paths, bound, same_value, entries_count, entries_keep, list_least, listed_most, more_paths, name_most, no_paths, number_most}

-- a condition that held
held : (at : Option Entry) (name : List ℕ) (good : Bool) (done : Unit {0}) → in_range at name good ≡ Ok done → good ≡ true
unfolding in_range
held at name true done e = refl
held at name false done e = cc e

-- ---- the program of a description

-- an entry of files after others
file_fits : (at : Option Entry) (d : Data) (before : List FileFrom) (file : FileFrom) → file_of at d before ≡ Ok file → Paths before → Paths (before ++ file ∷ [])
unfolding file_of
file_fits at d before file e paths =
    let known = bound (object at file_fields d) _ file e in
    let path = bound (field at d (codes "path") (text FileName) None) _ file known.2 in
    let fresh = bound (in_range at (codes "path") (not (has_path before path.0))) _ file path.2 in
    let from = bound (field at d (codes "from") (text DepotName) None) _ file fresh.2 in
    let same : record { path = path.0; from = from.0 } ≡ file = same_value _ file from.2 in
    let new : has_path before path.0 ≡ false = not-true (has_path before path.0) (held at (codes "path") (not (has_path before path.0)) fresh.0 fresh.1) in
    subst (λ (f : FileFrom). Paths (before ++ f ∷ [])) same (more_paths before (record { path = path.0; from = from.0 }) paths new (name_most at d (codes "path") path.0 path.1))

record FilesFit (files : List FileFrom) : Type 0 where
  few : length files ≤ 1024
  paths : Paths files

files_fit : (at : Option Entry) (d : Data) (files : List FileFrom) → files_of at d ≡ Ok files → FilesFit files
unfolding files_of
files_fit at d files e =
    let check : List FileFrom → Data → Result FileFrom Refusal = λ before e. file_of (entry_after Files before) e before in
    let listed = bound (field at d (codes "files") (list_up_to 1024) (Some [])) _ files e in
    let most : length listed.0 ≤ 1024 = listed_most at d (codes "files") 1024 listed.0 listed.1 in
    let all : length files ≡ 0 + length listed.0 = entries_count check listed.0 [] files listed.2 in
    record {
      few = omega (arith, most, all);
      paths = entries_keep Paths check (λ before e file paths is. file_fits (entry_after Files before) e before file is paths) listed.0 [] files no_paths listed.2;
    }

record ProgramFits (program : ProgramFields) : Type 0 where
  strings : Strings program.args program.env
  files : FilesFit program.files

program_fits : (at : Option Entry) (d : Data) (program : ProgramFields) → program_of at d ≡ Ok program → ProgramFits program
unfolding program_of
program_fits at d program e =
    let init = bound (field at d (codes "init") (text DepotName) None) _ program e in
    let args = bound (field at d (codes "args") (list_of 1 512 (text Argument)) (Some (init.0 ∷ []))) _ program init.2 in
    let args_fit = bound (in_range at (codes "args") (fit args.0 [])) _ program args.2 in
    let env = bound (field at d (codes "env") (list_of 0 (512 - length args.0) (text Argument)) (Some [])) _ program args_fit.2 in
    let all_fit = bound (in_range at (codes "env") (fit args.0 env.0)) _ program env.2 in
    let files = bound (files_of at d) _ program all_fit.2 in
    let report = bound (field at d (codes "report") (text DepotName) None) _ program files.2 in
    let archive = bound (field at d (codes "archive") (text DepotName) None) _ program report.2 in
    let apart = bound (in_range at (codes "archive") (not (bytes_eq archive.0 report.0))) _ program archive.2 in
    let same : record { init = init.0; args = args.0; env = env.0; files = files.0; report = report.0; archive = archive.0 } ≡ program = same_value _ program apart.2 in
    let few_args : length args.0 ≤ 512 = field_few at d (codes "args") 1 512 (text Argument) (init.0 ∷ []) args.0 (let one : length (init.0 ∷ []) ≤ 512 = omega arith in one) args.1 in
    let few_env : length env.0 ≤ 512 - length args.0 = field_few at d (codes "env") 0 (512 - length args.0) (text Argument) [] env.0 (let none : length {A = List ℕ} [] ≤ 512 - length args.0 = omega arith in none) env.1 in
    let fits : Strings args.0 env.0 = record { few = omega arith; short = leb-true (bytes_of args.0 + bytes_of env.0) 65536 (held at (codes "env") (fit args.0 env.0) all_fit.0 all_fit.1) } in
    subst ProgramFits same (record { strings = fits; files = files_fit at d files.0 files.1 })

-- ---- its turns

record ScheduleFits (schedule : ScheduleFields) : Type 0 where
  turns : 0 < length schedule.turns
  quantum : schedule.quantum ≤ 100000
  max_turns : schedule.max_turns ≤ 10000000

schedule_fits : (at : Option Entry) (d : Data) (last_memory : ℕ) (schedule : ScheduleFields) → schedule_of at d last_memory ≡ Ok schedule → ScheduleFits schedule
unfolding schedule_of
schedule_fits at d last_memory schedule e =
    let turns = bound (field at d (codes "turns") (list_of 1 65536 (number 0 4294967295)) (Some (0 ∷ []))) _ schedule e in
    let quantum = bound (field at d (codes "quantum") (number 1 100000) (Some 1000)) _ schedule turns.2 in
    let max_turns = bound (field at d (codes "max_turns") (number 1 10000000) (Some 1000000)) _ schedule quantum.2 in
    let deliveries = bound (field at d (codes "deliveries") (list_of 1 65536 (number 0 4294967295)) (Some (0 ∷ []))) _ schedule max_turns.2 in
    let crashes = bound (crashes_of at d max_turns.0 last_memory) _ schedule deliveries.2 in
    let same : record { turns = turns.0; quantum = quantum.0; max_turns = max_turns.0; deliveries = deliveries.0; crashes = crashes.0 } ≡ schedule = same_value _ schedule crashes.2 in
    subst ScheduleFits same (record {
      turns = list_least at d (codes "turns") 1 65536 (number 0 4294967295) (0 ∷ []) turns.0 (let one : 1 ≤ length {A = ℕ} (0 ∷ []) = omega arith in one) turns.1;
      quantum = number_most at d (codes "quantum") 1 100000 1000 quantum.0 (omega arith) quantum.1;
      max_turns = number_most at d (codes "max_turns") 1 10000000 1000000 max_turns.0 (omega arith) max_turns.1;
    })

-- ---- the whole

record PlanFits (plan : Plan) : Type 0 where
  strings : Strings plan.args plan.env
  bounded : Bounded plan

plan_fits : (d : Data) (plan : Plan) → plan_of d ≡ Ok plan → PlanFits plan
unfolding plan_of
plan_fits d plan e =
    let known = bound (object None plan_fields d) _ plan e in
    let machine = bound (machine_of None d) _ plan known.2 in
    let schedule = bound (schedule_of None d (length machine.0.frames - 1)) _ plan machine.2 in
    let program = bound (program_of None d) _ plan schedule.2 in
    let same : plan_from machine.0 schedule.0 program.0 ≡ plan = same_value _ plan program.2 in
    let runs : ProgramFits program.0 = program_fits None d program.0 program.1 in
    let turns : ScheduleFits schedule.0 = schedule_fits None d (length machine.0.frames - 1) schedule.0 schedule.1 in
    subst PlanFits same (record {
      strings = runs.strings;
      bounded = record { turns = turns.turns; quantum = turns.quantum; max_turns = turns.max_turns; files = runs.files.few; apart = runs.files.paths.apart; short = runs.files.paths.short };
    })

read_fits : (value : Option Data) (plan : Plan) → plan_read value ≡ Ok plan → PlanFits plan
read_fits None plan e = cc e
read_fits (Some d) plan e = plan_fits d plan e

chosen_fits : (text : Bool) (value : Option Data) (plan : Plan) → cond text (plan_read value) (refused Syntax (codes ".")) ≡ Ok plan → PlanFits plan
chosen_fits true value plan e = read_fits value plan e
chosen_fits false value plan e = cc e

described_both : (bytes : List ℕ) (plan : Plan) → described bytes ≡ Ok plan → PlanFits plan
unfolding described
described_both bytes plan e = chosen_fits (is_utf8 bytes) (read bytes) plan e

pub described_fits : (bytes : List ℕ) (plan : Plan) → described bytes ≡ Ok plan → Strings plan.args plan.env
described_fits bytes plan e = (described_both bytes plan e).strings

pub described_bounded : (bytes : List ℕ) (plan : Plan) → described bytes ≡ Ok plan → Bounded plan
described_bounded bytes plan e = (described_both bytes plan e).bounded
