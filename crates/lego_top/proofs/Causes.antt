-- The cause of each ending, from what the stages say.
use Rattle.std.proofs.Common.{◌≡◌, ℕ, ◌≤◌, inl, inr, List, Option, Some, None, Result, Ok, Err, IsErrAnd, false, refl, sym, ◌∙◌, ap, subst, arith}
use Rattle.lego_base.specs.declared.report.EndWord.{EndWord}
use Rattle.lego_base.specs.declared.report.EndWord.TheVariants as words
use Rattle.lego_base.specs.declared.report.FileOut.{FileOut}
use Rattle.lego_base.specs.declared.sizes.TheConstants.{LONGEST_FILE}
use Rattle.host_io.specs.Depots.{Files, DepotState, Has}
use Rattle.host_io.specs.Inputs.{Stops}
use Rattle.host_io.specs.Sources.{ReadWhole}
use Rattle.host_io.specs.declared.reading.InputStop.{InputStop}
use Rattle.host_io.specs.declared.reading.InputStop.TheVariants as input
use Rattle.host_io.proofs.CountLaws.{Rose-earlier}
use Rattle.desc_read.specs.declared.fault.DescFault.{DescFault}
use Rattle.desc_read.specs.declared.fault.DescFault.TheVariants as desc
use Rattle.desc_read.specs.declared.plan.FileFrom.{FileFrom}
use Rattle.desc_read.specs.declared.plan.Plan.{Plan}
use Rattle.desc_read.specs.Faults.{Fails}
use Rattle.desc_read.specs.Laws.{Bounded}
use Rattle.desc_read.specs.Plans as plans
use Rattle.desc_read.proofs.Limits.{described_bounded}
use Rattle.plain_kernel.specs.Outcomes.{told}
use Rattle.space_rules.specs.Start.{is_too_big}
use Rattle.lego_top.specs.declared.ending.Ending.{Ending}
use Rattle.lego_top.specs.declared.depot_file.FetchFault.{FetchFault}
use Rattle.lego_top.specs.declared.depot_file.FetchFault.TheVariants as fetch
use Rattle.lego_top.specs.declared.program_run.RunFault.{RunFault}
use Rattle.lego_top.specs.declared.program_run.RunFault.TheVariants as run
use Rattle.lego_top.specs.Outside.{Outside, Quiet, Unread, with_depot}
use Rattle.lego_top.specs.Inputs.{Found, Planned, Loaded, AreThere, ComesNext, Filed, Fed}
use Rattle.lego_top.specs.Causes.{Caused}
use Rattle.lego_top.specs.Endings.{ending_of, ending_from, of_fetch, of_description, of_input, of_run}
use Rattle.lego_top.specs.Stages.{Unfetched, Fetched, FetchedAll, Described, RanProgram}
use Rattle.lego_top.proofs.Limits.{stack_fits}

-- where only the depot was asked, all is quiet
pub quiet_depot : (world : Outside) (old new : DepotState) → new.files ≡ old.files → Quiet (with_depot world old) (with_depot world new)
quiet_depot world old new same = λ i. record { files = same i; streams = told world.out world.err }

-- what a step that failed with this ending leads to
pub failed_with : (asked : Option (List ℕ)) (before after : Outside) (result : Result EndWord Ending) (ending : Ending) → IsErrAnd result (λ e. e ≡ ending) → Caused asked before after ending → Caused asked before after (ending_from result)
failed_with asked before after (Ok word) ending is caused = absurd is
failed_with asked before after (Err e) ending is caused = subst (λ (e : Ending). Caused asked before after e) (sym is) caused

pub described_with : (name : List ℕ) (before after : Outside) (result : Result Plan Ending) (ending : Ending) → IsErrAnd result (λ e. e ≡ ending) → Caused (Some name) before after ending → Described name before after result
described_with name before after (Ok plan) ending is caused = absurd is
described_with name before after (Err e) ending is caused = subst (λ (e : Ending). Caused (Some name) before after e) (sym is) caused

-- a name that gives no file, which the command line names
pub unfetched_named : (asked : Option (List ℕ)) (before after : Outside) (name : List ℕ) (fault : FetchFault) → asked ≡ Some name → Quiet before after → Unread before after → Unfetched before.depot after.depot name fault → Caused asked before after (of_fetch fault)
unfetched_named asked before after name (fetch.Missing missing) is quiet same cause = (inl (is ∙ ap (λ (n : List ℕ). Some n) (sym cause.0)), subst (λ (n : List ℕ). Has before.depot.files n None) (sym cause.0) cause.1, quiet, same)
unfetched_named asked before after name (fetch.Long long) is quiet same cause = (cause.0, inl (is ∙ ap (λ (n : List ℕ). Some n) (sym cause.1)), subst (λ (n : List ℕ). Has before.depot.files n (Some cause.0)) (sym cause.1) cause.2, cause.3, quiet, same)
unfetched_named asked before after name fetch.Depot is quiet same cause = (cause, inl (name, is, quiet))
unfetched_named asked before after name fetch.NoMemory is quiet same cause = inl (name, is, quiet)

-- the program's name, which a plan names, where `mid` is the depot in between
pub unfetched_init : (asked : Option (List ℕ)) (before after : Outside) (mid : DepotState) (p : Planned asked before) (fault : FetchFault) → before.depot.faults ≤ mid.faults → mid.files ≡ before.depot.files → Quiet before after → Unread before after → Unfetched mid after.depot p.plan.init fault → Caused asked before after (of_fetch fault)
unfetched_init asked before after mid p (fetch.Missing missing) low files quiet same cause = (inr (inl (p, sym cause.0)), subst (λ (n : List ℕ). Has before.depot.files n None) (sym cause.0) (subst (λ (files : Option Files). Has files p.plan.init None) files cause.1), quiet, same)
unfetched_init asked before after mid p (fetch.Long long) low files quiet same cause = (cause.0, inr (inl (p, sym cause.1)), subst (λ (n : List ℕ). Has before.depot.files n (Some cause.0)) (sym cause.1) (subst (λ (files : Option Files). Has files p.plan.init (Some cause.0)) files cause.2), cause.3, quiet, same)
unfetched_init asked before after mid p fetch.Depot low files quiet same cause = (Rose-earlier before.depot.faults mid.faults after.depot.faults low cause, inl (p.found.name, p.found.is_asked, quiet))
unfetched_init asked before after mid p fetch.NoMemory low files quiet same cause = inl (p.found.name, p.found.is_asked, quiet)

-- one of a plan's files, which isn't there or is too long
pub unfetched_files : (asked : Option (List ℕ)) (before after : Outside) (mid : DepotState) (l : Loaded asked before) (fault : FetchFault) → before.depot.faults ≤ mid.faults → mid.files ≡ before.depot.files → Quiet before after → Unread before after → FetchedAll mid after.depot l.planned.plan.files (Err fault) → Caused asked before after (of_fetch fault)
unfetched_files asked before after mid l (fetch.Missing missing) low files quiet same cause =
    (inr (inr (l, subst (λ (files : Option Files). ComesNext files missing l.planned.plan.files) files cause.0)), subst (λ (files : Option Files). Has files missing None) files cause.1, quiet, same)
unfetched_files asked before after mid l (fetch.Long long) low files quiet same cause =
    (cause.0, inr (inr (l, subst (λ (files : Option Files). ComesNext files long l.planned.plan.files) files cause.1)), subst (λ (files : Option Files). Has files long (Some cause.0)) files cause.2, cause.3, quiet, same)
unfetched_files asked before after mid l fetch.Depot low files quiet same cause =
    (Rose-earlier before.depot.faults mid.faults after.depot.faults low cause, inl (l.planned.found.name, l.planned.found.is_asked, quiet))
unfetched_files asked before after mid l fetch.NoMemory low files quiet same cause = inl (l.planned.found.name, l.planned.found.is_asked, quiet)

-- a description that isn't one
pub misdescribed : (asked : Option (List ℕ)) (before after : Outside) (found : Found asked before) (fault : DescFault) → Quiet before after → Unread before after → Fails fault (plans.described found.bytes) → Caused asked before after (of_description fault)
misdescribed asked before after found (desc.Bad flaw place) quiet same fails = (found, fails, quiet, same)
misdescribed asked before after found desc.NoMemory quiet same fails = inl (found.name, found.is_asked, quiet)

-- standard input that wasn't read to its end
pub input_stopped : (asked : Option (List ℕ)) (before after : Outside) (filed : Filed asked before) (stop : InputStop) → Quiet before after → Stops LONGEST_FILE before.input after.input stop → Caused asked before after (of_input stop)
input_stopped asked before after filed input.Failed quiet stops = (filed, stops, quiet)
input_stopped asked before after filed input.Long quiet stops = (filed, stops, quiet)
input_stopped asked before after filed input.NoMemory quiet stops = inl (filed.loaded.planned.found.name, filed.loaded.planned.found.is_asked, quiet)

-- The run of the program, on a depot that had failed `count` times.
module _ (asked : Option (List ℕ)) (before after : Outside) (count : ℕ) (low : before.depot.faults ≤ count) (fed : Fed asked before after) where
  abbrev begun : Outside
  begun = with_depot before (record { files = before.depot.files; faults = count })

  pub run_ended : (word : EndWord) → RanProgram fed.filed.loaded.planned.plan fed.filed.loaded.image fed.filed.files fed.input begun (record after { input = before.input }) (Ok word) → Caused asked before after (ending_of word)
  run_ended words.Done ran = record { fed = fed; good = ran.0; did = ran.1 }
  run_ended words.Stuck ran = record { fed = fed; good = ran.0; did = ran.1 }
  run_ended words.Spent ran = record { fed = fed; good = ran.0; did = ran.1 }

  pub run_failed : (fault : RunFault) → RanProgram fed.filed.loaded.planned.plan fed.filed.loaded.image fed.filed.files fed.input begun (record after { input = before.input }) (Err fault) → Caused asked before after (of_run fault)
  run_failed (run.Image fault) ran = (fed, ran.0, ran.1)
  run_failed run.Out ran = (ran.0, record { fed = fed; good = ran.1.0; did = ran.1.1 })
  run_failed run.Err ran = (ran.0, record { fed = fed; good = ran.1.0; did = ran.1.1 })
  run_failed run.Depot ran = (Rose-earlier before.depot.faults count after.depot.faults low ran.0, inr (record { fed = fed; good = ran.1.0; did = ran.1.1 }))
  run_failed run.NoMemory (inl quiet) = inl (fed.filed.loaded.planned.found.name, fed.filed.loaded.planned.found.is_asked, quiet)
  run_failed run.NoMemory (inr ran) = inr (record { fed = fed; good = ran.0; did = ran.1 })

pub caused_as : (asked : Option (List ℕ)) (name : List ℕ) (before after : Outside) (ending : Ending) → asked ≡ Some name → Described name before after (Err ending) → Caused asked before after ending
caused_as asked name before after ending is caused = subst (λ (asked : Option (List ℕ)). Caused asked before after ending) (sym is) caused

-- ---- how far a command came: what was read, and the depot since

pub record PlanRead (asked : Option (List ℕ)) (before : Outside) (depot : DepotState) (plan : Plan) : Type 0 where
  pub planned : Planned asked before
  pub is : planned.plan ≡ plan
  pub later : before.depot.faults ≤ depot.faults
  pub same : depot.files ≡ before.depot.files

pub record ProgramRead (asked : Option (List ℕ)) (before : Outside) (depot : DepotState) (plan : Plan) (program : List ℕ) : Type 0 where
  pub loaded : Loaded asked before
  pub is : loaded.planned.plan ≡ plan
  pub image : loaded.image ≡ program
  pub later : before.depot.faults ≤ depot.faults
  pub same : depot.files ≡ before.depot.files

pub record FilesRead (asked : Option (List ℕ)) (before : Outside) (depot : DepotState) (plan : Plan) (program : List ℕ) (files : List FileOut) : Type 0 where
  pub filed : Filed asked before
  pub is : filed.loaded.planned.plan ≡ plan
  pub image : filed.loaded.image ≡ program
  pub files_are : filed.files ≡ files
  pub later : before.depot.faults ≤ depot.faults
  pub same : depot.files ≡ before.depot.files

pub plan_read : (asked : Option (List ℕ)) (name : List ℕ) (before : Outside) (depot : DepotState) (plan : Plan) → asked ≡ Some name → Described name before (with_depot before depot) (Ok plan) → before.depot.faults ≤ depot.faults → depot.files ≡ before.depot.files → PlanRead asked before depot plan
plan_read asked name before depot plan is described later same =
    let planned : (p : Planned asked before) × (p.plan ≡ plan) = subst (λ (asked : Option (List ℕ)). (p : Planned asked before) × (p.plan ≡ plan)) (sym is) described in
    record { planned = planned.0; is = planned.1; later = later; same = same }

module _ (asked : Option (List ℕ)) (before : Outside) (mid : DepotState) (plan : Plan) (read : PlanRead asked before mid plan) where
  pub plan_fits : is_too_big plan.args plan.env ≡ false
  plan_fits = subst (λ (plan : Plan). is_too_big plan.args plan.env ≡ false) read.is (stack_fits read.planned.found.bytes read.planned.plan read.planned.reads)

  pub plan_bounded : Bounded plan
  plan_bounded = subst Bounded read.is (described_bounded read.planned.found.bytes read.planned.plan read.planned.reads)

  module _ (init : List ℕ) (names : init ≡ plan.init) where
    init_is : init ≡ read.planned.plan.init
    init_is = names ∙ ap (λ (plan : Plan). plan.init) (sym read.is)

    pub program_not_read : (after : Outside) (fault : FetchFault) → Quiet before after → Unread before after → Unfetched mid after.depot init fault → Caused asked before after (of_fetch fault)
    program_not_read after fault quiet kept cause =
        unfetched_init asked before after mid read.planned fault read.later read.same quiet kept (subst (λ (name : List ℕ). Unfetched mid after.depot name fault) init_is cause)

    pub program_read : (program : List ℕ) (depot : DepotState) → Fetched mid depot init (Ok program) → mid.faults ≤ depot.faults → depot.files ≡ mid.files → ProgramRead asked before depot plan program
    program_read program depot fetched later same = record {
      loaded = record {
        planned = read.planned;
        image = program;
        there = subst (λ (files : Option Files). Has files read.planned.plan.init (Some program)) read.same (subst (λ (name : List ℕ). Has mid.files name (Some program)) init_is fetched.0);
        fits = fetched.1;
      };
      is = read.is;
      image = refl;
      later = omega (arith, read.later, later);
      same = same ∙ read.same;
    }

module _ (asked : Option (List ℕ)) (before : Outside) (mid : DepotState) (plan : Plan) (program : List ℕ) (read : ProgramRead asked before mid plan program) where
  module _ (sources : List FileFrom) (of_plan : sources ≡ plan.files) where
    sources_are : sources ≡ read.loaded.planned.plan.files
    sources_are = of_plan ∙ ap (λ (plan : Plan). plan.files) (sym read.is)

    pub files_not_read : (after : Outside) (fault : FetchFault) → Quiet before after → Unread before after → FetchedAll mid after.depot sources (Err fault) → Caused asked before after (of_fetch fault)
    files_not_read after fault quiet kept cause =
        unfetched_files asked before after mid read.loaded fault read.later read.same quiet kept
        (subst (λ (sources : List FileFrom). FetchedAll mid after.depot sources (Err fault)) sources_are cause)

    pub files_read : (files : List FileOut) (depot : DepotState) → FetchedAll mid depot sources (Ok files) → mid.faults ≤ depot.faults → depot.files ≡ mid.files → FilesRead asked before depot plan program files
    files_read files depot fetched later same = record {
      filed = record {
        loaded = read.loaded;
        files = files;
        are_there = subst (λ (told : Option Files). AreThere told read.loaded.planned.plan.files files) read.same (subst (λ (sources : List FileFrom). AreThere mid.files sources files) sources_are fetched);
      };
      is = read.is;
      image = read.image;
      files_are = refl;
      later = omega (arith, read.later, later);
      same = same ∙ read.same;
    }

-- where the run was given the same program and the same files
module _ (asked : Option (List ℕ)) (before : Outside) (depot : DepotState) (plan : Plan) (program given : List ℕ) (files given_files : List FileOut) (read : FilesRead asked before depot plan program files) (same_program : given ≡ program) (same_files : given_files ≡ files) where
  module _ (after : Outside) (input : List ℕ) (whole : ReadWhole LONGEST_FILE before.input.left after.input.left input) where
    abbrev fed : Fed asked before after
    fed = record { filed = read.filed; input = input; whole = whole }

    abbrev start : Outside
    start = with_depot before (record { files = before.depot.files; faults = depot.faults })

    -- the run of this plan with these files, on this depot, is that of the plan and the files that were read
    moved : (result : Result EndWord RunFault) → RanProgram plan given given_files input (with_depot before depot) (record after { input = before.input }) result → RanProgram read.filed.loaded.planned.plan read.filed.loaded.image read.filed.files input start (record after { input = before.input }) result
    moved result ran =
        subst (λ (plan : Plan). RanProgram plan read.filed.loaded.image read.filed.files input start (record after { input = before.input }) result) (sym read.is)
        (subst (λ (image : List ℕ). RanProgram plan image read.filed.files input start (record after { input = before.input }) result) (same_program ∙ sym read.image)
        (subst (λ (files : List FileOut). RanProgram plan given files input start (record after { input = before.input }) result) (same_files ∙ sym read.files_are)
        (subst (λ (told : Option Files). RanProgram plan given given_files input (with_depot before (record { files = told; faults = depot.faults })) (record after { input = before.input }) result) read.same ran)))

    pub ran_to_end : (word : EndWord) → RanProgram plan given given_files input (with_depot before depot) (record after { input = before.input }) (Ok word) → Caused asked before after (ending_of word)
    ran_to_end word ran = run_ended asked before after depot.faults read.later fed word (moved (Ok word) ran)

    pub ran_to_fault : (fault : RunFault) → RanProgram plan given given_files input (with_depot before depot) (record after { input = before.input }) (Err fault) → Caused asked before after (of_run fault)
    ran_to_fault fault ran = run_failed asked before after depot.faults read.later fed fault (moved (Err fault) ran)
