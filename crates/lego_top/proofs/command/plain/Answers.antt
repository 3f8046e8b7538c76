-- The cause of each ending.
use Rattle.std.proofs.Common.{ℕ, ◌≤◌, List, length, Option, refl, sym, ◌∙◌, subst}
use Rattle.std.specs.Prelude.{All, map, string_bytes}
use Rattle.lego_base.specs.declared.report.FileOut.{FileOut}
use Rattle.host_io.specs.Depots.{Files}
use Rattle.desc_read.specs.Laws.{Bounded}
use Rattle.linux_model.specs.Limits.{NAME_BYTES}
use Rattle.plain_kernel.specs.Making.{CanMake}
use Rattle.lego_top.specs.CommandLine.{named}
use Rattle.lego_top.specs.Endings.{of_fetch, of_input, of_run}
use Rattle.lego_top.specs.Outside.{Outside, outside}
use Rattle.lego_top.proofs.Causes.{PlanRead, ProgramRead, FilesRead, failed_with, caused_as, quiet_depot, plan_read, plan_fits, plan_bounded, program_read, program_not_read, files_read, files_not_read, input_stopped, ran_to_end, ran_to_fault}
use Rattle.lego_top.proofs.Files.{can_make, names_short}
use Rattle.lego_top.proofs.command.plain.Goals as goal

pub returns-in_err-plan : goal.returns-in_err-plan
returns-in_err-plan g c =
    let asked : Option (List ℕ) = named (map string_bytes c.args.words.now) in
    let before : Outside = outside (g.S.Source.state c.args.input.now) (g.O.Sink.state c.args.out.now) (g.E.Sink.state c.args.err.now) (g.D.Depot.state c.args.depot.now) in
    let after : Outside = outside (g.S.Source.state c.args.input.now) (g.O.Sink.state c.args.out.now) (g.E.Sink.state c.args.err.now) (g.D.Depot.state c.described.new.depot) in
    record {
      caused = failed_with asked before after _ c.in_err-plan.field-0.0 c.from_residual.ensures.1 (caused_as asked c.in-Some.name.now before after c.in_err-plan.field-0.0 c.in-Some.ensures (c.in_err-plan.ensures.described before));
    }

pub returns-in_err-program : goal.returns-in_err-program
returns-in_err-program g c =
    let asked : Option (List ℕ) = named (map string_bytes c.args.words.now) in
    let before : Outside = outside (g.S.Source.state c.args.input.now) (g.O.Sink.state c.args.out.now) (g.E.Sink.state c.args.err.now) (g.D.Depot.state c.args.depot.now) in
    let after : Outside = outside (g.S.Source.state c.args.input.now) (g.O.Sink.state c.args.out.now) (g.E.Sink.state c.args.err.now) (g.D.Depot.state c.fetch.new.depot) in
    let plan : PlanRead asked before (g.D.Depot.state c.described.new.depot) c.in_ok-plan.plan = plan_read asked c.in-Some.name.now before (g.D.Depot.state c.described.new.depot) c.in_ok-plan.plan c.in-Some.ensures (c.in_ok-plan.ensures.described before) c.described.ensures.later c.described.ensures.same in
    record {
      caused = failed_with asked before after _ (of_fetch c.in_err-program.field-0.0) c.from_residual-in_err-program.ensures.1 (program_not_read asked before (g.D.Depot.state c.described.new.depot) c.in_ok-plan.plan plan c.as_str.result.now c.as_str.ensures after c.in_err-program.field-0.0 (quiet_depot before (g.D.Depot.state c.args.depot.now) (g.D.Depot.state c.fetch.new.depot) (c.fetch.ensures.same ∙ c.described.ensures.same)) refl c.in_err-program.ensures.fetched);
    }

pub returns-in_err-files : goal.returns-in_err-files
returns-in_err-files g c =
    let asked : Option (List ℕ) = named (map string_bytes c.args.words.now) in
    let before : Outside = outside (g.S.Source.state c.args.input.now) (g.O.Sink.state c.args.out.now) (g.E.Sink.state c.args.err.now) (g.D.Depot.state c.args.depot.now) in
    let after : Outside = outside (g.S.Source.state c.args.input.now) (g.O.Sink.state c.args.out.now) (g.E.Sink.state c.args.err.now) (g.D.Depot.state c.fetch_files.new.depot) in
    let plan : PlanRead asked before (g.D.Depot.state c.described.new.depot) c.in_ok-plan.plan = plan_read asked c.in-Some.name.now before (g.D.Depot.state c.described.new.depot) c.in_ok-plan.plan c.in-Some.ensures (c.in_ok-plan.ensures.described before) c.described.ensures.later c.described.ensures.same in
    let program : ProgramRead asked before (g.D.Depot.state c.fetch.new.depot) c.in_ok-plan.plan c.in_ok-program.program = program_read asked before (g.D.Depot.state c.described.new.depot) c.in_ok-plan.plan plan c.as_str.result.now c.as_str.ensures c.in_ok-program.program (g.D.Depot.state c.fetch.new.depot) c.in_ok-program.ensures.fetched c.fetch.ensures.later c.fetch.ensures.same in
    record {
      caused = failed_with asked before after _ (of_fetch c.in_err-files.field-0.0) c.from_residual-in_err-files.ensures.1 (files_not_read asked before (g.D.Depot.state c.fetch.new.depot) c.in_ok-plan.plan c.in_ok-program.program program c.as_slice.result.now c.as_slice.ensures after c.in_err-files.field-0.0 (quiet_depot before (g.D.Depot.state c.args.depot.now) (g.D.Depot.state c.fetch_files.new.depot) (c.fetch_files.ensures.same ∙ program.same)) refl c.in_err-files.ensures.fetched);
    }

pub returns-in_err-bytes : goal.returns-in_err-bytes
returns-in_err-bytes g c =
    let asked : Option (List ℕ) = named (map string_bytes c.args.words.now) in
    let before : Outside = outside (g.S.Source.state c.args.input.now) (g.O.Sink.state c.args.out.now) (g.E.Sink.state c.args.err.now) (g.D.Depot.state c.args.depot.now) in
    let after : Outside = outside (g.S.Source.state c.read_all.new.source) (g.O.Sink.state c.args.out.now) (g.E.Sink.state c.args.err.now) (g.D.Depot.state c.fetch_files.new.depot) in
    let plan : PlanRead asked before (g.D.Depot.state c.described.new.depot) c.in_ok-plan.plan = plan_read asked c.in-Some.name.now before (g.D.Depot.state c.described.new.depot) c.in_ok-plan.plan c.in-Some.ensures (c.in_ok-plan.ensures.described before) c.described.ensures.later c.described.ensures.same in
    let program : ProgramRead asked before (g.D.Depot.state c.fetch.new.depot) c.in_ok-plan.plan c.in_ok-program.program = program_read asked before (g.D.Depot.state c.described.new.depot) c.in_ok-plan.plan plan c.as_str.result.now c.as_str.ensures c.in_ok-program.program (g.D.Depot.state c.fetch.new.depot) c.in_ok-program.ensures.fetched c.fetch.ensures.later c.fetch.ensures.same in
    let files : FilesRead asked before (g.D.Depot.state c.fetch_files.new.depot) c.in_ok-plan.plan c.in_ok-program.program c.in_ok-files.files = files_read asked before (g.D.Depot.state c.fetch.new.depot) c.in_ok-plan.plan c.in_ok-program.program program c.as_slice.result.now c.as_slice.ensures c.in_ok-files.files (g.D.Depot.state c.fetch_files.new.depot) c.in_ok-files.ensures.fetched c.fetch_files.ensures.later c.fetch_files.ensures.same in
    record {
      caused = failed_with asked before after _ (of_input c.in_err-bytes.field-0.0) c.from_residual-in_err-bytes.ensures.1 (input_stopped asked before after files.filed c.in_err-bytes.field-0.0 (quiet_depot before (g.D.Depot.state c.args.depot.now) (g.D.Depot.state c.fetch_files.new.depot) files.same) c.in_err-bytes.ensures.stops);
    }

pub run_program-requires : goal.run_program-requires
run_program-requires g c =
    let asked : Option (List ℕ) = named (map string_bytes c.args.words.now) in
    let before : Outside = outside (g.S.Source.state c.args.input.now) (g.O.Sink.state c.args.out.now) (g.E.Sink.state c.args.err.now) (g.D.Depot.state c.args.depot.now) in
    let plan : PlanRead asked before (g.D.Depot.state c.described.new.depot) c.in_ok-plan.plan = plan_read asked c.in-Some.name.now before (g.D.Depot.state c.described.new.depot) c.in_ok-plan.plan c.in-Some.ensures (c.in_ok-plan.ensures.described before) c.described.ensures.later c.described.ensures.same in
    let told : Option Files = (g.D.Depot.state c.fetch.new.depot).files in
    let bounded : Bounded c.in_ok-plan.plan = plan_bounded asked before (g.D.Depot.state c.described.new.depot) c.in_ok-plan.plan plan in
    record {
      fits = plan_fits asked before (g.D.Depot.state c.described.new.depot) c.in_ok-plan.plan plan;
      bounded = bounded;
      files = subst CanMake (sym c.as_slice-3.ensures) (can_make told c.in_ok-plan.plan bounded c.as_slice.result.now c.as_slice.ensures c.in_ok-files.files c.in_ok-files.ensures.fetched);
      names = subst (λ (files : List FileOut). All (λ (file : FileOut). length file.name ≤ NAME_BYTES) files) (sym c.as_slice-3.ensures) (names_short told c.in_ok-plan.plan bounded c.as_slice.result.now c.as_slice.ensures c.in_ok-files.files c.in_ok-files.ensures.fetched);
    }

pub returns-in_err-word : goal.returns-in_err-word
returns-in_err-word g c =
    let asked : Option (List ℕ) = named (map string_bytes c.args.words.now) in
    let before : Outside = outside (g.S.Source.state c.args.input.now) (g.O.Sink.state c.args.out.now) (g.E.Sink.state c.args.err.now) (g.D.Depot.state c.args.depot.now) in
    let after : Outside = outside (g.S.Source.state c.read_all.new.source) (g.O.Sink.state c.run_program.new.out) (g.E.Sink.state c.run_program.new.err) (g.D.Depot.state c.run_program.new.depot) in
    let plan : PlanRead asked before (g.D.Depot.state c.described.new.depot) c.in_ok-plan.plan = plan_read asked c.in-Some.name.now before (g.D.Depot.state c.described.new.depot) c.in_ok-plan.plan c.in-Some.ensures (c.in_ok-plan.ensures.described before) c.described.ensures.later c.described.ensures.same in
    let program : ProgramRead asked before (g.D.Depot.state c.fetch.new.depot) c.in_ok-plan.plan c.in_ok-program.program = program_read asked before (g.D.Depot.state c.described.new.depot) c.in_ok-plan.plan plan c.as_str.result.now c.as_str.ensures c.in_ok-program.program (g.D.Depot.state c.fetch.new.depot) c.in_ok-program.ensures.fetched c.fetch.ensures.later c.fetch.ensures.same in
    let files : FilesRead asked before (g.D.Depot.state c.fetch_files.new.depot) c.in_ok-plan.plan c.in_ok-program.program c.in_ok-files.files = files_read asked before (g.D.Depot.state c.fetch.new.depot) c.in_ok-plan.plan c.in_ok-program.program program c.as_slice.result.now c.as_slice.ensures c.in_ok-files.files (g.D.Depot.state c.fetch_files.new.depot) c.in_ok-files.ensures.fetched c.fetch_files.ensures.later c.fetch_files.ensures.same in
    record {
      caused = failed_with asked before after _ (of_run c.in_err-word.field-0.0) c.from_residual-in_err-word.ensures.1 (ran_to_fault asked before (g.D.Depot.state c.fetch_files.new.depot) c.in_ok-plan.plan c.in_ok-program.program c.as_slice-2.result.now c.in_ok-files.files c.as_slice-3.result.now files c.as_slice-2.ensures c.as_slice-3.ensures after c.in_ok-bytes.bytes c.in_ok-bytes.ensures.whole c.in_err-word.field-0.0 (c.in_err-word.ensures.ran (g.S.Source.state c.args.input.now)));
    }

pub returns : goal.returns
returns g c =
    let asked : Option (List ℕ) = named (map string_bytes c.args.words.now) in
    let before : Outside = outside (g.S.Source.state c.args.input.now) (g.O.Sink.state c.args.out.now) (g.E.Sink.state c.args.err.now) (g.D.Depot.state c.args.depot.now) in
    let after : Outside = outside (g.S.Source.state c.read_all.new.source) (g.O.Sink.state c.run_program.new.out) (g.E.Sink.state c.run_program.new.err) (g.D.Depot.state c.run_program.new.depot) in
    let plan : PlanRead asked before (g.D.Depot.state c.described.new.depot) c.in_ok-plan.plan = plan_read asked c.in-Some.name.now before (g.D.Depot.state c.described.new.depot) c.in_ok-plan.plan c.in-Some.ensures (c.in_ok-plan.ensures.described before) c.described.ensures.later c.described.ensures.same in
    let program : ProgramRead asked before (g.D.Depot.state c.fetch.new.depot) c.in_ok-plan.plan c.in_ok-program.program = program_read asked before (g.D.Depot.state c.described.new.depot) c.in_ok-plan.plan plan c.as_str.result.now c.as_str.ensures c.in_ok-program.program (g.D.Depot.state c.fetch.new.depot) c.in_ok-program.ensures.fetched c.fetch.ensures.later c.fetch.ensures.same in
    let files : FilesRead asked before (g.D.Depot.state c.fetch_files.new.depot) c.in_ok-plan.plan c.in_ok-program.program c.in_ok-files.files = files_read asked before (g.D.Depot.state c.fetch.new.depot) c.in_ok-plan.plan c.in_ok-program.program program c.as_slice.result.now c.as_slice.ensures c.in_ok-files.files (g.D.Depot.state c.fetch_files.new.depot) c.in_ok-files.ensures.fetched c.fetch_files.ensures.later c.fetch_files.ensures.same in
    record {
      caused = ran_to_end asked before (g.D.Depot.state c.fetch_files.new.depot) c.in_ok-plan.plan c.in_ok-program.program c.as_slice-2.result.now c.in_ok-files.files c.as_slice-3.result.now files c.as_slice-2.ensures c.as_slice-3.ensures after c.in_ok-bytes.bytes c.in_ok-bytes.ensures.whole c.in_ok-word.word (c.in_ok-word.ensures.ran (g.S.Source.state c.args.input.now));
    }
