use Rattle.std.proofs.Common.{rules, ◌≡◌, sym, ◌∙◌, ap, false, ltb, [], Option, Some, None, is_some, IfOk}
use Rattle.lego_base.specs.declared.ids.FileNo.{FileNo}
use Rattle.kernel_objects.specs.Slots.{lowest_free}
use Rattle.linux_model.specs.Called.{Gives}
use Rattle.linux_model.specs.Descriptors.{descriptions_left}
use Rattle.linux_model.specs.FileCalls.{opened_at, opens_file, opens_name}
use Rattle.linux_model.specs.Paths.{Named}
use Rattle.linux_model.specs.Processes.{fds_of, process}
use Rattle.linux_model.specs.State.{unbooted, Process}
use Rattle.linux_model.proofs.fits.Files.{named_fits}
use Rattle.call_machine.specs.Laws.{effects_of}
use Rattle.call_machine.specs.Lent.{kernel_of, Ran}
use Rattle.call_machine.proofs.Rows.{each_process, of_process, stops_as}
use Rattle.manager.proofs.Making.{lowest_is}
use Rattle.sys_files.specs.Names.{refusal}
use Rattle.sys_files.proofs.Naming.{answers_as, named_row}
use Rattle.sys_files.proofs.names.open_named.Goals as goal

pub open_file-requires-clause-free : goal.open_file-requires-clause-free
open_file-requires-clause-free g c =
    let is : lowest_free (fds_of (process c.args.man.now.procs c.args.pid.0)) 0 ≡ Some c.in-Some-lowest_free.fd = search rules in
    (lowest_is (fds_of (process c.args.man.now.procs c.args.pid.0)) 0 c.in-Some-lowest_free.fd is).free

pub open_file-requires-clause-there : goal.open_file-requires-clause-there
open_file-requires-clause-there g c =
    let held = g.M.Machine.held c.args.machine.now in
    named_fits held.files held.names c.args.name.now c.in-Some-file.file (c.requires.fit (unbooted [])).names_fit (sym c.requires.named ∙ c.in-Some-file.is)

pub open_new-requires-clause-free : goal.open_new-requires-clause-free
open_new-requires-clause-free g c =
    let is : lowest_free (fds_of (process c.args.man.now.procs c.args.pid.0)) 0 ≡ Some c.in-Some-lowest_free.fd = search rules in
    (lowest_is (fds_of (process c.args.man.now.procs c.args.pid.0)) 0 c.in-Some-lowest_free.fd is).free

pub returns-in-Some-file-clause-answers : goal.returns-in-Some-file-clause-answers
returns-in-Some-file-clause-answers g c k = each_process c.args.man.now c.args.pid.0 _ (λ p own there.
    let man = c.args.man.now in
    let fd = c.in-Some-lowest_free.fd in
    let K = kernel_of man (g.M.Machine.held c.args.machine.now) k in
    let unrefused : refusal (is_some c.args.file) c.args.flags ≡ None = search rules in
    let is : lowest_free (fds_of (process man.procs c.args.pid.0)) 0 ≡ Some fd = search rules in
    let free : lowest_free p.fds 0 ≡ Some fd = ap (λ (o : Option Process). lowest_free (fds_of o) 0) (sym there) ∙ is in
    let room : ltb (descriptions_left K) 1 ≡ false = search rules in
    let row : opened_at p K c.args.flags (Named c.args.name.now c.args.file) ≡ opens_file p fd c.in-Some-file.file.0 c.args.flags = named_row p K c.args.flags fd c.args.name.now c.args.file unrefused free room ∙ ap (λ (o : Option FileNo). opens_name p K fd c.args.flags c.args.name.now o) c.in-Some-file.is in
    answers_as g.M.Machine.held g.M.Machine.does g.M.Machine.stops g.met.M.Machine.lawful c.args.machine.now c.open_file.new.machine man c.open_file.new.man _ _ c.open_file.result row (of_process man c.args.pid.0 (λ q. IfOk c.open_file.result (λ value. Ran g.M.Machine.does c.args.machine.now c.open_file.new.machine man c.open_file.new.man (opens_file q fd c.in-Some-file.file.0 c.args.flags) (λ es. Gives es value))) p there (c.open_file.ensures.answers k)))

pub returns-in-Some-file-clause-stops : goal.returns-in-Some-file-clause-stops
returns-in-Some-file-clause-stops g c k = each_process c.args.man.now c.args.pid.0 _ (λ p own there.
    let man = c.args.man.now in
    let fd = c.in-Some-lowest_free.fd in
    let K = kernel_of man (g.M.Machine.held c.args.machine.now) k in
    let unrefused : refusal (is_some c.args.file) c.args.flags ≡ None = search rules in
    let is : lowest_free (fds_of (process man.procs c.args.pid.0)) 0 ≡ Some fd = search rules in
    let free : lowest_free p.fds 0 ≡ Some fd = ap (λ (o : Option Process). lowest_free (fds_of o) 0) (sym there) ∙ is in
    let room : ltb (descriptions_left K) 1 ≡ false = search rules in
    let row : opened_at p K c.args.flags (Named c.args.name.now c.args.file) ≡ opens_file p fd c.in-Some-file.file.0 c.args.flags = named_row p K c.args.flags fd c.args.name.now c.args.file unrefused free room ∙ ap (λ (o : Option FileNo). opens_name p K fd c.args.flags c.args.name.now o) c.in-Some-file.is in
    stops_as g.M.Machine.held g.M.Machine.does g.M.Machine.stops g.met.M.Machine.lawful c.args.machine.now c.open_file.new.machine _ _ row (of_process man c.args.pid.0 (λ q. g.M.Machine.stops c.args.machine.now c.open_file.new.machine (effects_of (opens_file q fd c.in-Some-file.file.0 c.args.flags))) p there (c.open_file.ensures.stops k)))

pub returns-in-None-clause-answers : goal.returns-in-None-clause-answers
returns-in-None-clause-answers g c k = each_process c.args.man.now c.args.pid.0 _ (λ p own there.
    let man = c.args.man.now in
    let fd = c.in-Some-lowest_free.fd in
    let K = kernel_of man (g.M.Machine.held c.args.machine.now) k in
    let unrefused : refusal (is_some c.args.file) c.args.flags ≡ None = search rules in
    let is : lowest_free (fds_of (process man.procs c.args.pid.0)) 0 ≡ Some fd = search rules in
    let free : lowest_free p.fds 0 ≡ Some fd = ap (λ (o : Option Process). lowest_free (fds_of o) 0) (sym there) ∙ is in
    let room : ltb (descriptions_left K) 1 ≡ false = search rules in
    let row : opened_at p K c.args.flags (Named c.args.name.now c.args.file) ≡ opens_name p K fd c.args.flags c.args.name.now None = named_row p K c.args.flags fd c.args.name.now c.args.file unrefused free room ∙ ap (λ (o : Option FileNo). opens_name p K fd c.args.flags c.args.name.now o) c.in-None.is in
    answers_as g.M.Machine.held g.M.Machine.does g.M.Machine.stops g.met.M.Machine.lawful c.args.machine.now c.open_new.new.machine man c.open_new.new.man _ _ c.open_new.result row (of_process man c.args.pid.0 (λ q. IfOk c.open_new.result (λ value. Ran g.M.Machine.does c.args.machine.now c.open_new.new.machine man c.open_new.new.man (opens_name q K fd c.args.flags c.args.name.now None) (λ es. Gives es value))) p there (c.open_new.ensures.answers k)))

pub returns-in-None-clause-stops : goal.returns-in-None-clause-stops
returns-in-None-clause-stops g c k = each_process c.args.man.now c.args.pid.0 _ (λ p own there.
    let man = c.args.man.now in
    let fd = c.in-Some-lowest_free.fd in
    let K = kernel_of man (g.M.Machine.held c.args.machine.now) k in
    let unrefused : refusal (is_some c.args.file) c.args.flags ≡ None = search rules in
    let is : lowest_free (fds_of (process man.procs c.args.pid.0)) 0 ≡ Some fd = search rules in
    let free : lowest_free p.fds 0 ≡ Some fd = ap (λ (o : Option Process). lowest_free (fds_of o) 0) (sym there) ∙ is in
    let room : ltb (descriptions_left K) 1 ≡ false = search rules in
    let row : opened_at p K c.args.flags (Named c.args.name.now c.args.file) ≡ opens_name p K fd c.args.flags c.args.name.now None = named_row p K c.args.flags fd c.args.name.now c.args.file unrefused free room ∙ ap (λ (o : Option FileNo). opens_name p K fd c.args.flags c.args.name.now o) c.in-None.is in
    stops_as g.M.Machine.held g.M.Machine.does g.M.Machine.stops g.met.M.Machine.lawful c.args.machine.now c.open_new.new.machine _ _ row (of_process man c.args.pid.0 (λ q. g.M.Machine.stops c.args.machine.now c.open_new.new.machine (effects_of (opens_name q K fd c.args.flags c.args.name.now None))) p there (c.open_new.ensures.stops k)))
