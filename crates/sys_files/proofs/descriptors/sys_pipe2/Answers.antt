use Rattle.std.proofs.Common.{rules, ◌≡◌, ◌==◌, ap, sym, ◌∙◌, refl, [], ◌∷◌, ◌++◌, Some, Ok, true, false}
use Rattle.lego_base.specs.Space.{permits, bytes_of}
use Rattle.linux_model.specs.Descriptors.{pipe2_row}
use Rattle.linux_model.specs.Called.{Gives}
use Rattle.linux_model.specs.Effects.{AsksSpan, CopyOut, Writes}
use Rattle.linux_model.specs.Limits.{EFAULT, EMFILE, ENFILE, O_CLOEXEC}
use Rattle.linux_model.specs.Processes.{process}
use Rattle.call_machine.specs.Lent.{kernel_of}
use Rattle.call_machine.proofs.Rows.{ran_stops, apart_all, each_process, stops_as, stops_end, stops_in}
use Rattle.manager.specs.Words.{fds_for_two, limit_of, pipe_effects}
use Rattle.manager.specs.declared.fault.FdFault.TheVariants.{Emfile, Enfile}
use Rattle.sys_files.proofs.Pipes.{checked, limited, pipe_row}
use Rattle.sys_files.proofs.descriptors.sys_pipe2.Goals as goal

pub returns-in_err-check_span-clause-stops : goal.returns-in_err-check_span-clause-stops
returns-in_err-check_span-clause-stops g c k = each_process c.args.man.now c.args.pid.0 _ (λ p own there.
    let man = c.args.man.now in
    let pid = c.args.pid.0 in
    let address = c.args.address in
    let held = g.M.Machine.held c.args.machine.now in
    let asks = AsksSpan pid address 8 ∷ [] in
    let cloexec = c.args.flags == O_CLOEXEC in
    let row = pipe_row man held k pid p address c.args.flags there own (search rules) in
    stops_in g.M.Machine.held g.M.Machine.does g.M.Machine.stops g.met.M.Machine.lawful _ _ asks _ _ row c.check_span.ensures.stops)

pub returns-then-not-branch-clause-answers : goal.returns-then-not-branch-clause-answers
returns-then-not-branch-clause-answers g c k = each_process c.args.man.now c.args.pid.0 _ (λ p own there.
    let man = c.args.man.now in
    let pid = c.args.pid.0 in
    let address = c.args.address in
    let held = g.M.Machine.held c.args.machine.now in
    let asks = AsksSpan pid address 8 ∷ [] in
    let cloexec = c.args.flags == O_CLOEXEC in
    let row = pipe_row man held k pid p address c.args.flags there own (search rules) in
    let denied : permits (held.space pid) 2 address 8 ≡ false = search rules in
    let is : pipe2_row p (kernel_of man held k) address c.args.flags ≡ Gives asks EFAULT = row ∙ ap (λ b. checked pid man address cloexec b (fds_for_two pid man)) denied in
    record { effects = asks; row_is = is; did = c.in_ok-check_span.ensures.does; managed = refl })

pub returns-then-not-branch-clause-stops : goal.returns-then-not-branch-clause-stops
returns-then-not-branch-clause-stops g c k = ran_stops g.M.Machine.held g.M.Machine.does g.M.Machine.stops g.met.M.Machine.lawful _ _ _ _ (process c.args.man.now.procs c.args.pid.0) _ _ (λ es. refl) (returns-then-not-branch-clause-answers g c k)

pub returns-in-Err-Emfile-clause-answers : goal.returns-in-Err-Emfile-clause-answers
returns-in-Err-Emfile-clause-answers g c k = each_process c.args.man.now c.args.pid.0 _ (λ p own there.
    let man = c.args.man.now in
    let pid = c.args.pid.0 in
    let address = c.args.address in
    let held = g.M.Machine.held c.args.machine.now in
    let asks = AsksSpan pid address 8 ∷ [] in
    let cloexec = c.args.flags == O_CLOEXEC in
    let row = pipe_row man held k pid p address c.args.flags there own (search rules) in
    let good : permits (held.space pid) 2 address 8 ≡ true = search rules in
    let asked = row ∙ ap (λ b. checked pid man address cloexec b (fds_for_two pid man)) good in
    let limit : limit_of (fds_for_two pid man) ≡ Some Emfile = search rules in
    let is : pipe2_row p (kernel_of man held k) address c.args.flags ≡ Gives asks EMFILE = asked ∙ limited pid man address cloexec (fds_for_two pid man) Emfile limit in
    record { effects = asks; row_is = is; did = c.in_ok-check_span.ensures.does; managed = search rules })

pub returns-in-Err-Emfile-clause-stops : goal.returns-in-Err-Emfile-clause-stops
returns-in-Err-Emfile-clause-stops g c k = ran_stops g.M.Machine.held g.M.Machine.does g.M.Machine.stops g.met.M.Machine.lawful _ _ _ _ (process c.args.man.now.procs c.args.pid.0) _ _ (λ es. refl) (returns-in-Err-Emfile-clause-answers g c k)

pub returns-in-Err-Enfile-clause-answers : goal.returns-in-Err-Enfile-clause-answers
returns-in-Err-Enfile-clause-answers g c k = each_process c.args.man.now c.args.pid.0 _ (λ p own there.
    let man = c.args.man.now in
    let pid = c.args.pid.0 in
    let address = c.args.address in
    let held = g.M.Machine.held c.args.machine.now in
    let asks = AsksSpan pid address 8 ∷ [] in
    let cloexec = c.args.flags == O_CLOEXEC in
    let row = pipe_row man held k pid p address c.args.flags there own (search rules) in
    let good : permits (held.space pid) 2 address 8 ≡ true = search rules in
    let asked = row ∙ ap (λ b. checked pid man address cloexec b (fds_for_two pid man)) good in
    let limit : limit_of (fds_for_two pid man) ≡ Some Enfile = search rules in
    let is : pipe2_row p (kernel_of man held k) address c.args.flags ≡ Gives asks ENFILE = asked ∙ limited pid man address cloexec (fds_for_two pid man) Enfile limit in
    record { effects = asks; row_is = is; did = c.in_ok-check_span.ensures.does; managed = search rules })

pub returns-in-Err-Enfile-clause-stops : goal.returns-in-Err-Enfile-clause-stops
returns-in-Err-Enfile-clause-stops g c k = ran_stops g.M.Machine.held g.M.Machine.does g.M.Machine.stops g.met.M.Machine.lawful _ _ _ _ (process c.args.man.now.procs c.args.pid.0) _ _ (λ es. refl) (returns-in-Err-Enfile-clause-answers g c k)

pub returns-in-Err-NoMemory-clause-stops : goal.returns-in-Err-NoMemory-clause-stops
returns-in-Err-NoMemory-clause-stops g c k = each_process c.args.man.now c.args.pid.0 _ (λ p own there.
    let man = c.args.man.now in
    let pid = c.args.pid.0 in
    let address = c.args.address in
    let held = g.M.Machine.held c.args.machine.now in
    let asks = AsksSpan pid address 8 ∷ [] in
    let cloexec = c.args.flags == O_CLOEXEC in
    let row = pipe_row man held k pid p address c.args.flags there own (search rules) in
    stops_in g.M.Machine.held g.M.Machine.does g.M.Machine.stops g.met.M.Machine.lawful _ _ asks _ _ row (stops_end g.M.Machine.held g.M.Machine.does g.M.Machine.stops g.met.M.Machine.lawful _ _ asks [] c.in_ok-check_span.ensures.does))

pub returns-in_err-copy_out-clause-stops : goal.returns-in_err-copy_out-clause-stops
returns-in_err-copy_out-clause-stops g c k = each_process c.args.man.now c.args.pid.0 _ (λ p own there.
    let man = c.args.man.now in
    let pid = c.args.pid.0 in
    let address = c.args.address in
    let held = g.M.Machine.held c.args.machine.now in
    let asks = AsksSpan pid address 8 ∷ [] in
    let cloexec = c.args.flags == O_CLOEXEC in
    let row = pipe_row man held k pid p address c.args.flags there own (search rules) in
    let good : permits (held.space pid) 2 address 8 ≡ true = search rules in
    let asked = row ∙ ap (λ b. checked pid man address cloexec b (fds_for_two pid man)) good in
    let fds = c.in-Ok.fds in
    let free : fds_for_two pid man ≡ Ok fds = search rules in
    let pipe = pipe_effects pid (fds.0, fds.1) cloexec man in
    let bytes = c.two_words.result in
    let bytes_are : bytes_of 4 fds.0 ++ bytes_of 4 fds.1 ≡ bytes = search rules in
    let writes = Writes CopyOut pid address bytes ∷ [] in
    let is : pipe2_row p (kernel_of man held k) address c.args.flags ≡ Gives (asks ++ (pipe ++ writes)) 0 =
    asked ∙ ap (λ r. checked pid man address cloexec true r) free ∙ ap (λ b. Gives (asks ++ (pipe ++ Writes CopyOut pid address b ∷ [])) 0) bytes_are in
    let made = g.met.M.Machine.lawful.both _ _ _ asks pipe c.in_ok-check_span.ensures.does (apart_all g.M.Machine.held g.M.Machine.does g.M.Machine.stops g.met.M.Machine.lawful _ pipe (refl, (refl, (refl, tt)))) in
    stops_as g.M.Machine.held g.M.Machine.does g.M.Machine.stops g.met.M.Machine.lawful _ _ _ _ is (g.met.M.Machine.lawful.stops_then _ _ _ (asks ++ pipe) writes made c.copy_out.ensures.stops))

pub returns-clause-answers : goal.returns-clause-answers
returns-clause-answers g c k = each_process c.args.man.now c.args.pid.0 _ (λ p own there.
    let man = c.args.man.now in
    let pid = c.args.pid.0 in
    let address = c.args.address in
    let held = g.M.Machine.held c.args.machine.now in
    let asks = AsksSpan pid address 8 ∷ [] in
    let cloexec = c.args.flags == O_CLOEXEC in
    let row = pipe_row man held k pid p address c.args.flags there own (search rules) in
    let good : permits (held.space pid) 2 address 8 ≡ true = search rules in
    let asked = row ∙ ap (λ b. checked pid man address cloexec b (fds_for_two pid man)) good in
    let fds = c.in-Ok.fds in
    let free : fds_for_two pid man ≡ Ok fds = search rules in
    let pipe = pipe_effects pid (fds.0, fds.1) cloexec man in
    let bytes = c.two_words.result in
    let bytes_are : bytes_of 4 fds.0 ++ bytes_of 4 fds.1 ≡ bytes = search rules in
    let writes = Writes CopyOut pid address bytes ∷ [] in
    let is : pipe2_row p (kernel_of man held k) address c.args.flags ≡ Gives (asks ++ (pipe ++ writes)) 0 =
    asked ∙ ap (λ r. checked pid man address cloexec true r) free ∙ ap (λ b. Gives (asks ++ (pipe ++ Writes CopyOut pid address b ∷ [])) 0) bytes_are in
    let made = g.met.M.Machine.lawful.both _ _ _ asks pipe c.in_ok-check_span.ensures.does (apart_all g.M.Machine.held g.M.Machine.does g.M.Machine.stops g.met.M.Machine.lawful _ pipe (refl, (refl, (refl, tt)))) in
    record {
      effects = asks ++ (pipe ++ writes);
      row_is = is;
      did = g.met.M.Machine.lawful.both _ _ _ (asks ++ pipe) writes made c.in_ok-copy_out.ensures.does;
      managed = sym c.in-Ok.ensures.ok;
    })

pub returns-clause-stops : goal.returns-clause-stops
returns-clause-stops g c k = ran_stops g.M.Machine.held g.M.Machine.does g.M.Machine.stops g.met.M.Machine.lawful _ _ _ _ (process c.args.man.now.procs c.args.pid.0) _ _ (λ es. refl) (returns-clause-answers g c k)
