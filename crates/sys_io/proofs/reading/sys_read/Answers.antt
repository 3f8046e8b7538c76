use Rattle.std.proofs.Common.{◌≡◌, refl, ap, sym, ◌∙◌, [], Option, Some, None}
use Rattle.linux_model.specs.Called.{given}
use Rattle.linux_model.specs.Buffers.{one_piece, counted}
use Rattle.linux_model.specs.Descriptors.{Open, is_readable}
use Rattle.linux_model.specs.FileCalls.{read_row, reads_pieces}
use Rattle.linux_model.specs.Limits.{EBADF}
use Rattle.linux_model.specs.State.{Process}
use Rattle.linux_model.specs.Processes.{process}
use Rattle.call_machine.specs.Lent.{kernel_of}
use Rattle.call_machine.proofs.Rows.{ran_stops, each_process, ends_handed, stops_at_once, stops_handed}
use Rattle.manager.specs.Words.{open_of}
use Rattle.sys_io.proofs.Moving.{found_by}
use Rattle.sys_io.proofs.reading.sys_read.Goals as goal

pub returns-clause-ends : goal.returns-clause-ends
returns-clause-ends g c k =
    let man = c.args.man.now in
    let held = g.M.Machine.held c.args.machine.now in
    let n = c.min.result in
    let pieces = one_piece c.args.address n in
    let size : counted c.args.len ≡ n = sym c.min.ensures in
    let same = λ (p : Process) (own : p.pid ≡ c.args.pid.0) (there : process man.procs c.args.pid.0 ≡ Some p).
    ap (λ (o : Option Open). given o EBADF (λ o. reads_pieces p (kernel_of man held k) o (one_piece c.args.address (counted c.args.len)) (counted c.args.len)))
    (found_by man held k c.args.pid.0 p is_readable c.args.fd (Some c.in-Some.found) there c.in-Some.ensures.is)
    ∙ (λ i. reads_pieces p (kernel_of man held k) (open_of c.in-Some.found) (one_piece c.args.address (size i)) (size i)) in
    ends_handed g.M.Machine.held g.M.Machine.does g.M.Machine.stops g.met.M.Machine.lawful c.args.machine.now c.read_to.new.machine man _ c.args.pid.0 (λ p k. read_row p k c.args.fd c.args.address c.args.len) (λ p k. reads_pieces p k (open_of c.in-Some.found) pieces n) c.read_to.result k same (c.read_to.ensures.ends k)

pub returns-clause-stops : goal.returns-clause-stops
returns-clause-stops g c k =
    let man = c.args.man.now in
    let held = g.M.Machine.held c.args.machine.now in
    let n = c.min.result in
    let pieces = one_piece c.args.address n in
    let size : counted c.args.len ≡ n = sym c.min.ensures in
    let same = λ (p : Process) (own : p.pid ≡ c.args.pid.0) (there : process man.procs c.args.pid.0 ≡ Some p).
    ap (λ (o : Option Open). given o EBADF (λ o. reads_pieces p (kernel_of man held k) o (one_piece c.args.address (counted c.args.len)) (counted c.args.len)))
    (found_by man held k c.args.pid.0 p is_readable c.args.fd (Some c.in-Some.found) there c.in-Some.ensures.is)
    ∙ (λ i. reads_pieces p (kernel_of man held k) (open_of c.in-Some.found) (one_piece c.args.address (size i)) (size i)) in
    stops_handed g.M.Machine.held g.M.Machine.does g.M.Machine.stops g.met.M.Machine.lawful c.args.machine.now c.read_to.new.machine man c.args.pid.0 (λ p k. read_row p k c.args.fd c.args.address c.args.len) (λ p k. reads_pieces p k (open_of c.in-Some.found) pieces n) k same (c.read_to.ensures.stops k)

pub returns-in_default-clause-ends : goal.returns-in_default-clause-ends
returns-in_default-clause-ends g c k = each_process c.args.man.now c.args.pid.0 _ (λ p own there.
    let man = c.args.man.now in
    let held = g.M.Machine.held c.args.machine.now in
    let row = ap (λ (o : Option Open). given o EBADF (λ o. reads_pieces p (kernel_of man held k) o (one_piece c.args.address (counted c.args.len)) (counted c.args.len)))
    (found_by man held k c.args.pid.0 p is_readable c.args.fd None there c.in_default.ensures.is) in
    record { effects = []; row_is = row; did = g.met.M.Machine.lawful.none _; managed = refl })

pub returns-in_default-clause-stops : goal.returns-in_default-clause-stops
returns-in_default-clause-stops g c k = ran_stops g.M.Machine.held g.M.Machine.does g.M.Machine.stops g.met.M.Machine.lawful _ _ _ _ (process c.args.man.now.procs c.args.pid.0) _ _ (λ es. refl) (returns-in_default-clause-ends g c k)
