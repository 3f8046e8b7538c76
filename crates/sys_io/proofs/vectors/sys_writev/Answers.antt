use Rattle.std.proofs.Common.{◌≡◌, refl, ap, sym, subst, ◌∙◌, List, [], Option, Some, None, IfOk}
use Rattle.kernel_objects.specs.declared.piece.Piece.{Piece}
use Rattle.linux_model.specs.Called.{Gives, following, given}
use Rattle.linux_model.specs.Descriptors.{Open, is_writable}
use Rattle.linux_model.specs.FileCalls.{writev_row, writes_pieces, with_vector}
use Rattle.linux_model.specs.Held.{Held}
use Rattle.linux_model.specs.Limits.{EBADF}
use Rattle.linux_model.specs.Processes.{process}
use Rattle.linux_model.specs.State.{Process}
use Rattle.call_machine.specs.Laws.{effects_of}
use Rattle.call_machine.specs.Lent.{FitTogether, Ran, ended, kernel_of}
use Rattle.call_machine.proofs.Rows.{ran_stops, each_process, of_process, ran_asked, ran_following, stops_at_once, stops_following, stops_in}
use Rattle.call_machine.proofs.Stops.{stops_follow}
use Rattle.manager.specs.Words.{open_of}
use Rattle.sys_io.specs.Vectors.{IsVector, Whole, vector_looks}
use Rattle.sys_io.proofs.Entries.{looks_still, vector_bad, vector_good, vector_some}
use Rattle.sys_io.proofs.Moving.{found_by}
use Rattle.sys_io.proofs.vectors.sys_writev.Goals as goal

pub returns-in_default-clause-ends : goal.returns-in_default-clause-ends
returns-in_default-clause-ends g c k = each_process c.args.man.now c.args.pid.0 _ (λ p own there.
    let laws = g.met.M.Machine.lawful in
    let man = c.args.man.now in
    let held = g.M.Machine.held c.args.machine.now in
    let pid = c.args.pid.0 in
    let K = kernel_of man held k in
    let at = c.args.address in
    let count = c.args.count in
    let looks = vector_looks pid (held.space pid) at count in
    let row = ap (λ (o : Option Open). given o EBADF (λ o. with_vector p K at count (writes_pieces p K o)))
    (found_by man held k pid p is_writable c.args.fd None there c.in_default.ensures.is) in
    record { effects = []; row_is = row; did = laws.none _; managed = refl })

pub returns-in_err-vector-clause-stops : goal.returns-in_err-vector-clause-stops
returns-in_err-vector-clause-stops g c k = each_process c.args.man.now c.args.pid.0 _ (λ p own there.
    let laws = g.met.M.Machine.lawful in
    let man = c.args.man.now in
    let held = g.M.Machine.held c.args.machine.now in
    let pid = c.args.pid.0 in
    let K = kernel_of man held k in
    let at = c.args.address in
    let count = c.args.count in
    let looks = vector_looks pid (held.space pid) at count in
    let found = λ (p : Process) (there : process man.procs pid ≡ Some p).
    ap (λ (o : Option Open). given o EBADF (λ o. with_vector p K at count (writes_pieces p K o))) (found_by man held k pid p is_writable c.args.fd (Some c.in-Some.found) there c.in-Some.ensures.is) in
    let rest = vector_some p K pid at count (writes_pieces p K (open_of c.in-Some.found)) own in
    subst (g.M.Machine.stops c.args.machine.now c.read_vector.new.machine) (sym (ap effects_of (found p there) ∙ rest.1)) (laws.stops_front _ _ looks rest.0 c.read_vector.ensures.stops))

pub returns-in-Ok-clause-ends : goal.returns-in-Ok-clause-ends
returns-in-Ok-clause-ends g c k = each_process c.args.man.now c.args.pid.0 _ (λ p own there.
    let laws = g.met.M.Machine.lawful in
    let man = c.args.man.now in
    let held = g.M.Machine.held c.args.machine.now in
    let pid = c.args.pid.0 in
    let K = kernel_of man held k in
    let at = c.args.address in
    let count = c.args.count in
    let looks = vector_looks pid (held.space pid) at count in
    let found = λ (p : Process) (there : process man.procs pid ≡ Some p).
    ap (λ (o : Option Open). given o EBADF (λ o. with_vector p K at count (writes_pieces p K o))) (found_by man held k pid p is_writable c.args.fd (Some c.in-Some.found) there c.in-Some.ensures.is) in
    let whole : Whole (held.space pid) at count c.in-Ok.vector = subst (IsVector (held.space pid) at count) c.in-Ok.is c.in_ok-vector.ensures.is in
    let row = found p there ∙ vector_good p K pid at count c.in-Ok.vector (writes_pieces p K (open_of c.in-Some.found)) own whole ∙ ap (λ (l : List Piece). following looks (writes_pieces p K (open_of c.in-Some.found) l c.in-Ok.vector.total)) (sym c.as_slice-pieces.ensures.value) in
    let ran = of_process man pid (λ p. IfOk c.write_from.result (λ end. Ran g.M.Machine.does c.read_vector.new.machine c.write_from.new.machine man c.write_from.new.man (writes_pieces p (kernel_of man (g.M.Machine.held c.read_vector.new.machine) k) (open_of c.in-Some.found) c.as_slice-pieces.result.now c.in-Ok.vector.total) (ended end))) p there (c.write_from.ensures.ends k) in
    ran_following g.M.Machine.held g.M.Machine.does g.M.Machine.stops g.met.M.Machine.lawful _ _ _ man _ looks _ _ c.write_from.result (looks_still pid (held.space pid) at count) c.in_ok-vector.ensures.does row (subst (λ (h : Held). IfOk c.write_from.result (λ end. Ran g.M.Machine.does c.read_vector.new.machine c.write_from.new.machine man c.write_from.new.man (writes_pieces p (kernel_of man h k) (open_of c.in-Some.found) c.as_slice-pieces.result.now c.in-Ok.vector.total) (ended end))) c.in_ok-vector.ensures.held ran))

pub returns-in-Ok-clause-stops : goal.returns-in-Ok-clause-stops
returns-in-Ok-clause-stops g c k = each_process c.args.man.now c.args.pid.0 _ (λ p own there.
    let laws = g.met.M.Machine.lawful in
    let man = c.args.man.now in
    let held = g.M.Machine.held c.args.machine.now in
    let pid = c.args.pid.0 in
    let K = kernel_of man held k in
    let at = c.args.address in
    let count = c.args.count in
    let looks = vector_looks pid (held.space pid) at count in
    let found = λ (p : Process) (there : process man.procs pid ≡ Some p).
    ap (λ (o : Option Open). given o EBADF (λ o. with_vector p K at count (writes_pieces p K o))) (found_by man held k pid p is_writable c.args.fd (Some c.in-Some.found) there c.in-Some.ensures.is) in
    let whole : Whole (held.space pid) at count c.in-Ok.vector = subst (IsVector (held.space pid) at count) c.in-Ok.is c.in_ok-vector.ensures.is in
    let row = found p there ∙ vector_good p K pid at count c.in-Ok.vector (writes_pieces p K (open_of c.in-Some.found)) own whole ∙ ap (λ (l : List Piece). following looks (writes_pieces p K (open_of c.in-Some.found) l c.in-Ok.vector.total)) (sym c.as_slice-pieces.ensures.value) in
    let stop = of_process man pid (λ p. g.M.Machine.stops c.read_vector.new.machine c.write_from.new.machine (effects_of (writes_pieces p (kernel_of man (g.M.Machine.held c.read_vector.new.machine) k) (open_of c.in-Some.found) c.as_slice-pieces.result.now c.in-Ok.vector.total))) p there (c.write_from.ensures.stops k) in
    stops_following g.M.Machine.held g.M.Machine.does g.M.Machine.stops g.met.M.Machine.lawful _ _ _ looks _ _ row c.in_ok-vector.ensures.does (subst (λ (h : Held). g.M.Machine.stops c.read_vector.new.machine c.write_from.new.machine (effects_of (writes_pieces p (kernel_of man h k) (open_of c.in-Some.found) c.as_slice-pieces.result.now c.in-Ok.vector.total))) c.in_ok-vector.ensures.held stop))

pub returns-in-Err-clause-ends : goal.returns-in-Err-clause-ends
returns-in-Err-clause-ends g c k = each_process c.args.man.now c.args.pid.0 _ (λ p own there.
    let laws = g.met.M.Machine.lawful in
    let man = c.args.man.now in
    let held = g.M.Machine.held c.args.machine.now in
    let pid = c.args.pid.0 in
    let K = kernel_of man held k in
    let at = c.args.address in
    let count = c.args.count in
    let looks = vector_looks pid (held.space pid) at count in
    let found = λ (p : Process) (there : process man.procs pid ≡ Some p).
    ap (λ (o : Option Open). given o EBADF (λ o. with_vector p K at count (writes_pieces p K o))) (found_by man held k pid p is_writable c.args.fd (Some c.in-Some.found) there c.in-Some.ensures.is) in
    let bad = subst (IsVector (held.space pid) at count) c.in-Err.is c.in_ok-vector.ensures.is in
    ran_asked g.M.Machine.held g.M.Machine.does g.M.Machine.stops g.met.M.Machine.lawful _ _ man looks _ _ (looks_still pid (held.space pid) at count) c.in_ok-vector.ensures.does (found p there ∙ vector_bad p K pid at count c.in-Err.errno (writes_pieces p K (open_of c.in-Some.found)) own bad))

pub returns-in-Err-clause-stops : goal.returns-in-Err-clause-stops
returns-in-Err-clause-stops g c k = ran_stops g.M.Machine.held g.M.Machine.does g.M.Machine.stops g.met.M.Machine.lawful _ _ _ _ (process c.args.man.now.procs c.args.pid.0) _ _ (λ es. refl) (returns-in-Err-clause-ends g c k)

pub write_from-requires-clause-fit : goal.write_from-requires-clause-fit
write_from-requires-clause-fit g c = subst (λ (h : Held). FitTogether c.args.man.now h) (sym c.in_ok-vector.ensures.held) c.requires.fit

pub returns-in_default-clause-stops : goal.returns-in_default-clause-stops
returns-in_default-clause-stops g c k = ran_stops g.M.Machine.held g.M.Machine.does g.M.Machine.stops g.met.M.Machine.lawful _ _ _ _ (process c.args.man.now.procs c.args.pid.0) _ _ (λ es. refl) (returns-in_default-clause-ends g c k)
