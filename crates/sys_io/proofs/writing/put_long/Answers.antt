use Rattle.std.proofs.Common.{refl, rules, ◌≡◌, ◌+◌, ◌-◌, ltb, sym, ◌∙◌, ap, subst, true, false}
use Rattle.linux_model.specs.Buffers.{part, bytes_in}
use Rattle.linux_model.specs.Effects.{PutsPipe}
use Rattle.linux_model.specs.FileCalls.{moved_before, room_of}
use Rattle.linux_model.specs.Managed.{managed_after}
use Rattle.linux_model.specs.Processes.{process}
use Rattle.call_machine.specs.Lent.{kernel_of}
use Rattle.call_machine.proofs.Rows.{ran_stops, each_process, of_process, stops_as}
use Rattle.call_machine.proofs.Stops.{stops_follow}
use Rattle.sys_io.specs.Moving.{puts_part}
use Rattle.sys_io.proofs.Sending.{long_ends, long_waits, puts_managed}
use Rattle.sys_io.proofs.writing.put_long.Goals as goal

pub returns-in_err-put_part-clause-stops : goal.returns-in_err-put_part-clause-stops
returns-in_err-put_part-clause-stops g c k = each_process c.args.man.now c.args.pid.0 _ (λ p own there.
    let laws = g.met.M.Machine.lawful in
    let held = g.M.Machine.held c.args.machine.now in
    let pid = c.args.pid.0 in
    let pieces = c.args.pieces.now in
    let n = c.args.n in
    let man = c.args.man.now in
    let K = kernel_of man held k in
    let pipe = c.args.pipe in
    let room : room_of pipe K ≡ c.args.room = sym c.requires.room in
    let moved = c.moved_before-moved.result in
    let waiting : c.waiting.result ≡ p.waiting = of_process man pid (λ q. c.waiting.result ≡ q.waiting) p there c.waiting.ensures in
    let same : moved_before p.waiting ≡ moved = ap moved_before (sym waiting) ∙ sym c.moved_before-moved.ensures in
    let puts = puts_part pid (held.space pid) pipe (part moved c.args.room pieces) in
    let more : ltb (moved + c.args.room) n ≡ true = search rules in
    let row = long_waits p K pid pipe pieces n _ moved c.args.room own room same more in
    stops_as g.M.Machine.held g.M.Machine.does g.M.Machine.stops g.met.M.Machine.lawful _ _ _ _ row c.put_part.ensures.stops)

pub returns-then-saturating_add-n-clause-ends : goal.returns-then-saturating_add-n-clause-ends
returns-then-saturating_add-n-clause-ends g c k = each_process c.args.man.now c.args.pid.0 _ (λ p own there.
    let laws = g.met.M.Machine.lawful in
    let held = g.M.Machine.held c.args.machine.now in
    let pid = c.args.pid.0 in
    let pieces = c.args.pieces.now in
    let n = c.args.n in
    let man = c.args.man.now in
    let K = kernel_of man held k in
    let pipe = c.args.pipe in
    let room : room_of pipe K ≡ c.args.room = sym c.requires.room in
    let moved = c.moved_before-moved.result in
    let waiting : c.waiting.result ≡ p.waiting = of_process man pid (λ q. c.waiting.result ≡ q.waiting) p there c.waiting.ensures in
    let same : moved_before p.waiting ≡ moved = ap moved_before (sym waiting) ∙ sym c.moved_before-moved.ensures in
    let puts = puts_part pid (held.space pid) pipe (part moved c.args.room pieces) in
    let more : ltb (moved + c.args.room) n ≡ true = search rules in
    let row = long_waits p K pid pipe pieces n _ moved c.args.room own room same more in
    record {
      effects = puts;
      row_is = row;
      did = c.in_ok-put_part.ensures.does;
      managed = puts_managed pid (held.space pid) pipe (part moved c.args.room pieces) man ∙ sym c.in_ok-put_part.ensures.put;
    })

pub returns-then-saturating_add-n-clause-stops : goal.returns-then-saturating_add-n-clause-stops
returns-then-saturating_add-n-clause-stops g c k = ran_stops g.M.Machine.held g.M.Machine.does g.M.Machine.stops g.met.M.Machine.lawful _ _ _ _ (process c.args.man.now.procs c.args.pid.0) _ _ (λ es. refl) (returns-then-saturating_add-n-clause-ends g c k)

pub returns-in_err-put_part-2-clause-stops : goal.returns-in_err-put_part-2-clause-stops
returns-in_err-put_part-2-clause-stops g c k = each_process c.args.man.now c.args.pid.0 _ (λ p own there.
    let laws = g.met.M.Machine.lawful in
    let held = g.M.Machine.held c.args.machine.now in
    let pid = c.args.pid.0 in
    let pieces = c.args.pieces.now in
    let n = c.args.n in
    let man = c.args.man.now in
    let K = kernel_of man held k in
    let pipe = c.args.pipe in
    let room : room_of pipe K ≡ c.args.room = sym c.requires.room in
    let moved = c.moved_before-moved.result in
    let waiting : c.waiting.result ≡ p.waiting = of_process man pid (λ q. c.waiting.result ≡ q.waiting) p there c.waiting.ensures in
    let same : moved_before p.waiting ≡ moved = ap moved_before (sym waiting) ∙ sym c.moved_before-moved.ensures in
    let puts = puts_part pid (held.space pid) pipe (part moved (n - moved) pieces) in
    let more : ltb (moved + c.args.room) n ≡ false = search rules in
    let row = long_ends p K pid pipe pieces n _ moved c.args.room own room same more in
    let left : c.saturating_sub-left.result ≡ n - moved = search rules in
    let stop = subst (λ m. g.M.Machine.stops c.args.machine.now c.put_part-2.new.machine (puts_part pid (held.space pid) pipe (part moved m pieces))) left c.put_part-2.ensures.stops in
    stops_as g.M.Machine.held g.M.Machine.does g.M.Machine.stops g.met.M.Machine.lawful _ _ _ _ row stop)

pub returns-clause-ends : goal.returns-clause-ends
returns-clause-ends g c k = each_process c.args.man.now c.args.pid.0 _ (λ p own there.
    let laws = g.met.M.Machine.lawful in
    let held = g.M.Machine.held c.args.machine.now in
    let pid = c.args.pid.0 in
    let pieces = c.args.pieces.now in
    let n = c.args.n in
    let man = c.args.man.now in
    let K = kernel_of man held k in
    let pipe = c.args.pipe in
    let room : room_of pipe K ≡ c.args.room = sym c.requires.room in
    let moved = c.moved_before-moved.result in
    let waiting : c.waiting.result ≡ p.waiting = of_process man pid (λ q. c.waiting.result ≡ q.waiting) p there c.waiting.ensures in
    let same : moved_before p.waiting ≡ moved = ap moved_before (sym waiting) ∙ sym c.moved_before-moved.ensures in
    let puts = puts_part pid (held.space pid) pipe (part moved (n - moved) pieces) in
    let more : ltb (moved + c.args.room) n ≡ false = search rules in
    let row = long_ends p K pid pipe pieces n _ moved c.args.room own room same more in
    let left : c.saturating_sub-left.result ≡ n - moved = search rules in
    let did = subst (λ m. g.M.Machine.does c.args.machine.now c.put_part-2.new.machine (puts_part pid (held.space pid) pipe (part moved m pieces))) left c.in_ok-put_part-2.ensures.does in
    record {
      effects = puts;
      row_is = row;
      did = did;
      managed = puts_managed pid (held.space pid) pipe (part moved (n - moved) pieces) man ∙ ap (λ m. managed_after (PutsPipe pipe (bytes_in (held.space pid) (part moved m pieces))) man) (sym left) ∙ sym c.in_ok-put_part-2.ensures.put;
    })

pub returns-clause-stops : goal.returns-clause-stops
returns-clause-stops g c k = ran_stops g.M.Machine.held g.M.Machine.does g.M.Machine.stops g.met.M.Machine.lawful _ _ _ _ (process c.args.man.now.procs c.args.pid.0) _ _ (λ es. refl) (returns-clause-ends g c k)
