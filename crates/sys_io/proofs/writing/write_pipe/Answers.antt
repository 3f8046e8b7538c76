use Rattle.std.proofs.Common.{refl, rules, ◌≡◌, ◌∙◌, ap, [], leb, cond, true, false}
use Rattle.linux_model.specs.Buffers.{are_good, asks_pieces, to_read, where_good}
use Rattle.linux_model.specs.Called.{Death, following}
use Rattle.linux_model.specs.FileCalls.{moved_before, writes_long, writes_pipe, writes_short}
use Rattle.linux_model.specs.Limits.{PIPE_BUF}
use Rattle.linux_model.specs.Processes.{process, has_reader}
use Rattle.linux_model.specs.State.{Process}
use Rattle.linux_model.proofs.Looking.{looking_is_still}
use Rattle.call_machine.specs.Lent.{kernel_of}
use Rattle.call_machine.proofs.Rows.{ran_stops, each_process, ends_after, ran_asked, stops_after_asking, stops_in}
use Rattle.call_machine.proofs.Stops.{stops_follow}
use Rattle.sys_io.proofs.Sending.{bad_then, good_then, where_good_asks}
use Rattle.sys_io.proofs.writing.write_pipe.Goals as goal

pub returns-in_err-check_pieces-clause-stops : goal.returns-in_err-check_pieces-clause-stops
returns-in_err-check_pieces-clause-stops g c k = each_process c.args.man.now c.args.pid.0 _ (λ p own there.
    let laws = g.met.M.Machine.lawful in
    let held = g.M.Machine.held c.args.machine.now in
    let pid = c.args.pid.0 in
    let pieces = c.args.pieces.now in
    let n = c.args.n in
    let man = c.args.man.now in
    let K = kernel_of man held k in
    let pipe = c.args.pipe in
    let rest = writes_pipe p K pipe pieces n in
    let asks = asks_pieces pid (held.space pid) 1 pieces in
    let reader : has_reader pipe K.descs ≡ true = search rules in
    let row1 = ap (λ b. cond b (where_good p K to_read pieces rest) (Death [] 13)) reader in
    stops_in g.M.Machine.held g.M.Machine.does g.M.Machine.stops g.met.M.Machine.lawful _ _ asks _ _ (row1 ∙ where_good_asks p K pid 1 pieces rest own) c.check_pieces.ensures.stops)

pub returns-then-not-branch-clause-ends : goal.returns-then-not-branch-clause-ends
returns-then-not-branch-clause-ends g c k = each_process c.args.man.now c.args.pid.0 _ (λ p own there.
    let laws = g.met.M.Machine.lawful in
    let held = g.M.Machine.held c.args.machine.now in
    let pid = c.args.pid.0 in
    let pieces = c.args.pieces.now in
    let n = c.args.n in
    let man = c.args.man.now in
    let K = kernel_of man held k in
    let pipe = c.args.pipe in
    let rest = writes_pipe p K pipe pieces n in
    let asks = asks_pieces pid (held.space pid) 1 pieces in
    let reader : has_reader pipe K.descs ≡ true = search rules in
    let row1 = ap (λ b. cond b (where_good p K to_read pieces rest) (Death [] 13)) reader in
    let bad : are_good (held.space pid) 1 pieces ≡ false = search rules in
    ran_asked g.M.Machine.held g.M.Machine.does g.M.Machine.stops g.met.M.Machine.lawful _ _ man asks _ _ (looking_is_still.checks pid (held.space pid) 1 pieces) c.in_ok-check_pieces.ensures.does (row1 ∙ bad_then p K pid 1 pieces rest own bad))

pub returns-then-not-branch-clause-stops : goal.returns-then-not-branch-clause-stops
returns-then-not-branch-clause-stops g c k = ran_stops g.M.Machine.held g.M.Machine.does g.M.Machine.stops g.met.M.Machine.lawful _ _ _ _ (process c.args.man.now.procs c.args.pid.0) _ _ (λ es. refl) (returns-then-not-branch-clause-ends g c k)

pub returns-then-n-le-PIPE_BUF-clause-ends : goal.returns-then-n-le-PIPE_BUF-clause-ends
returns-then-n-le-PIPE_BUF-clause-ends g c k =
    let man = c.args.man.now in
    let held = g.M.Machine.held c.args.machine.now in
    let pid = c.args.pid.0 in
    let pieces = c.args.pieces.now in
    let n = c.args.n in
    let pipe = c.args.pipe in
    let K = kernel_of man held k in
    let asks = asks_pieces pid (held.space pid) 1 pieces in
    let good : are_good (held.space pid) 1 pieces ≡ true = search rules in
    let reader : has_reader pipe K.descs ≡ true = search rules in
    let small : leb n PIPE_BUF ≡ true = search rules in
    let same = λ (p : Process) (own : p.pid ≡ pid).
    ap (λ b. cond b (where_good p K to_read pieces (writes_pipe p K pipe pieces n)) (Death [] 13)) reader
    ∙ good_then p K pid 1 pieces (writes_pipe p K pipe pieces n) own good
    ∙ ap (λ b. following asks (cond b (writes_short p K pipe pieces n) (writes_long p K pipe pieces n (moved_before p.waiting)))) small in
    ends_after g.M.Machine.held g.M.Machine.does g.M.Machine.stops g.met.M.Machine.lawful _ _ _ man _ pid asks (λ p k. cond (has_reader pipe k.descs) (where_good p k to_read pieces (writes_pipe p k pipe pieces n)) (Death [] 13)) (λ p k. writes_short p k pipe pieces n) c.put_short.result k (looking_is_still.checks pid (held.space pid) 1 pieces) c.in_ok-check_pieces.ensures.does same (c.put_short.ensures.ends k)

pub returns-then-n-le-PIPE_BUF-clause-stops : goal.returns-then-n-le-PIPE_BUF-clause-stops
returns-then-n-le-PIPE_BUF-clause-stops g c k =
    let man = c.args.man.now in
    let held = g.M.Machine.held c.args.machine.now in
    let pid = c.args.pid.0 in
    let pieces = c.args.pieces.now in
    let n = c.args.n in
    let pipe = c.args.pipe in
    let K = kernel_of man held k in
    let asks = asks_pieces pid (held.space pid) 1 pieces in
    let good : are_good (held.space pid) 1 pieces ≡ true = search rules in
    let reader : has_reader pipe K.descs ≡ true = search rules in
    let small : leb n PIPE_BUF ≡ true = search rules in
    let same = λ (p : Process) (own : p.pid ≡ pid).
    ap (λ b. cond b (where_good p K to_read pieces (writes_pipe p K pipe pieces n)) (Death [] 13)) reader
    ∙ good_then p K pid 1 pieces (writes_pipe p K pipe pieces n) own good
    ∙ ap (λ b. following asks (cond b (writes_short p K pipe pieces n) (writes_long p K pipe pieces n (moved_before p.waiting)))) small in
    stops_after_asking g.M.Machine.held g.M.Machine.does g.M.Machine.stops g.met.M.Machine.lawful _ _ _ man pid asks (λ p k. cond (has_reader pipe k.descs) (where_good p k to_read pieces (writes_pipe p k pipe pieces n)) (Death [] 13)) (λ p k. writes_short p k pipe pieces n) k (looking_is_still.checks pid (held.space pid) 1 pieces) c.in_ok-check_pieces.ensures.does same (c.put_short.ensures.stops k)

pub returns-else-n-le-PIPE_BUF-clause-ends : goal.returns-else-n-le-PIPE_BUF-clause-ends
returns-else-n-le-PIPE_BUF-clause-ends g c k =
    let man = c.args.man.now in
    let held = g.M.Machine.held c.args.machine.now in
    let pid = c.args.pid.0 in
    let pieces = c.args.pieces.now in
    let n = c.args.n in
    let pipe = c.args.pipe in
    let K = kernel_of man held k in
    let asks = asks_pieces pid (held.space pid) 1 pieces in
    let good : are_good (held.space pid) 1 pieces ≡ true = search rules in
    let reader : has_reader pipe K.descs ≡ true = search rules in
    let small : leb n PIPE_BUF ≡ false = search rules in
    let same = λ (p : Process) (own : p.pid ≡ pid).
    ap (λ b. cond b (where_good p K to_read pieces (writes_pipe p K pipe pieces n)) (Death [] 13)) reader
    ∙ good_then p K pid 1 pieces (writes_pipe p K pipe pieces n) own good
    ∙ ap (λ b. following asks (cond b (writes_short p K pipe pieces n) (writes_long p K pipe pieces n (moved_before p.waiting)))) small in
    ends_after g.M.Machine.held g.M.Machine.does g.M.Machine.stops g.met.M.Machine.lawful _ _ _ man _ pid asks (λ p k. cond (has_reader pipe k.descs) (where_good p k to_read pieces (writes_pipe p k pipe pieces n)) (Death [] 13)) (λ p k. writes_long p k pipe pieces n (moved_before p.waiting)) c.put_long.result k (looking_is_still.checks pid (held.space pid) 1 pieces) c.in_ok-check_pieces.ensures.does same (c.put_long.ensures.ends k)

pub returns-else-n-le-PIPE_BUF-clause-stops : goal.returns-else-n-le-PIPE_BUF-clause-stops
returns-else-n-le-PIPE_BUF-clause-stops g c k =
    let man = c.args.man.now in
    let held = g.M.Machine.held c.args.machine.now in
    let pid = c.args.pid.0 in
    let pieces = c.args.pieces.now in
    let n = c.args.n in
    let pipe = c.args.pipe in
    let K = kernel_of man held k in
    let asks = asks_pieces pid (held.space pid) 1 pieces in
    let good : are_good (held.space pid) 1 pieces ≡ true = search rules in
    let reader : has_reader pipe K.descs ≡ true = search rules in
    let small : leb n PIPE_BUF ≡ false = search rules in
    let same = λ (p : Process) (own : p.pid ≡ pid).
    ap (λ b. cond b (where_good p K to_read pieces (writes_pipe p K pipe pieces n)) (Death [] 13)) reader
    ∙ good_then p K pid 1 pieces (writes_pipe p K pipe pieces n) own good
    ∙ ap (λ b. following asks (cond b (writes_short p K pipe pieces n) (writes_long p K pipe pieces n (moved_before p.waiting)))) small in
    stops_after_asking g.M.Machine.held g.M.Machine.does g.M.Machine.stops g.met.M.Machine.lawful _ _ _ man pid asks (λ p k. cond (has_reader pipe k.descs) (where_good p k to_read pieces (writes_pipe p k pipe pieces n)) (Death [] 13)) (λ p k. writes_long p k pipe pieces n (moved_before p.waiting)) k (looking_is_still.checks pid (held.space pid) 1 pieces) c.in_ok-check_pieces.ensures.does same (c.put_long.ensures.stops k)
