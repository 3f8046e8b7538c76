use Rattle.std.proofs.Common.{rules, ◌≡◌}
use Rattle.linux_model.specs.Held.{with_held}
use Rattle.linux_model.specs.SpaceCalls.{mmap_row}
use Rattle.sys_space.specs.Calls.{fixed_row, with_pid}
use Rattle.sys_space.proofs.Row.{answered_as, stopped_as}
use Rattle.sys_space.proofs.mappings.sys_mmap.Goals as goal

pub returns-then-flags-eq-FIXED-clause-answers : goal.returns-then-flags-eq-FIXED-clause-answers
returns-then-flags-eq-FIXED-clause-answers g c p k =
    let P = with_pid c.args.pid.0 p in
    let K = with_held (g.M.Machine.held c.args.machine.now) k in
    let row : mmap_row P K c.args.address c.args.len c.args.prot c.args.flags ≡ fixed_row c.args.address c.args.len c.perms_of.result P K = search rules in
    answered_as g.M.Machine.held g.M.Machine.does g.M.Machine.stops g.met.M.Machine.lawful _ _ _ _ _ _ c.map_fixed.result row (c.map_fixed.ensures.answers p k)

pub returns-then-flags-eq-FIXED-clause-stops : goal.returns-then-flags-eq-FIXED-clause-stops
returns-then-flags-eq-FIXED-clause-stops g c p k =
    let P = with_pid c.args.pid.0 p in
    let K = with_held (g.M.Machine.held c.args.machine.now) k in
    let row : mmap_row P K c.args.address c.args.len c.args.prot c.args.flags ≡ fixed_row c.args.address c.args.len c.perms_of.result P K = search rules in
    stopped_as g.M.Machine.held g.M.Machine.does g.M.Machine.stops g.met.M.Machine.lawful _ _ _ _ row (c.map_fixed.ensures.stops p k)
