use Rattle.std.proofs.Common.{rules, subst}
use Rattle.sys_process.specs.Strings.{ItemIs}
use Rattle.sys_process.specs.declared.strings.Item.{Item}
use Rattle.sys_process.proofs.Listing.{next}
use Rattle.sys_process.proofs.strings.read_strings.Goals as goal

pub loop-strings-preserved : goal.loop-strings-preserved
loop-strings-preserved g c =
    let item = subst (λ (i : Item). ItemIs g.M.Machine.does c.loop-strings.machine c.read_item.new.machine c.args.pid.0 ((g.M.Machine.held c.loop-strings.machine).space c.args.pid.0) c.loop-strings.left c.loop-strings.at c.loop-strings.room i) c.in-String.is c.in_ok-string.ensures.item in
    let after = next g.M.Machine.held g.M.Machine.does g.M.Machine.stops g.met.M.Machine.lawful c.args.pid.0 c.args.left c.args.address c.args.room c.args.machine.now c.loop-strings.machine c.loop-strings.strings c.loop-strings.left c.loop-strings.at c.loop-strings.room c.loop-strings.invariant c.read_item.new.machine c.in-String.string c.in_ok-string.ensures.still item in
    search (rules, after)
