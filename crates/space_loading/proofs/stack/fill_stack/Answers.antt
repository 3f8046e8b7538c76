use Rattle.space_loading.proofs.Stacking.{goes_on, stopped}
use Rattle.space_loading.proofs.stack.fill_stack.Goals as goal

pub returns-in_err-fill-clause-stops : goal.returns-in_err-fill-clause-stops
returns-in_err-fill-clause-stops g c =
    stopped g.M.Machine.held g.M.Machine.does g.M.Machine.stops g.met.M.Machine.lawful c.args.pid.0 c.args.sp c.args.bytes.now c.requires.within _ _ _ c.loop-done.done c.loop-done-test.true c.loop-done.invariant c.fill.ensures.stops

pub loop-done-preserved : goal.loop-done-preserved
loop-done-preserved g c =
    goes_on g.M.Machine.held g.M.Machine.does g.M.Machine.stops g.met.M.Machine.lawful c.args.pid.0 c.args.sp c.args.bytes.now c.requires.within _ _ _ c.loop-done.done c.loop-done-test.true c.loop-done.invariant c.in_ok-fill.ensures.does
