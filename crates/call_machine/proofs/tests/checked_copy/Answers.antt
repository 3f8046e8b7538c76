use Rattle.std.proofs.Common.{[], ◌∷◌}
use Rattle.linux_model.specs.Effects.{AsksSpan}
use Rattle.call_machine.specs.Effects.{copied_in}
use Rattle.call_machine.proofs.Tried.{done, stopped}
use Rattle.call_machine.proofs.tests.checked_copy.Goals as goal

pub returns-in_err-check_span-clause-stops : goal.returns-in_err-check_span-clause-stops
returns-in_err-check_span-clause-stops g c =
    g.met.M.Machine.lawful.stops_front _ _ (AsksSpan c.args.pid.0 c.args.at c.args.len ∷ []) (copied_in ((g.M.Machine.held c.args.machine.now).space c.args.pid.0) c.args.pid.0 c.args.at c.args.len) c.check_span.ensures.stops

pub returns-clause-does : goal.returns-clause-does
returns-clause-does g c =
    done g.M.Machine.held g.M.Machine.does g.M.Machine.stops g.met.M.Machine.lawful c.args.pid.0 c.args.at c.args.len _ _ _ c.in_ok-check_span.ensures.does c.copy_in.result c.copy_in.ensures.does

pub returns-clause-stops : goal.returns-clause-stops
returns-clause-stops g c =
    stopped g.M.Machine.held g.M.Machine.does g.M.Machine.stops g.met.M.Machine.lawful c.args.pid.0 c.args.at c.args.len _ _ _ c.in_ok-check_span.ensures.does c.copy_in.ensures.stops
