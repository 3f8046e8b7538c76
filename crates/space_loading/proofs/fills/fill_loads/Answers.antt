use Rattle.std.proofs.Common.{sym, ◌∙◌}
use Rattle.call_machine.proofs.Stops.{stops_follow}
use Rattle.space_loading.proofs.Filling.{begins, ends, goes_on, stopped}
use Rattle.space_loading.proofs.fills.fill_loads.Goals as goal

pub loop-page-init : goal.loop-page-init
loop-page-init g c = begins g.M.Machine.held g.M.Machine.does g.M.Machine.stops g.met.M.Machine.lawful c.args.pid.0 c.args.segments.now _ c.requires.mapped

pub returns-in_err-fill_page-clause-stops : goal.returns-in_err-fill_page-clause-stops
returns-in_err-fill_page-clause-stops g c =
    stopped g.M.Machine.held g.M.Machine.does g.M.Machine.stops g.met.M.Machine.lawful c.args.pid.0 c.args.segments.now _ _ _ c.loop-page.from c.in-Some.page c.loop-page.invariant (sym c.next_page.ensures.next ∙ c.in-Some.is) c.fill_page.ensures.stops

pub loop-page-preserved : goal.loop-page-preserved
loop-page-preserved g c =
    goes_on g.M.Machine.held g.M.Machine.does g.M.Machine.stops g.met.M.Machine.lawful c.args.pid.0 c.args.segments.now _ _ _ c.loop-page.from c.in-Some.page c.loop-page.invariant (sym c.next_page.ensures.next ∙ c.in-Some.is) c.in_ok-fill_page.ensures.does

pub returns-clause-does : goal.returns-clause-does
returns-clause-does g c =
    ends g.M.Machine.held g.M.Machine.does g.M.Machine.stops g.met.M.Machine.lawful c.args.pid.0 c.args.segments.now _ _ c.loop-page.from c.loop-page.invariant (sym c.next_page.ensures.next ∙ c.in_default.is)

pub returns-clause-stops : goal.returns-clause-stops
returns-clause-stops g c =
    (stops_follow g.M.Machine.held g.M.Machine.does g.M.Machine.stops g.met.M.Machine.lawful).did _ _ _
    (ends g.M.Machine.held g.M.Machine.does g.M.Machine.stops g.met.M.Machine.lawful c.args.pid.0 c.args.segments.now _ _ c.loop-page.from c.loop-page.invariant (sym c.next_page.ensures.next ∙ c.in_default.is))
