use Rattle.call_machine.proofs.Stops.{stops_follow}
use Rattle.call_machine.proofs.stops_follow.Goals as goal

pub returns : goal.returns
returns g c = stops_follow g.M.Machine.held g.M.Machine.does g.M.Machine.stops g.met.M.Machine.lawful
