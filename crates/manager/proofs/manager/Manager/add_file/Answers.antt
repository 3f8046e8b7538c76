use Rattle.std.proofs.Common.{◌≡◌, Some, rules}
use Rattle.kernel_objects.specs.Slots.{lowest_free}
use Rattle.linux_model.specs.Processes.{fds_of, process}
use Rattle.manager.proofs.Making.{lowest_is}
use Rattle.manager.proofs.manager.Manager.add_file.Goals as goal

pub open-requires-clause-free : goal.open-requires-clause-free
open-requires-clause-free c =
    let is : lowest_free (fds_of (process c.args.self.now.procs c.args.pid.0)) 0 ≡ Some c.in_ok-fd.fd = search rules in
    (lowest_is (fds_of (process c.args.self.now.procs c.args.pid.0)) 0 c.in_ok-fd.fd is).free
