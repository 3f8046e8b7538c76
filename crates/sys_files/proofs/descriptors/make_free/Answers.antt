use Rattle.std.proofs.Common.{rules, ◌≡◌, Some, None, option_map}
use Rattle.kernel_objects.specs.Slots.{slot}
use Rattle.linux_model.specs.Effects.{Closes, at_fd}
use Rattle.linux_model.specs.Managed.{managed_after}
use Rattle.linux_model.specs.Processes.{fds_of, process}
use Rattle.call_parts.proofs.Closed.{after_open_closed, free_is_free}
use Rattle.manager.specs.Words.{entry_of}
use Rattle.sys_files.proofs.descriptors.make_free.Goals as goal

pub returns-in-Some-clause-process : goal.returns-in-Some-clause-process
returns-in-Some-clause-process g c =
    let procs = c.args.man.now.procs in
    let is : slot (fds_of (process procs c.args.pid.0)) c.args.fd ≡ Some (entry_of c.in-Some._open) = search rules in
    let after : process (managed_after (Closes c.args.pid.0 c.args.fd) c.args.man.now).procs c.args.pid.0 ≡ option_map (at_fd c.args.fd None) (process procs c.args.pid.0) = after_open_closed c.args.man.now c.args.pid.0 c.args.fd (entry_of c.in-Some._open) is in
    search rules

pub returns-in-None-clause-process : goal.returns-in-None-clause-process
returns-in-None-clause-process g c =
    let is : slot (fds_of (process c.args.man.now.procs c.args.pid.0)) c.args.fd ≡ None = search rules in
    free_is_free (process c.args.man.now.procs c.args.pid.0) c.args.fd is
