use Rattle.std.proofs.Common.{◌-◌, length, arith}
use Rattle.kernel_objects.specs.Slots.{held}
use Rattle.linux_model.specs.Processes.{fds_of, process}
use Rattle.manager.proofs.Making.{two_are_free, TwoFree}
use Rattle.manager.proofs.manager.Manager.add_pipe.Goals as goal

pub make_pipe-requires-clause-reading : goal.make_pipe-requires-clause-reading
make_pipe-requires-clause-reading c =
    let two : TwoFree (fds_of (process c.args.self.now.procs c.args.pid.0)) c.in_ok-reading.reading c.in_ok-reading.writing (1024 - length (held c.args.self.now.descs)) =
    two_are_free (fds_of (process c.args.self.now.procs c.args.pid.0)) c.in_ok-reading.reading c.in_ok-reading.writing (1024 - length (held c.args.self.now.descs)) c.in_ok-reading.ensures.fds in
    two.reads

pub make_pipe-requires-clause-writing : goal.make_pipe-requires-clause-writing
make_pipe-requires-clause-writing c =
    let two : TwoFree (fds_of (process c.args.self.now.procs c.args.pid.0)) c.in_ok-reading.reading c.in_ok-reading.writing (1024 - length (held c.args.self.now.descs)) =
    two_are_free (fds_of (process c.args.self.now.procs c.args.pid.0)) c.in_ok-reading.reading c.in_ok-reading.writing (1024 - length (held c.args.self.now.descs)) c.in_ok-reading.ensures.fds in
    two.writes

pub make_pipe-requires-clause-order : goal.make_pipe-requires-clause-order
make_pipe-requires-clause-order c =
    let two : TwoFree (fds_of (process c.args.self.now.procs c.args.pid.0)) c.in_ok-reading.reading c.in_ok-reading.writing (1024 - length (held c.args.self.now.descs)) =
    two_are_free (fds_of (process c.args.self.now.procs c.args.pid.0)) c.in_ok-reading.reading c.in_ok-reading.writing (1024 - length (held c.args.self.now.descs)) c.in_ok-reading.ensures.fds in
    two.order

pub make_pipe-requires-clause-room : goal.make_pipe-requires-clause-room
make_pipe-requires-clause-room c =
    let two : TwoFree (fds_of (process c.args.self.now.procs c.args.pid.0)) c.in_ok-reading.reading c.in_ok-reading.writing (1024 - length (held c.args.self.now.descs)) =
    two_are_free (fds_of (process c.args.self.now.procs c.args.pid.0)) c.in_ok-reading.reading c.in_ok-reading.writing (1024 - length (held c.args.self.now.descs)) c.in_ok-reading.ensures.fds in
    let room = two.room in
    omega (arith, room)
