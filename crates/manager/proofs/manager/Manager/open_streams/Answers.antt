use Rattle.std.proofs.Common.{◌≡◌, ◌∙◌, ap, false, None, Some, List, Option, length, arith}
use Rattle.kernel_objects.specs.declared.descriptor.Description.{Description}
use Rattle.kernel_objects.specs.declared.descriptor.FdEntry.{FdEntry}
use Rattle.kernel_objects.specs.declared.descriptor.Object.TheVariants.{Input, Output}
use Rattle.kernel_objects.specs.declared.descriptor.Stream.TheVariants.{Out}
use Rattle.kernel_objects.specs.Slots.{held, next_slot, slot}
use Rattle.linux_model.specs.Managed.{Managed}
use Rattle.linux_model.specs.Processes.{fds_of, process}
use Rattle.manager.specs.Words.{is_alive}
use Rattle.manager.proofs.Held.{held_next}
use Rattle.manager.proofs.Making.{alive_after, free_after}
use Rattle.manager.proofs.manager.Manager.open_streams.Goals as goal

pub open-requires-2-clause-alive : goal.open-requires-2-clause-alive
open-requires-2-clause-alive c =
    let m : Managed = c.args.self.now in
    let e : FdEntry = record { desc = next_slot m.descs; cloexec = false } in
    ap (is_alive c.args.pid.0) c.open.ensures ∙ alive_after m.procs c.args.pid.0 0 (Some e) c.requires.alive

pub open-requires-2-clause-free : goal.open-requires-2-clause-free
open-requires-2-clause-free c =
    let m : Managed = c.args.self.now in
    let e : FdEntry = record { desc = next_slot m.descs; cloexec = false } in
    let free : slot (fds_of (process m.procs c.args.pid.0)) 1 ≡ None = ap (λ (fds : List (Option FdEntry)). slot fds 1) c.requires.free in
    ap (λ (n : Managed). slot (fds_of (process n.procs c.args.pid.0)) 1) c.open.ensures ∙ free_after m.procs c.args.pid.0 0 1 (Some e) c.requires.alive (λ same. omega (arith, same)) free

pub open-requires-2-clause-room : goal.open-requires-2-clause-room
open-requires-2-clause-room c =
    let m : Managed = c.args.self.now in
    let x : Description = record { object = Input; offset = 0; flags = 0 } in
    let one = ap (λ (n : Managed). length (held n.descs)) c.open.ensures in
    let more = held_next x m.descs in
    let room = c.requires.room in
    omega (arith, one, more, room)

pub open-requires-3-clause-alive : goal.open-requires-3-clause-alive
open-requires-3-clause-alive c =
    let m : Managed = c.args.self.now in
    let n : Managed = c.open.new.self in
    let e : FdEntry = record { desc = next_slot m.descs; cloexec = false } in
    let f : FdEntry = record { desc = next_slot n.descs; cloexec = false } in
    let alive = ap (is_alive c.args.pid.0) c.open.ensures ∙ alive_after m.procs c.args.pid.0 0 (Some e) c.requires.alive in
    ap (is_alive c.args.pid.0) c.open-2.ensures ∙ alive_after n.procs c.args.pid.0 1 (Some f) alive

pub open-requires-3-clause-free : goal.open-requires-3-clause-free
open-requires-3-clause-free c =
    let m : Managed = c.args.self.now in
    let n : Managed = c.open.new.self in
    let e : FdEntry = record { desc = next_slot m.descs; cloexec = false } in
    let f : FdEntry = record { desc = next_slot n.descs; cloexec = false } in
    let alive = ap (is_alive c.args.pid.0) c.open.ensures ∙ alive_after m.procs c.args.pid.0 0 (Some e) c.requires.alive in
    let free : slot (fds_of (process m.procs c.args.pid.0)) 2 ≡ None = ap (λ (fds : List (Option FdEntry)). slot fds 2) c.requires.free in
    let left : slot (fds_of (process n.procs c.args.pid.0)) 2 ≡ None =
    ap (λ (n : Managed). slot (fds_of (process n.procs c.args.pid.0)) 2) c.open.ensures ∙ free_after m.procs c.args.pid.0 0 2 (Some e) c.requires.alive (λ same. omega (arith, same)) free in
    ap (λ (n : Managed). slot (fds_of (process n.procs c.args.pid.0)) 2) c.open-2.ensures ∙ free_after n.procs c.args.pid.0 1 2 (Some f) alive (λ same. omega (arith, same)) left

pub open-requires-3-clause-room : goal.open-requires-3-clause-room
open-requires-3-clause-room c =
    let m : Managed = c.args.self.now in
    let n : Managed = c.open.new.self in
    let x : Description = record { object = Input; offset = 0; flags = 0 } in
    let y : Description = record { object = Output Out; offset = 0; flags = 1 } in
    let one = ap (λ (n : Managed). length (held n.descs)) c.open.ensures in
    let two = ap (λ (n : Managed). length (held n.descs)) c.open-2.ensures in
    let more = held_next x m.descs in
    let most = held_next y n.descs in
    let room = c.requires.room in
    omega (arith, one, two, more, most, room)
