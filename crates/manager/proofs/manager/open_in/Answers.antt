use Rattle.std.proofs.Common.{◌≡◌, ◌<◌, ◌+◌, ℕ, true, is_some}
use Rattle.kernel_objects.specs.Slots.{next_slot, slot}
use Rattle.linux_model.specs.Processes.{is_reading_end, is_writing_end}
use Rattle.manager.specs.Counting.{one_if}
use Rattle.manager.proofs.Ends.{ends_there}
use Rattle.manager.proofs.Opening.{refs_fit, readers_fit, writers_fit, opened_counted}
use Rattle.manager.proofs.manager.open_in.Goals as goal

pub add-requires-clause-refs : goal.add-requires-clause-refs
add-requires-clause-refs c = refs_fit c.args.procs.now c.args.descs.now c.args.pipes.now (next_slot c.args.descs.now.descs) c.requires.counted

pub begin-requires-clause-readers : goal.begin-requires-clause-readers
begin-requires-clause-readers c = λ n. readers_fit c.args.procs.now c.args.descs.now c.args.pipes.now n c.requires.counted c.requires.room

pub begin-requires-clause-writers : goal.begin-requires-clause-writers
begin-requires-clause-writers c = λ n. writers_fit c.args.procs.now c.args.descs.now c.args.pipes.now n c.requires.counted c.requires.room

pub returns-clause-counted : goal.returns-clause-counted
returns-clause-counted c =
    let there : (n : ℕ) → 0 < one_if (is_reading_end n c.args.description.object) + one_if (is_writing_end n c.args.description.object) → is_some (slot c.args.pipes.now.pipes n) ≡ true =
    λ n some. ends_there c.args.pipes.now.pipes c.args.description.object n c.requires.pipe some in
    opened_counted c.args.procs.now c.args.descs.now c.args.pipes.now c.set_fd.new.self c.add.new.self c.begin.new.self c.args.pid.0 c.args.fd c.add.result c.args.description c.args.cloexec
    c.requires.alive c.requires.fd c.requires.free there c.add.ensures.slot c.set_fd.ensures c.add.ensures.descs c.add.ensures.refs c.begin.ensures.pipes c.begin.ensures.readers c.begin.ensures.writers c.requires.counted
