use Rattle.std.proofs.Common.{◌≡◌, ◌+◌, ◌∙◌, ap, subst, sym, refl, rules, true, None, Some, [], is_some, length, arith}
use Rattle.std.proofs.lemmas.Bool.{eq-eqb}
use Rattle.kernel_objects.specs.declared.descriptor.Description.{Description}
use Rattle.kernel_objects.specs.declared.descriptor.FdEntry.{FdEntry}
use Rattle.kernel_objects.specs.declared.descriptor.Object.TheVariants.{PipeRead, PipeWrite}
use Rattle.kernel_objects.specs.Slots.{held, next_slot, picks, slot, with_next}
use Rattle.linux_model.specs.Processes.{fds_of, is_live, process}
use Rattle.linux_model.specs.Managed.{Managed}
use Rattle.linux_model.proofs.fits.Slots.{next_holds}
use Rattle.proc_table.specs.Entries.{Table}
use Rattle.manager.specs.Sound.{Counted}
use Rattle.manager.specs.Tables.{DescTable, PipeTable}
use Rattle.manager.proofs.Held.{held_next}
use Rattle.manager.proofs.Making.{alive_after, free_after, made_ended, new_pipe, pipes_few}
use Rattle.manager.proofs.manager.Manager.make_pipe.Goals as goal

pub add-requires : goal.add-requires
add-requires c =
    let few = pipes_few c.self.inside.descs.descs c.self.inside.pipes.pipes c.self.invariant.ended in
    let room = c.requires.room in
    let same = ap (λ (m : Managed). length (held m.descs)) c.self.view_is in
    omega (arith, few, room, same)

pub open_in-requires-clause-counted : goal.open_in-requires-clause-counted
open_in-requires-clause-counted c =
    let p : PipeTable = c.self.inside.pipes in
    let made : c.add.new.self ≡ record p { pipes = with_next [] p.pipes } = search rules in
    subst (λ (p : PipeTable). Counted c.self.inside.procs c.self.inside.descs p) (sym made) (new_pipe c.self.inside.procs c.self.inside.descs p c.self.invariant.counted)

pub open_in-requires-clause-pipe : goal.open_in-requires-clause-pipe
open_in-requires-clause-pipe c =
    let p : PipeTable = c.self.inside.pipes in
    let made : c.add.new.self ≡ record p { pipes = with_next [] p.pipes } = search rules in
    (λ i. is_some (slot (made i).pipes (c.in_ok-pipe.ensures.slot i))) ∙ ap (λ o. is_some o) (next_holds [] p.pipes)

pub open_in-requires-2-clause-alive : goal.open_in-requires-2-clause-alive
open_in-requires-2-clause-alive c =
    let t : Table = c.self.inside.procs in
    let e : FdEntry = record { desc = next_slot c.self.inside.descs.descs; cloexec = c.args.cloexec } in
    let alive : picks (λ p. is_live p.state) (process t.procs c.args.pid.0) ≡ true = search rules in
    ap (λ (t : Table). picks (λ p. is_live p.state) (process t.procs c.args.pid.0)) c.open_in.ensures.procs ∙ alive_after t.procs c.args.pid.0 c.args.reading (Some e) alive

pub open_in-requires-2-clause-free : goal.open_in-requires-2-clause-free
open_in-requires-2-clause-free c =
    let t : Table = c.self.inside.procs in
    let e : FdEntry = record { desc = next_slot c.self.inside.descs.descs; cloexec = c.args.cloexec } in
    let alive : picks (λ p. is_live p.state) (process t.procs c.args.pid.0) ≡ true = search rules in
    let free : slot (fds_of (process t.procs c.args.pid.0)) c.args.writing ≡ None = search rules in
    let order = c.requires.order in
    ap (λ (t : Table). slot (fds_of (process t.procs c.args.pid.0)) c.args.writing) c.open_in.ensures.procs
    ∙ free_after t.procs c.args.pid.0 c.args.reading c.args.writing (Some e) alive (λ same. omega (arith, order, same)) free

pub open_in-requires-2-clause-pipe : goal.open_in-requires-2-clause-pipe
open_in-requires-2-clause-pipe c =
    let p : PipeTable = c.self.inside.pipes in
    let made : c.add.new.self ≡ record p { pipes = with_next [] p.pipes } = search rules in
    ap (λ s. is_some (slot s c.in_ok-pipe.pipe)) c.open_in.ensures.pipes
    ∙ (λ i. is_some (slot (made i).pipes (c.in_ok-pipe.ensures.slot i))) ∙ ap (λ o. is_some o) (next_holds [] p.pipes)

pub open_in-requires-2-clause-room : goal.open_in-requires-2-clause-room
open_in-requires-2-clause-room c =
    let d : DescTable = c.self.inside.descs in
    let x : Description = record { object = PipeRead c.in_ok-pipe.pipe; offset = 0; flags = 0 } in
    let more : length (held c.open_in.new.descs.descs) ≡ length (held d.descs) + 1 = ap (λ s. length (held s)) c.open_in.ensures.descs ∙ held_next x d.descs in
    let room = c.requires.room in
    let same = ap (λ (m : Managed). length (held m.descs)) c.self.view_is in
    omega (arith, more, room, same)

pub invariant_of-self-2 : goal.invariant_of-self-2
invariant_of-self-2 c =
    let p : PipeTable = c.self.inside.pipes in
    let d : DescTable = c.self.inside.descs in
    let pipe = c.in_ok-pipe.pipe in
    let x : Description = record { object = PipeRead pipe; offset = 0; flags = 0 } in
    let y : Description = record { object = PipeWrite pipe; offset = 0; flags = 1 } in
    let made : c.add.new.self ≡ record p { pipes = with_next [] p.pipes } = search rules in
    record {
      counted = c.open_in-2.ensures.counted;
      ended = made_ended d c.open_in-2.new.descs p c.open_in-2.new.pipes x y pipe c.in_ok-pipe.ensures.slot (eq-eqb pipe pipe refl)
          (c.open_in-2.ensures.descs ∙ ap (with_next y) c.open_in.ensures.descs)
          (c.open_in-2.ensures.pipes ∙ c.open_in.ensures.pipes ∙ ap (λ (p : PipeTable). p.pipes) made) c.self.invariant.ended;
    }
