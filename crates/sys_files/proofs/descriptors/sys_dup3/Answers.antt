use Rattle.std.proofs.Common.{rules, ◌≡◌, ◌==◌, ap, sym, ◌∙◌, subst, refl, [], ◌∷◌, ◌++◌, Option, Some, is_some, IfSome}
use Rattle.kernel_objects.specs.declared.descriptor.FdEntry.{FdEntry}
use Rattle.kernel_objects.specs.Slots.{slot}
use Rattle.linux_model.specs.Descriptors.{dup3_row}
use Rattle.linux_model.specs.Called.{Gives}
use Rattle.linux_model.specs.Effects.{Shares}
use Rattle.linux_model.specs.Limits.{O_CLOEXEC}
use Rattle.linux_model.specs.Processes.{fds_of, process}
use Rattle.linux_model.specs.Held.{with_held}
use Rattle.linux_model.specs.Managed.{managed_after}
use Rattle.linux_model.proofs.Managing.{managed-append}
use Rattle.call_machine.specs.Lent.{kernel_of}
use Rattle.call_machine.proofs.Rows.{ran_stops, each_process, stops_as, stops_end}
use Rattle.call_parts.proofs.Closed.{freed_slot, other_slot}
use Rattle.call_parts.proofs.Opened.{entry_by}
use Rattle.manager.specs.Words.{entry_of}
use Rattle.sys_files.specs.Freeing.{freeing}
use Rattle.sys_files.proofs.descriptors.sys_dup3.Goals as goal

pub dup-requires-clause-from : goal.dup-requires-clause-from
dup-requires-clause-from g c =
    let old = process c.args.man.now.procs c.args.pid.0 in
    let is : slot (fds_of old) c.args.from ≡ Some (entry_of c.in-Some._open) = search rules in
    let ne : c.args.to ≡ c.args.from → ⊥ = search rules in
    let same = other_slot old (process c.make_free.new.man.procs c.args.pid.0) c.args.to c.args.from ne c.in_ok-make_free.ensures.process in
    ap (λ o. is_some o) (same ∙ is)

pub dup-requires-clause-free : goal.dup-requires-clause-free
dup-requires-clause-free g c = freed_slot (process c.args.man.now.procs c.args.pid.0) (process c.make_free.new.man.procs c.args.pid.0) c.args.to c.in_ok-make_free.ensures.process

pub returns-in_err-make_free-clause-stops : goal.returns-in_err-make_free-clause-stops
returns-in_err-make_free-clause-stops g c k = each_process c.args.man.now c.args.pid.0 _ (λ p own there.
    let held = g.M.Machine.held c.args.machine.now in
    let K = kernel_of c.args.man.now held k in
    let is : slot p.fds c.args.from ≡ Some (entry_of c.in-Some._open) = entry_by c.args.man.now c.args.pid.0 c.args.from p (Some c.in-Some._open) there c.in-Some.ensures.entry in
    let shares = Shares c.args.pid.0 c.args.to c.in-Some._open.desc (c.args.flags == O_CLOEXEC) in
    let free = freeing c.args.pid.0 c.args.to c.args.man.now (with_held held k) in
    let row : dup3_row p K c.args.from c.args.to c.args.flags ≡ Gives (free ++ shares ∷ []) c.args.to = search rules in
    stops_as g.M.Machine.held g.M.Machine.does g.M.Machine.stops g.met.M.Machine.lawful _ _ _ _ row (g.met.M.Machine.lawful.stops_front _ _ free (shares ∷ []) (c.make_free.ensures.stops (with_held held k))))

pub returns-clause-answers : goal.returns-clause-answers
returns-clause-answers g c k = each_process c.args.man.now c.args.pid.0 _ (λ p own there.
    let held = g.M.Machine.held c.args.machine.now in
    let K = kernel_of c.args.man.now held k in
    let is : slot p.fds c.args.from ≡ Some (entry_of c.in-Some._open) = entry_by c.args.man.now c.args.pid.0 c.args.from p (Some c.in-Some._open) there c.in-Some.ensures.entry in
    let shares = Shares c.args.pid.0 c.args.to c.in-Some._open.desc (c.args.flags == O_CLOEXEC) in
    let free = freeing c.args.pid.0 c.args.to c.args.man.now (with_held held k) in
    let row : dup3_row p K c.args.from c.args.to c.args.flags ≡ Gives (free ++ shares ∷ []) c.args.to = search rules in
    let from : slot (fds_of (process c.args.man.now.procs c.args.pid.0)) c.args.from ≡ Some (entry_of c.in-Some._open) = sym c.in-Some.ensures.entry in
    let ne : c.args.to ≡ c.args.from → ⊥ = search rules in
    let still = other_slot (process c.args.man.now.procs c.args.pid.0) (process c.make_free.new.man.procs c.args.pid.0) c.args.to c.args.from ne c.in_ok-make_free.ensures.process in
    let shared : c.dup.new.self ≡ managed_after shares c.make_free.new.man =
    subst (λ (o : Option FdEntry). IfSome o (λ e. c.dup.new.self ≡ managed_after (Shares c.args.pid.0 c.args.to e.desc (c.args.flags == O_CLOEXEC)) c.make_free.new.man)) (still ∙ from) c.dup.ensures in
    record {
      effects = free ++ shares ∷ [];
      row_is = row;
      did = g.met.M.Machine.lawful.both c.args.machine.now c.make_free.new.machine c.make_free.new.machine free (shares ∷ []) (c.in_ok-make_free.ensures.closes (with_held held k)) (g.met.M.Machine.lawful.apart c.make_free.new.machine shares refl);
      managed = managed-append free (shares ∷ []) c.args.man.now ∙ ap (managed_after shares) (c.in_ok-make_free.ensures.managed (with_held held k)) ∙ sym shared;
    })

pub returns-clause-stops : goal.returns-clause-stops
returns-clause-stops g c k = ran_stops g.M.Machine.held g.M.Machine.does g.M.Machine.stops g.met.M.Machine.lawful _ _ _ _ (process c.args.man.now.procs c.args.pid.0) _ _ (λ es. refl) (returns-clause-answers g c k)
