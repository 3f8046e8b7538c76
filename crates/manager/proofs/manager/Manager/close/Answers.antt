use Rattle.std.proofs.Common.{◌≡◌, ◌==◌, ◌∙◌, ap, subst, sym, rules, None, Some, slice_index, [], ◌∷◌, Option, Bool, cond, arith}
use Rattle.lego_base.specs.declared.ids.FileNo.{FileNo}
use Rattle.kernel_objects.specs.Slots.{slot, freed}
use Rattle.linux_model.specs.Descriptors.{closing}
use Rattle.linux_model.specs.Effects.{Closes}
use Rattle.linux_model.specs.Managed.{Managed, managed_after, with_managed}
use Rattle.linux_model.specs.Processes.{fds_of, process}
use Rattle.proc_table.specs.Entries.{Table}
use Rattle.manager.specs.Sound.{managed_of}
use Rattle.manager.specs.Tables.{DescTable}
use Rattle.manager.specs.Words.{file_left, frees}
use Rattle.manager.proofs.Closing.{closed_none, open_below, open_counted, reads_fewer, writes_fewer}
use Rattle.manager.proofs.Closed.{not_last, was_last, still_sound, still_effect, last_sound, last_effect, pipe_there, closing_none, closing_still, closing_last, holds, Holds, IsLast}
use Rattle.manager.proofs.Open.{entry_there}
use Rattle.manager.proofs.manager.Manager.close.Goals as goal

pub returns-in_err-entry-clause-closed : goal.returns-in_err-entry-clause-closed
returns-in_err-entry-clause-closed c =
    let m : Managed = managed_of c.self.inside.procs c.self.inside.descs c.self.inside.pipes c.self.inside.input c.self.inside.exits.items in
    let none : slot (fds_of (process c.self.inside.procs.procs c.args.pid.0)) c.args.fd ≡ None = search rules in
    let same : managed_after (Closes c.args.pid.0 c.args.fd) m ≡ m = closed_none m c.args.pid.0 c.args.fd c.self.invariant.counted.pids none in
    subst (λ (n : Managed). n ≡ managed_after (Closes c.args.pid.0 c.args.fd) n) c.self.view_is (sym same)

pub returns-in_err-entry-clause-frees : goal.returns-in_err-entry-clause-frees
returns-in_err-entry-clause-frees c = λ k.
    let m : Managed = managed_of c.self.inside.procs c.self.inside.descs c.self.inside.pipes c.self.inside.input c.self.inside.exits.items in
    let none : slot (fds_of (process c.self.inside.procs.procs c.args.pid.0)) c.args.fd ≡ None = search rules in
    let same : managed_after (Closes c.args.pid.0 c.args.fd) m ≡ m = closed_none m c.args.pid.0 c.args.fd c.self.invariant.counted.pids none in
    let is = closing_none m c.args.pid.0 c.args.fd k same none in
    subst (λ (n : Managed). closing c.args.pid.0 c.args.fd (with_managed n k) ≡ Closes c.args.pid.0 c.args.fd ∷ []) c.self.view_is is
    ∙ ap (λ (r : Option FileNo). Closes c.args.pid.0 c.args.fd ∷ frees r) (sym c.from_residual.ensures)

pub set_fd-requires : goal.set_fd-requires
set_fd-requires c =
    let is_open : slot (fds_of (process c.self.inside.procs.procs c.args.pid.0)) c.args.fd ≡ Some c.in_ok-entry.entry = search rules in
    open_below c.self.inside.procs c.self.inside.descs c.self.inside.pipes c.args.pid.0 c.args.fd c.in_ok-entry.entry c.self.invariant.counted is_open

pub let_go-requires-clause-there : goal.let_go-requires-clause-there
let_go-requires-clause-there c =
    let is_open : slot (fds_of (process c.self.inside.procs.procs c.args.pid.0)) c.args.fd ≡ Some c.in_ok-entry.entry = search rules in
    entry_there c.self.inside.descs.descs c.self.inside.procs.procs c.args.pid.0 c.args.fd c.in_ok-entry.entry c.self.invariant.counted.procs is_open

pub let_go-requires-clause-refs : goal.let_go-requires-clause-refs
let_go-requires-clause-refs c =
    let is_open : slot (fds_of (process c.self.inside.procs.procs c.args.pid.0)) c.args.fd ≡ Some c.in_ok-entry.entry = search rules in
    open_counted c.self.inside.procs c.self.inside.descs c.self.inside.pipes c.args.pid.0 c.args.fd c.in_ok-entry.entry c.self.invariant.counted is_open

pub invariant_of-self : goal.invariant_of-self
invariant_of-self c =
    let e = c.in_ok-entry.entry in
    let d = c.self.inside.descs in
    let is_open : slot (fds_of (process c.self.inside.procs.procs c.args.pid.0)) c.args.fd ≡ Some e = search rules in
    let there = entry_there d.descs c.self.inside.procs.procs c.args.pid.0 c.args.fd e c.self.invariant.counted.procs is_open in
    let isnt = not_last (slice_index d.refs e.desc == 1) (slot d.descs e.desc) there (sym c.let_go.ensures.ended ∙ c.in_err-ended.was) in
    still_sound c.self.inside.procs d c.self.inside.pipes c.set_fd.new.self c.let_go.new.self c.args.pid.0 c.args.fd e is_open (slice_index d.refs e.desc == 1) isnt
    c.set_fd.ensures c.let_go.ensures.descs c.let_go.ensures.refs c.self.invariant

pub returns-in_err-ended-clause-closed : goal.returns-in_err-ended-clause-closed
returns-in_err-ended-clause-closed c =
    let e = c.in_ok-entry.entry in
    let d = c.self.inside.descs in
    let is_open : slot (fds_of (process c.self.inside.procs.procs c.args.pid.0)) c.args.fd ≡ Some e = search rules in
    let there = entry_there d.descs c.self.inside.procs.procs c.args.pid.0 c.args.fd e c.self.invariant.counted.procs is_open in
    let isnt = not_last (slice_index d.refs e.desc == 1) (slot d.descs e.desc) there (sym c.let_go.ensures.ended ∙ c.in_err-ended.was) in
    sym (still_effect c.self.inside.procs d c.self.inside.pipes c.set_fd.new.self c.let_go.new.self c.self.inside.input c.self.inside.exits.items c.args.pid.0 c.args.fd e is_open isnt
    c.set_fd.ensures c.let_go.ensures.descs c.self.invariant.counted) ∙ ap (managed_after (Closes c.args.pid.0 c.args.fd)) c.self.view_is

pub returns-in_err-ended-clause-frees : goal.returns-in_err-ended-clause-frees
returns-in_err-ended-clause-frees c = λ k.
    let e = c.in_ok-entry.entry in
    let t : Table = c.self.inside.procs in
    let d : DescTable = c.self.inside.descs in
    let m : Managed = managed_of t d c.self.inside.pipes c.self.inside.input c.self.inside.exits.items in
    let m' : Managed = managed_of c.set_fd.new.self c.let_go.new.self c.self.inside.pipes c.self.inside.input c.self.inside.exits.items in
    let is_open : slot (fds_of (process t.procs c.args.pid.0)) c.args.fd ≡ Some e = search rules in
    let there = entry_there d.descs t.procs c.args.pid.0 c.args.fd e c.self.invariant.counted.procs is_open in
    let isnt = not_last (slice_index d.refs e.desc == 1) (slot d.descs e.desc) there (sym c.let_go.ensures.ended ∙ c.in_err-ended.was) in
    let after : managed_after (Closes c.args.pid.0 c.args.fd) m ≡ m' =
    still_effect t d c.self.inside.pipes c.set_fd.new.self c.let_go.new.self c.self.inside.input c.self.inside.exits.items c.args.pid.0 c.args.fd e is_open isnt c.set_fd.ensures c.let_go.ensures.descs c.self.invariant.counted in
    let x : Holds d.descs e.desc = holds d.descs e.desc there in
    let same = c.let_go.ensures.descs ∙ ap (λ (b : Bool). cond b (freed d.descs e.desc) d.descs) isnt in
    let is = closing_still m m' c.args.pid.0 c.args.fd k e x.x after is_open x.is same in
    subst (λ (n : Managed). closing c.args.pid.0 c.args.fd (with_managed n k) ≡ Closes c.args.pid.0 c.args.fd ∷ []) c.self.view_is is
    ∙ ap (λ (r : Option FileNo). Closes c.args.pid.0 c.args.fd ∷ frees r) (sym c.from_residual-in_err-ended.ensures)

pub end-requires-clause-there : goal.end-requires-clause-there
end-requires-clause-there c =
    let e = c.in_ok-entry.entry in
    let d = c.self.inside.descs in
    let last : IsLast (slice_index d.refs e.desc == 1) (slot d.descs e.desc) c.in_ok-ended.ended = was_last (slice_index d.refs e.desc == 1) (slot d.descs e.desc) c.in_ok-ended.ended (sym c.let_go.ensures.ended ∙ c.in_ok-ended.was) in
    pipe_there c.self.inside.procs d c.self.inside.pipes c.in_ok-ended.ended.object c.self.invariant.counted
    (λ n. let r = reads_fewer n e.desc c.in_ok-ended.ended d.descs last.is in omega (arith, r))
    (λ n. let w = writes_fewer n e.desc c.in_ok-ended.ended d.descs last.is in omega (arith, w))

pub end-requires-clause-readers : goal.end-requires-clause-readers
end-requires-clause-readers c = λ n.
    let e = c.in_ok-entry.entry in
    let d = c.self.inside.descs in
    let last : IsLast (slice_index d.refs e.desc == 1) (slot d.descs e.desc) c.in_ok-ended.ended = was_last (slice_index d.refs e.desc == 1) (slot d.descs e.desc) c.in_ok-ended.ended (sym c.let_go.ensures.ended ∙ c.in_ok-ended.was) in
    let r = reads_fewer n e.desc c.in_ok-ended.ended d.descs last.is in
    let counted = c.self.invariant.counted.reading n in
    omega (arith, r, counted)

pub end-requires-clause-writers : goal.end-requires-clause-writers
end-requires-clause-writers c = λ n.
    let e = c.in_ok-entry.entry in
    let d = c.self.inside.descs in
    let last : IsLast (slice_index d.refs e.desc == 1) (slot d.descs e.desc) c.in_ok-ended.ended = was_last (slice_index d.refs e.desc == 1) (slot d.descs e.desc) c.in_ok-ended.ended (sym c.let_go.ensures.ended ∙ c.in_ok-ended.was) in
    let w = writes_fewer n e.desc c.in_ok-ended.ended d.descs last.is in
    let counted = c.self.invariant.counted.writing n in
    omega (arith, w, counted)

pub invariant_of-self-2 : goal.invariant_of-self-2
invariant_of-self-2 c =
    let e = c.in_ok-entry.entry in
    let d = c.self.inside.descs in
    let is_open : slot (fds_of (process c.self.inside.procs.procs c.args.pid.0)) c.args.fd ≡ Some e = search rules in
    let last : IsLast (slice_index d.refs e.desc == 1) (slot d.descs e.desc) c.in_ok-ended.ended = was_last (slice_index d.refs e.desc == 1) (slot d.descs e.desc) c.in_ok-ended.ended (sym c.let_go.ensures.ended ∙ c.in_ok-ended.was) in
    last_sound c.self.inside.procs d c.self.inside.pipes c.set_fd.new.self c.let_go.new.self c.end.new.self c.args.pid.0 c.args.fd e c.in_ok-ended.ended is_open last
    c.set_fd.ensures c.let_go.ensures.descs c.let_go.ensures.refs c.end.ensures.pipes c.end.ensures.readers c.end.ensures.writers c.self.invariant

pub returns-clause-closed : goal.returns-clause-closed
returns-clause-closed c =
    let e = c.in_ok-entry.entry in
    let d = c.self.inside.descs in
    let is_open : slot (fds_of (process c.self.inside.procs.procs c.args.pid.0)) c.args.fd ≡ Some e = search rules in
    let last : IsLast (slice_index d.refs e.desc == 1) (slot d.descs e.desc) c.in_ok-ended.ended = was_last (slice_index d.refs e.desc == 1) (slot d.descs e.desc) c.in_ok-ended.ended (sym c.let_go.ensures.ended ∙ c.in_ok-ended.was) in
    sym (last_effect c.self.inside.procs d c.self.inside.pipes c.set_fd.new.self c.let_go.new.self c.end.new.self c.self.inside.input c.self.inside.exits.items c.args.pid.0 c.args.fd e c.in_ok-ended.ended is_open last
    c.set_fd.ensures c.let_go.ensures.descs c.end.ensures.pipes c.end.ensures.readers c.end.ensures.writers c.self.invariant.counted) ∙ ap (managed_after (Closes c.args.pid.0 c.args.fd)) c.self.view_is

pub returns-clause-frees : goal.returns-clause-frees
returns-clause-frees c = λ k.
    let e = c.in_ok-entry.entry in
    let t : Table = c.self.inside.procs in
    let d : DescTable = c.self.inside.descs in
    let m : Managed = managed_of t d c.self.inside.pipes c.self.inside.input c.self.inside.exits.items in
    let m' : Managed = managed_of c.set_fd.new.self c.let_go.new.self c.end.new.self c.self.inside.input c.self.inside.exits.items in
    let is_open : slot (fds_of (process t.procs c.args.pid.0)) c.args.fd ≡ Some e = search rules in
    let last : IsLast (slice_index d.refs e.desc == 1) (slot d.descs e.desc) c.in_ok-ended.ended = was_last (slice_index d.refs e.desc == 1) (slot d.descs e.desc) c.in_ok-ended.ended (sym c.let_go.ensures.ended ∙ c.in_ok-ended.was) in
    let after : managed_after (Closes c.args.pid.0 c.args.fd) m ≡ m' =
    last_effect t d c.self.inside.pipes c.set_fd.new.self c.let_go.new.self c.end.new.self c.self.inside.input c.self.inside.exits.items c.args.pid.0 c.args.fd e c.in_ok-ended.ended is_open last
    c.set_fd.ensures c.let_go.ensures.descs c.end.ensures.pipes c.end.ensures.readers c.end.ensures.writers c.self.invariant.counted in
    let is = closing_last m m' c.args.pid.0 c.args.fd k e c.in_ok-ended.ended after is_open last.is in
    subst (λ (n : Managed). closing c.args.pid.0 c.args.fd (with_managed n k) ≡ Closes c.args.pid.0 c.args.fd ∷ frees (file_left c.in_ok-ended.ended.object c.let_go.new.self.descs)) c.self.view_is is
    ∙ ap (λ (r : Option FileNo). Closes c.args.pid.0 c.args.fd ∷ frees r) (sym c.file_left.ensures)
