-- Effects on what is managed and on what is held are those on the kernel.
use Rattle.std.proofs.Common.{◌≡◌, ℕ, true, false, refl, sym, ◌∙◌, ap, subst, List, [], ◌++◌, Option, Some, None, is_some, IfSome, Result, Ok, Err, OnOk}
use Rattle.lego_base.specs.Space.{Space, with_space}
use Rattle.rv64_step.specs.declared.cpu.Cpu.{Cpu}
use Rattle.rv64_step.specs.declared.cpu.StepEnd.{StepEnd}
use Rattle.kernel_objects.specs.declared.process.Waiting.{Waiting}
use Rattle.flat_memory.specs.Spaces.{spaces_of}
use Rattle.linux_model.proofs.Spaces.{with_is}
use Rattle.linux_model.specs.Agrees.{Agrees}
use Rattle.linux_model.specs.State.{Kernel, Process, Written, unbooted}
use Rattle.kernel_objects.specs.Slots.{picks}
use Rattle.linux_model.specs.Processes.{at_pid, is_live, process}
use Rattle.linux_model.specs.Effects.{Effect, Goes, applies}
use Rattle.linux_model.specs.Held.{Held, held_in, held_after_all}
use Rattle.linux_model.specs.Managed.{Managed, managed_in, managed_after, managed_after_all}
use Rattle.linux_model.specs.Instructions.{Ran}
use Rattle.linux_model.specs.Calls.{call_effects}
use Rattle.linux_model.specs.Turns.{Schedule, acts, at_stop}
use Rattle.linux_model.proofs.Managing.{managed_goes_alone, managed-append}
use Rattle.linux_model.proofs.Holding.{held_goes_alone}
use Rattle.call_machine.specs.Lent.{FitTogether, kernel_of}
use Rattle.call_machine.proofs.Rows.{each_process, of_process}
use Rattle.sys_calls.specs.Ready.{CanCall}
use Rattle.kernel_laws.specs.Laws.{with_ran}
use Rattle.kernel_laws.proofs.Placed.{instructions_place}
use Rattle.plain_machine.specs.Plain.{held_of, Did}
use Rattle.plain_machine.specs.Shown.{after_puts}
use Rattle.plain_machine.specs.Lawful.{lawful}
use Rattle.plain_machine.proofs.Writing.{puts_are_written}
use Rattle.plain_kernel.specs.declared.kernel.PlainKernel.{PlainKernel}
use Rattle.plain_kernel.specs.Standing.{over}
use Rattle.plain_kernel.specs.Turns.{Turned, Instructed, CanTurn, acts_in, ran_in, before_call}

pub turned_over : (old new : PlainKernel) (es : List Effect) (k : Kernel) → Turned old new es → over new (applies es (over old k)) ≡ applies es (over old k)
turned_over old new es k t =
    let after : Kernel = applies es (over old k) in
    let man : new.manager ≡ managed_in after = sym t.managed ∙ sym (managed_goes_alone es (over old k)) in
    let held : held_of new.machine ≡ held_in after = t.did.led ∙ sym (held_goes_alone es (over old k)) in
    λ i. kernel_of (man i) (held i) after

pub turned_none : (a : PlainKernel) → Turned a a []
turned_none a = record { did = lawful.none a.machine; managed = refl }

pub turned_both : (a b c : PlainKernel) (es fs : List Effect) → Turned a b es → Turned b c fs → Turned a c (es ++ fs)
turned_both a b c es fs s t = record {
  did = lawful.both a.machine b.machine c.machine es fs s.did t.did;
  managed = managed-append es fs a.manager ∙ ap (managed_after_all fs) s.managed ∙ t.managed;
}

-- ---- a turn

-- instructions, then what their end leads to
pub acts_end : (schedule : Schedule) (p : Process) (old mid new : PlainKernel) (k : Kernel) (stop : StepEnd) → p.waiting ≡ None → Instructed schedule.quantum p old mid stop → ((k' : Kernel) → Turned mid new (at_stop stop p.pid (over mid k'))) → Turned old new (acts_in schedule p (over old k))
acts_end schedule p old mid new k stop none ran ends =
    let r : Ran = ran_in schedule.quantum p (held_of old.machine).space in
    let after : Kernel = applies r.effects (over old k) in
    let last : Turned mid new (at_stop stop p.pid after) = subst (λ (k' : Kernel). Turned mid new (at_stop stop p.pid k')) (turned_over old mid r.effects k ran.turned) (ends after) in
    let ended : Turned mid new (at_stop r.stop p.pid after) = subst (λ (s : StepEnd). Turned mid new (at_stop s p.pid after)) (sym ran.stops) last in
    let whole : Turned old new (acts schedule p None (over old k)) = turned_both old mid new r.effects (at_stop r.stop p.pid after) ran.turned ended in
    subst (λ (w : Option Waiting). Turned old new (acts schedule p w (over old k))) (sym none) whole

-- a kept call
pub acts_kept : (schedule : Schedule) (p : Process) (old new : PlainKernel) (k : Kernel) (w : Waiting) → p.waiting ≡ Some w → Turned old new (call_effects (Some p) (over old k)) → Turned old new (acts_in schedule p (over old k))
acts_kept schedule p old new k w some t = subst (λ (w : Option Waiting). Turned old new (acts schedule p w (over old k))) (sym some) t

-- ---- instructions

pub ran_is : (quantum : ℕ) (p : Process) (old new : PlainKernel) (stop : StepEnd) (cpu : Cpu) → FitTogether old.manager (held_of old.machine) → process old.manager.procs p.pid ≡ Some p → ((q : ℕ) → (q ≡ p.pid → ⊥) → spaces_of new.machine.memory q ≡ spaces_of old.machine.memory q) → Agrees (ran_in quantum p (held_of old.machine).space) stop cpu (spaces_of new.machine.memory p.pid) → new.machine.files ≡ old.machine.files → new.machine.output ≡ old.machine.output → new.manager ≡ managed_after (Goes p.pid cpu) old.manager → Instructed quantum p old new stop
ran_is quantum p old new stop cpu fit there others agrees files output manager =
    let r : Ran = ran_in quantum p (held_of old.machine).space in
    let k : Kernel = over old (unbooted []) in
    let places : applies r.effects k ≡ with_ran p.pid r k = instructions_place quantum p k (fit (unbooted [])).pids there in
    let spaces : spaces_of new.machine.memory ≡ with_space (spaces_of old.machine.memory) p.pid r.space = with_is (spaces_of new.machine.memory) (spaces_of old.machine.memory) p.pid r.space (sym agrees.sees) others in
    let holds : held_of new.machine ≡ held_in (with_ran p.pid r k) = λ i. record { space = spaces i; files = (files i).files; names = (files i).names; next = (files i).next } in
    let silent : (after_puts r.effects old.machine.output.written) ≡ old.machine.output.written = sym (puts_are_written r.effects (record k { written = old.machine.output.written })) ∙ ap (λ (k : Kernel). k.written) (instructions_place quantum p (record k { written = old.machine.output.written }) (fit (unbooted [])).pids there) in
    record {
      stops = agrees.stops;
      turned = record {
        did = record {
          led = holds ∙ ap held_in (sym places) ∙ held_goes_alone r.effects k;
          shows = λ kept. (sym (ap (λ o. o.lost) output) ∙ kept, ap (λ o. o.written) output ∙ sym silent);
        };
        managed = sym (managed_goes_alone r.effects k) ∙ ap managed_in places ∙ ap (λ (c : Cpu). managed_after (Goes p.pid c) old.manager) agrees.left ∙ sym manager;
      };
    }

-- ---- what a turn rests on

is_kept : (schedule : Schedule) (p : Process) (old new : PlainKernel) (k : Kernel) (w : Option Waiting) → is_some w ≡ true → Turned old new (call_effects (Some p) (over old k)) → Turned old new (acts schedule p w (over old k))
is_kept schedule p old new k (Some w) is t = t
is_kept schedule p old new k None is t = cc is

is_none : (w : Option Waiting) → is_some w ≡ false → w ≡ None
is_none None is = refl
is_none (Some w) is = cc is

-- the call of a turn that keeps one
pub turn_kept : (schedule : Schedule) (pid : ℕ) (old new : PlainKernel) (k : Kernel) (waiting : Option Waiting) → is_some waiting ≡ true → IfSome (process old.manager.procs pid) (λ p. waiting ≡ p.waiting) → Turned old new (call_effects (process old.manager.procs pid) (over old k)) → IfSome (process old.manager.procs pid) (λ p. Turned old new (acts_in schedule p (over old k)))
turn_kept schedule pid old new k waiting some same t =
    each_process old.manager pid (λ p. Turned old new (acts_in schedule p (over old k))) (λ p is there.
    let kept : is_some p.waiting ≡ true = ap (λ (w : Option Waiting). is_some w) (sym (of_process old.manager pid (λ p. waiting ≡ p.waiting) p there same)) ∙ some in
    is_kept schedule p old new k p.waiting kept (subst (λ (o : Option Process). Turned old new (call_effects o (over old k))) there t))

-- the end of a turn that ran
pub turn_ran : (schedule : Schedule) (pid : ℕ) (old mid new : PlainKernel) (k : Kernel) (waiting : Option Waiting) (stop : StepEnd) → is_some waiting ≡ false → IfSome (process old.manager.procs pid) (λ p. waiting ≡ p.waiting) → IfSome (process old.manager.procs pid) (λ p. Instructed schedule.quantum p old mid stop) → ((k' : Kernel) → Turned mid new (at_stop stop pid (over mid k'))) → IfSome (process old.manager.procs pid) (λ p. Turned old new (acts_in schedule p (over old k)))
turn_ran schedule pid old mid new k waiting stop none same ran ends =
    each_process old.manager pid (λ p. Turned old new (acts_in schedule p (over old k))) (λ p is there.
    let unkept : p.waiting ≡ None = sym (of_process old.manager pid (λ p. waiting ≡ p.waiting) p there same) ∙ is_none waiting none in
    acts_end schedule p old mid new k stop unkept (of_process old.manager pid (λ p. Instructed schedule.quantum p old mid stop) p there ran)
    (λ k'. subst (λ (q : ℕ). Turned mid new (at_stop stop q (over mid k'))) (sym is) (ends k')))

-- where the instructions are over the call may come
pub may_call : (schedule : Schedule) (pid : ℕ) (old mid : PlainKernel) (waiting : Option Waiting) (stop : StepEnd) (p : Process) → is_some waiting ≡ false → process old.manager.procs pid ≡ Some p → IfSome (process old.manager.procs pid) (λ p. waiting ≡ p.waiting) → IfSome (process old.manager.procs pid) (λ p. Instructed schedule.quantum p old mid stop) → CanTurn schedule pid old.manager (held_of old.machine) → CanCall pid mid.manager (held_of mid.machine)
may_call schedule pid old mid waiting stop p none there same ran can =
    let space = (held_of old.machine).space in
    let unkept : p.waiting ≡ None = sym (of_process old.manager pid (λ p. waiting ≡ p.waiting) p there same) ∙ is_none waiting none in
    let t : Turned old mid (ran_in schedule.quantum p space).effects = (of_process old.manager pid (λ p. Instructed schedule.quantum p old mid stop) p there ran).turned in
    let call : CanCall pid (managed_after_all (before_call schedule.quantum p p.waiting space) old.manager) (held_after_all (before_call schedule.quantum p p.waiting space) (held_of old.machine)) =
    of_process old.manager pid (λ p. CanCall pid (managed_after_all (before_call schedule.quantum p p.waiting space) old.manager) (held_after_all (before_call schedule.quantum p p.waiting space) (held_of old.machine))) p there can.call
    in
    let ran_first : CanCall pid (managed_after_all (ran_in schedule.quantum p space).effects old.manager) (held_after_all (ran_in schedule.quantum p space).effects (held_of old.machine)) =
    subst (λ (w : Option Waiting). CanCall pid (managed_after_all (before_call schedule.quantum p w space) old.manager) (held_after_all (before_call schedule.quantum p w space) (held_of old.machine))) unkept call
    in
    subst (λ (m : Managed). CanCall pid m (held_of mid.machine)) t.managed
    (subst (λ (h : Held). CanCall pid (managed_after_all (ran_in schedule.quantum p space).effects old.manager) h) (sym t.did.led) ran_first)

-- what follows from what a success says for every kernel
pub on_all : {A E : Type 0} (P : Kernel → Type 0) (Q : Type 0) (r : Result A E) → (((k : Kernel) → P k) → Q) → ((k : Kernel) → OnOk r (P k)) → OnOk r Q
on_all P Q (Ok value) f h = f h
on_all P Q (Err error) f h = tt

pub may_call_then : (schedule : Schedule) (pid : ℕ) (old mid : PlainKernel) (waiting : Option Waiting) (stop : StepEnd) → is_some waiting ≡ false → IfSome (process old.manager.procs pid) (λ p. waiting ≡ p.waiting) → IfSome (process old.manager.procs pid) (λ p. Instructed schedule.quantum p old mid stop) → CanTurn schedule pid old.manager (held_of old.machine) → CanCall pid mid.manager (held_of mid.machine)
may_call_then schedule pid old mid waiting stop none same ran can = by (process old.manager.procs pid) refl can.alive
  where
    by : (o : Option Process) → process old.manager.procs pid ≡ o → picks (λ p. is_live p.state) o ≡ true → CanCall pid mid.manager (held_of mid.machine)
    by (Some p) there alive = may_call schedule pid old mid waiting stop p none there same ran can
    by None there alive = cc alive
