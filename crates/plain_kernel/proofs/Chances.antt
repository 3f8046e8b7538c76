-- Every turn of a run on a booted kernel may come.
use Rattle.std.proofs.Common.{◌≡◌, ℕ, suc, ◌+◌, ◌<◌, ◌≤◌, true, refl, sym, ◌∙◌, ap, subst, List, [], Option, Some, None, IfSome, arith}
use Rattle.lego_base.specs.Space.{Space, no_space}
use Rattle.lego_base.specs.declared.report.FileOut.{FileOut}
use Rattle.lego_base.specs.declared.sizes.TheConstants.{USER_END}
use Rattle.elf_image.specs.Image.{Program}
use Rattle.kernel_objects.specs.Slots.{picks}
use Rattle.kernel_objects.specs.declared.process.Waiting.{Waiting}
use Rattle.linux_model.specs.State.{Kernel, Process}
use Rattle.linux_model.specs.Processes.{is_live, process}
use Rattle.linux_model.specs.Effects.{Effect, applies}
use Rattle.linux_model.specs.Loading.{break_of}
use Rattle.linux_model.specs.Boot.{boot_of}
use Rattle.linux_model.specs.Turns.{Schedule, flat, ready, whose}
use Rattle.linux_model.specs.Fits.{Fits}
use Rattle.linux_model.specs.Held.{Held, held_in, held_after_all}
use Rattle.linux_model.specs.Managed.{Managed, managed_in, managed_after_all}
use Rattle.linux_model.proofs.Holding.{held_goes_alone}
use Rattle.linux_model.proofs.Managing.{managed_goes_alone}
use Rattle.linux_model.proofs.fits.Runs.{every_fits}
use Rattle.manager.specs.Words.{is_alive}
use Rattle.call_machine.proofs.Rows.{for_process}
use Rattle.sys_calls.specs.Ready.{CanCall}
use Rattle.kernel_laws.specs.Laws.{MayCall, ran_before}
use Rattle.kernel_laws.proofs.Breaks.{break_found}
use Rattle.kernel_laws.proofs.Ready.{Acts, who_acts}
use Rattle.kernel_laws.proofs.Within.{may_call}
use Rattle.plain_kernel.specs.Runs.{TurnsMayCome}
use Rattle.plain_kernel.specs.Turns.{CanTurn, before_call}

-- a process that is there and lives is alive
alive : (procs : List Process) (pid : ℕ) (p : Process) → process procs pid ≡ Some p → is_live p.state ≡ true → picks (λ p. is_live p.state) (process procs pid) ≡ true
alive procs pid p there lives = ap (λ (o : Option Process). picks (λ p. is_live p.state) o) there ∙ lives

-- a call may come
can_call : (n : ℕ) (p : Process) (k : Kernel) → n < 10000000 → MayCall n p k → CanCall p.pid (managed_in k) (held_in k)
can_call n p k low may = record {
  alive = alive k.procs p.pid p may.there may.lives;
  fit = λ k'. may.fits;
  fork = record {
    last = let few : k.last ≤ n + 1 = may.few in omega (arith, few, low);
    bare = may.none_above (k.last + 1) (omega arith);
  };
  low = for_process (process k.procs p.pid) (λ q. q.brk.now ≤ USER_END) (λ q there. break_found k.procs p.pid q may.breaks there);
}

-- what happens before the call of a turn
same_before : (schedule : Schedule) (p : Process) (w : Option Waiting) (k : Kernel) → (ran_before schedule p w k).effects ≡ before_call schedule.quantum p w k.space
same_before schedule p None k = refl
same_before schedule p (Some w) k = refl

module _ (schedule : Schedule) (program : Program) (args env : List (List ℕ)) (files : List FileOut) (input : List ℕ) (low : (break_of program).now ≤ USER_END) (few : schedule.max_turns ≤ 10000000) where
  abbrev after : ℕ → Kernel
  after n = flat schedule (boot_of program args env files input) n

  can_turn : (n : ℕ) (p : Process) → n < schedule.max_turns → whose schedule (suc n) (after n).procs (ready (after n)) ≡ Some p → CanTurn schedule p.pid (managed_in (after n)) (held_in (after n))
  can_turn n p less is =
      let k : Kernel = after n in
      let fits : Fits k = every_fits schedule program args env files input n in
      let acts : Acts k p = who_acts schedule (suc n) k p (ready k) fits.pids refl is in
      let es : List Effect = (ran_before schedule p p.waiting k).effects in
      let may : MayCall n (record p { cpu = (ran_before schedule p p.waiting k).cpu }) (applies es k) = may_call schedule program args env files input n p low is in
      let called : CanCall p.pid (managed_in (applies es k)) (held_in (applies es k)) = can_call n (record p { cpu = (ran_before schedule p p.waiting k).cpu }) (applies es k) (omega (arith, less, few)) may in
      let apart : CanCall p.pid (managed_after_all es (managed_in k)) (held_after_all es (held_in k)) =
      subst (λ (m : Managed). CanCall p.pid m (held_after_all es (held_in k))) (managed_goes_alone es k)
      (subst (CanCall p.pid (managed_in (applies es k))) (held_goes_alone es k) called)
      in
      record {
        alive = alive k.procs p.pid p acts.there acts.lives;
        fit = λ k'. fits;
        call = subst (λ (o : Option Process). IfSome o (λ q. CanCall p.pid (managed_after_all (before_call schedule.quantum q q.waiting k.space) (managed_in k)) (held_after_all (before_call schedule.quantum q q.waiting k.space) (held_in k)))) (sym acts.there)
            (subst (λ (es : List Effect). CanCall p.pid (managed_after_all es (managed_in k)) (held_after_all es (held_in k))) (same_before schedule p p.waiting k) apart);
      }

  pub turns_may_come : TurnsMayCome schedule (boot_of program args env files input)
  turns_may_come n less = for_process (whose schedule (suc n) (after n).procs (ready (after n))) (λ p. CanTurn schedule p.pid (managed_in (after n)) (held_in (after n))) (λ p is. can_turn n p less is)
