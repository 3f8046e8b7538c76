-- A group of calls in its turn: those before it left all as it was.
use Rattle.std.proofs.Common.{◌≡◌, ℕ, Bool, true, false, sym, ◌∙◌, ap, subst, List, Option, Some, None, IfSome, is_some}
use Rattle.rv64_step.specs.Meaning.{reg}
use Rattle.linux_model.specs.State.{Kernel, Process}
use Rattle.linux_model.specs.Processes.{process}
use Rattle.linux_model.specs.Effects.{Effect}
use Rattle.linux_model.specs.Calls.{call_by, row}
use Rattle.linux_model.specs.Held.{Held}
use Rattle.linux_model.specs.Managed.{Managed}
use Rattle.call_machine.specs.declared.end.CallEnd.{CallEnd}
use Rattle.call_machine.specs.declared.end.CallEnd.TheVariants.{Value, Goes, Waits, Dies}
use Rattle.call_machine.specs.Laws.{effects_of}
use Rattle.call_machine.specs.Lent.{Ran, ended, kernel_of}
use Rattle.call_parts.specs.Numbered.{CanDie, IfDies}
use Rattle.sys_calls.specs.Ready.{CanCall}

-- what holds where a process dies leads to something else
pub dies_as : (end : CallEnd) (P Q : Type 0) → (P → Q) → IfDies end P → IfDies end Q
dies_as (Dies status) P Q f h = f h
dies_as other P Q f h = tt

-- who can call can die
pub can_die : (pid : ℕ) (man : Managed) (held : Held) → CanCall pid man held → CanDie man held pid
can_die pid man held can = record { alive = can.alive; fit = can.fit }

-- a call that ended is one of the group
pub is_of : (is_mine : ℕ → Bool) (o : Option Process) (found : Option CallEnd) (end : CallEnd) → found ≡ Some end → IfSome o (λ p. is_some found ≡ is_mine (reg p.cpu 17)) → IfSome o (λ p. is_mine (reg p.cpu 17) ≡ true)
is_of is_mine (Some p) found end is h = sym h ∙ ap is_some is
is_of is_mine None found end is h = h

-- a call that did nothing before a death leaves who can die
pub dies_found : {X : Type 0} (held : X → Held) (old new : X) (man man' : Managed) (pid : ℕ) → CanCall pid man (held old) → (found : Option CallEnd) (end : CallEnd) → found ≡ Some end → IfSome found (λ e. IfDies e ((new ≡ old) × (man' ≡ man))) → IfDies end (CanDie man' (held new) pid)
dies_found held old new man man' pid can found end is h =
    dies_as end ((new ≡ old) × (man' ≡ man)) (CanDie man' (held new) pid)
    (λ same. subst (λ (m : Managed). CanDie m (held new) pid) (sym same.1) (subst (λ a. CanDie man (held a) pid) (sym same.0) (can_die pid man (held old) can)))
    (subst (λ (o : Option CallEnd). IfSome o (λ e. IfDies e ((new ≡ old) × (man' ≡ man)))) is h)

module _ {X : Type 0} (held : X → Held) (does stops : X → X → List Effect → Type 0) (old mid new : X) (man now man' : Managed) (pid : ℕ) (same : mid ≡ old) (same_man : now ≡ man) where
  -- who could call at first can now
  pub can_still : CanCall pid man (held old) → CanCall pid now (held mid)
  can_still can = subst (λ (m : Managed). CanCall pid m (held mid)) (sym same_man) (subst (λ (a : X). CanCall pid man (held a)) (sym same) can)

  -- a call ended, and stopped, as from what was at first
  pub ends_in_turn : (found : Option CallEnd) (end : CallEnd) (k : Kernel) → found ≡ Some end
      → IfSome (process now.procs pid) (λ p. IfSome found (λ e. Ran does mid new now man' (row (call_by p) p (kernel_of now (held mid) k)) (ended e)))
      → IfSome (process man.procs pid) (λ p. Ran does old new man man' (row (call_by p) p (kernel_of man (held old) k)) (ended end))
  ends_in_turn found end k is h =
      subst (λ (a : X). IfSome (process man.procs pid) (λ p. Ran does a new man man' (row (call_by p) p (kernel_of man (held a) k)) (ended end))) same
      (subst (λ (m : Managed). IfSome (process m.procs pid) (λ p. Ran does mid new m man' (row (call_by p) p (kernel_of m (held mid) k)) (ended end))) same_man
      (subst (λ (o : Option CallEnd). IfSome (process now.procs pid) (λ p. IfSome o (λ e. Ran does mid new now man' (row (call_by p) p (kernel_of now (held mid) k)) (ended e)))) is h))

  both_hold : (is_mine : ℕ → Bool) (o : Option Process) (Q : Process → Type 0) → IfSome o (λ p. is_mine (reg p.cpu 17) ≡ true) → IfSome o (λ p. is_mine (reg p.cpu 17) ≡ true → Q p) → IfSome o Q
  both_hold is_mine (Some p) Q mine h = h mine
  both_hold is_mine None Q mine h = h

  pub stops_in_turn : (is_mine : ℕ → Bool) (k : Kernel)
      → IfSome (process now.procs pid) (λ p. is_mine (reg p.cpu 17) ≡ true)
      → IfSome (process now.procs pid) (λ p. is_mine (reg p.cpu 17) ≡ true → stops mid new (effects_of (row (call_by p) p (kernel_of now (held mid) k))))
      → IfSome (process man.procs pid) (λ p. stops old new (effects_of (row (call_by p) p (kernel_of man (held old) k))))
  stops_in_turn is_mine k mine h =
      subst (λ (a : X). IfSome (process man.procs pid) (λ p. stops a new (effects_of (row (call_by p) p (kernel_of man (held a) k))))) same
      (subst (λ (m : Managed). IfSome (process m.procs pid) (λ p. stops mid new (effects_of (row (call_by p) p (kernel_of m (held mid) k))))) same_man
      (both_hold is_mine (process now.procs pid) (λ p. stops mid new (effects_of (row (call_by p) p (kernel_of now (held mid) k)))) mine h))
