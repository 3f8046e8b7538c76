-- A call on its space by the process that is there, with the break that is managed.
use Rattle.std.proofs.Common.{◌≡◌, ℕ, sym, ◌∙◌, ap, subst, true, List, Option, Some, IfSome}
use Rattle.rv64_step.specs.declared.cpu.Cpu.{Cpu}
use Rattle.rv64_step.specs.Meaning.{reg}
use Rattle.kernel_objects.specs.declared.process.Brk.{Brk}
use Rattle.linux_model.specs.State.{Kernel, Process}
use Rattle.linux_model.specs.Processes.{process}
use Rattle.linux_model.specs.Effects.{Effect, Breaks, applies}
use Rattle.linux_model.specs.Called.{Called}
use Rattle.linux_model.specs.Calls.{call_by, row}
use Rattle.linux_model.specs.Held.{Held}
use Rattle.linux_model.specs.Managed.{Managed, managed_after, managed_in}
use Rattle.linux_model.proofs.Managing.{managed_goes_alone}
use Rattle.call_machine.specs.declared.end.CallEnd.TheVariants.{Value}
use Rattle.call_machine.specs.Laws.{effects_of}
use Rattle.call_machine.specs.Lent.{FitTogether, Ran, ended, kernel_of}
use Rattle.call_machine.specs.Made.{Answered}
use Rattle.call_machine.proofs.Rows.{each_process, of_process}
use Rattle.sys_space.specs.Calls.{calling, is_space_call, kernel_with}
use Rattle.sys_space.proofs.Lent.{lent_is_there}

-- the row that a call on spaces speaks of
abbrev lent_row : ℕ → Cpu → Brk → Process → Held → Kernel → Called
lent_row pid cpu brk p h k = row (call_by (calling pid cpu brk p)) (calling pid cpu brk p) (kernel_with pid brk h k)

module _ {X : Type 0} (held : X → Held) (does stops : X → X → List Effect → Type 0) (old new : X) (man : Managed) (pid : ℕ) (cpu : Cpu) (brk : Brk) (own_cpu : IfSome (process man.procs pid) (λ p. cpu ≡ p.cpu)) (own_brk : IfSome (process man.procs pid) (λ p. brk ≡ p.brk)) (fit : FitTogether man (held old)) (k : Kernel) where
  -- the process with its own registers and break, and the kernel with the break of it
  caller_is : (p : Process) → p.pid ≡ pid → process man.procs pid ≡ Some p → calling pid cpu brk p ≡ p
  caller_is p is there = λ i. record p {
    pid = sym is i;
    cpu = of_process man pid (λ q. cpu ≡ q.cpu) p there own_cpu i;
    brk = of_process man pid (λ q. brk ≡ q.brk) p there own_brk i;
  }

  kernel_is : (p : Process) → p.pid ≡ pid → process man.procs pid ≡ Some p → kernel_with pid brk (held old) (kernel_of man (held old) k) ≡ kernel_of man (held old) k
  kernel_is p is there =
      let K : Kernel = kernel_of man (held old) k in
      let own : kernel_with pid brk (held old) K ≡ kernel_with p.pid p.brk (held old) K = λ i. kernel_with (sym is i) (of_process man pid (λ q. brk ≡ q.brk) p there own_brk i) (held old) K in
      own ∙ (lent_is_there K p (fit k).pids (ap (process man.procs) is ∙ there)).lent

  row_is : (p : Process) → p.pid ≡ pid → process man.procs pid ≡ Some p → row (call_by p) p (kernel_of man (held old) k) ≡ lent_row pid cpu brk p (held old) (kernel_of man (held old) k)
  row_is p is there = λ i. row (call_by (sym (caller_is p is there) i)) (sym (caller_is p is there) i) (sym (kernel_is p is there) i)

  break_ran : (brk' : Brk) (value : ℕ) (p : Process) → p.pid ≡ pid → process man.procs pid ≡ Some p
      → Answered does old new (lent_row pid cpu brk p (held old) (kernel_of man (held old) k)) (kernel_with pid brk (held old) (kernel_of man (held old) k)) (kernel_with pid brk' (held new) (kernel_of man (held old) k)) value
      → Ran does old new man (managed_after (Breaks pid brk'.base brk'.now) man) (row (call_by p) p (kernel_of man (held old) k)) (ended (Value value))
  break_ran brk' value p is there r = record {
    effects = r.effects;
    row_is = row_is p is there ∙ r.row_is;
    did = r.did;
    managed =
        sym (managed_goes_alone r.effects (kernel_of man (held old) k))
        ∙ ap (λ (l : Kernel). managed_in (applies r.effects l)) (sym (kernel_is p is there))
        ∙ ap managed_in r.becomes;
  }

  -- for the process that calls: how it ended, and where it stopped
  pub break_ends : (brk' : Brk) (answer : Option ℕ) (value : ℕ) → answer ≡ Some value
      → ((p : Process) (l : Kernel) → IfSome answer (Answered does old new (lent_row pid cpu brk p (held old) l) (kernel_with pid brk (held old) l) (kernel_with pid brk' (held new) l)))
      → IfSome (process man.procs pid) (λ p. Ran does old new man (managed_after (Breaks pid brk'.base brk'.now) man) (row (call_by p) p (kernel_of man (held old) k)) (ended (Value value)))
  break_ends brk' answer value is answers =
      each_process man pid (λ p. Ran does old new man (managed_after (Breaks pid brk'.base brk'.now) man) (row (call_by p) p (kernel_of man (held old) k)) (ended (Value value)))
      (λ p own there.
      let K : Kernel = kernel_of man (held old) k in
      break_ran brk' value p own there (subst (λ (o : Option ℕ). IfSome o (Answered does old new (lent_row pid cpu brk p (held old) K) (kernel_with pid brk (held old) K) (kernel_with pid brk' (held new) K))) is (answers p K)))

  pub break_stops : (is_space_call (reg cpu 17) ≡ true → (p : Process) (l : Kernel) → stops old new (effects_of (lent_row pid cpu brk p (held old) l)))
      → IfSome (process man.procs pid) (λ p. is_space_call (reg p.cpu 17) ≡ true → stops old new (effects_of (row (call_by p) p (kernel_of man (held old) k))))
  break_stops h =
      each_process man pid (λ p. is_space_call (reg p.cpu 17) ≡ true → stops old new (effects_of (row (call_by p) p (kernel_of man (held old) k))))
      (λ p is there mine.
      let own : cpu ≡ p.cpu = of_process man pid (λ q. cpu ≡ q.cpu) p there own_cpu in
      subst (λ (r : Called). stops old new (effects_of r)) (sym (row_is p is there)) (h (ap (λ (c : Cpu). is_space_call (reg c 17)) own ∙ mine) p (kernel_of man (held old) k)))
