-- Which calls are on processes, and what a turn does once a call has ended.
use Rattle.std.specs.Prelude.{◌≡◌, ℕ, ◌==◌, ◌||◌, ◌++◌, Bool, List, [], ◌∷◌}
use Rattle.rv64_step.specs.declared.cpu.Cpu.{Cpu}
use Rattle.rv64_step.specs.Meaning.{next_pc, with_reg}
use Rattle.linux_model.specs.State.{Kernel, Process}
use Rattle.linux_model.specs.Effects.{Effect, Returns, Keeps, applies}
use Rattle.linux_model.specs.Calls.{called}
use Rattle.linux_model.specs.Managed.{Managed, managed_after_all, with_managed}
use Rattle.linux_model.specs.ProcessCalls.{dying}
use Rattle.call_machine.specs.declared.end.CallEnd.{CallEnd}
use Rattle.call_machine.specs.declared.end.CallEnd.TheVariants.{Value, Goes, Waits, Dies}
use Rattle.call_machine.specs.Lent.{ended}

-- ---- by number

-- exit, exit_group, set_tid_address, sched_yield, getpid, getppid, gettid, clone, execve and wait4
abbrev pub is_process_call : ℕ → Bool
is_process_call number =
    number == 93 || number == 94 || number == 96 || number == 124 || number == 172 || number == 173 || number == 178 || number == 220 || number == 221 || number == 260

-- ---- the end of a turn

-- what a turn does once a call has ended, by the registers with which it was made
abbrev pub end_effects : ℕ → Cpu → CallEnd → Kernel → List Effect
end_effects pid cpu (Value value) k = Returns pid (with_reg cpu 10 value (next_pc cpu)) ∷ []
end_effects pid cpu (Goes registers) k = Returns pid registers ∷ []
end_effects pid cpu (Waits w) k = Keeps pid w.moved w.len ∷ []
end_effects pid cpu (Dies status) k = dying pid status k

-- The effects of a call with those of its end are all that linux_model's turn has of the call; and once they happened, what is
-- managed is that of the kernel that they make.
pub record EndFollows : Type 0 where
  pub turn : (p : Process) (end : CallEnd) (effects : List Effect) (k : Kernel) → called p (ended end effects) k ≡ effects ++ end_effects p.pid p.cpu end (applies effects k)
  pub managed : (effects : List Effect) (man : Managed) (k : Kernel) → applies effects (with_managed man k) ≡ with_managed (managed_after_all effects man) (applies effects (with_managed man k))
