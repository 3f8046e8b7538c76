-- What a call rests on.
use Rattle.std.specs.Prelude.{◌≡◌, ℕ, ◌≤◌, true, IfSome}
use Rattle.lego_base.specs.declared.sizes.TheConstants.{USER_END}
use Rattle.linux_model.specs.Held.{Held}
use Rattle.linux_model.specs.Managed.{Managed}
use Rattle.linux_model.specs.Processes.{process}
use Rattle.manager.specs.Words.{is_alive}
use Rattle.call_machine.specs.Lent.{FitTogether}
use Rattle.sys_process.specs.Words.{CanFork}

-- the break of a process is in user space
abbrev pub BreakIsLow : ℕ → Managed → Type 0
BreakIsLow pid man = IfSome (process man.procs pid) (λ p. p.brk.now ≤ USER_END)

-- The process lives, what is managed fits to what is held, there is a pid for a child, and the break is in user space.
pub record CanCall (pid : ℕ) (man : Managed) (held : Held) : Type 0 where
  pub alive : is_alive pid man ≡ true
  pub fit : FitTogether man held
  pub fork : CanFork man held
  pub low : BreakIsLow pid man
