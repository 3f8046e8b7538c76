-- The break of a process, set twice.
use Rattle.std.proofs.Common.{◌≡◌, ℕ, Bool, true, false, cond, eqb, refl, List, [], ◌∷◌}
use Rattle.kernel_objects.specs.declared.process.Brk.{Brk}
use Rattle.linux_model.specs.State.{Process}
use Rattle.linux_model.specs.Processes.{at_pid}
use Rattle.sys_space.specs.Calls.{with_break}

twice_at : (b c : Bool) (brk brk' : Brk) (p : Process) → c ≡ b → cond c (with_break brk' (cond b (with_break brk p) p)) (cond b (with_break brk p) p) ≡ cond b (with_break brk' p) p
twice_at true true brk brk' p e = refl
twice_at false false brk brk' p e = refl
twice_at true false brk brk' p e = cc e
twice_at false true brk brk' p e = cc e

pid_stays : (b : Bool) (brk : Brk) (p : Process) (pid : ℕ) → eqb (cond b (with_break brk p) p).pid pid ≡ eqb p.pid pid
pid_stays true brk p pid = refl
pid_stays false brk p pid = refl

pub break_twice : (pid : ℕ) (brk brk' : Brk) (procs : List Process) → at_pid pid (with_break brk') (at_pid pid (with_break brk) procs) ≡ at_pid pid (with_break brk') procs
break_twice pid brk brk' [] = refl
break_twice pid brk brk' (p ∷ procs) = λ i.
    twice_at (eqb p.pid pid) (eqb (cond (eqb p.pid pid) (with_break brk p) p).pid pid) brk brk' p (pid_stays (eqb p.pid pid) brk p pid) i
    ∷ break_twice pid brk brk' procs i
